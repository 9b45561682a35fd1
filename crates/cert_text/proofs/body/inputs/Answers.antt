use Rattle.std.proofs.Common.{◌≡◌, Some, None, sym, ◌∙◌, codes}
use Rattle.line_text.specs.Lines.{words}
use Rattle.cert_text.specs.Certs.{bits_line_of, in_or_end}
use Rattle.line_text.proofs.Loop.{goes_on, ends, is_bad}
use Rattle.cert_text.proofs.Inputs.{input_found, end_found, no_input_found}
use Rattle.cert_text.proofs.body.inputs.Goals as goal

pub loop-inputs-preserved : goal.loop-inputs-preserved
loop-inputs-preserved c =
    let l = words c.in_ok-line.line.now in
    let h : bits_line_of (codes "in") l ≡ Some c.in-Some.bits = sym c.in_ok-bits.ensures ∙ c.in-Some.is in
    rw c.in_ok-push-in-Some.ensures.ok (goes_on in_or_end c.loop-inputs.inputs c.loop-inputs.lines l c.next.new.self c.in-Some.bits _ c.in_ok-line.ensures (input_found c.loop-inputs.inputs l c.in-Some.bits h) c.loop-inputs.invariant)

pub returns-in-Some-is_alone : goal.returns-in-Some-is_alone
returns-in-Some-is_alone c =
    let l = words c.in_ok-line.line.now in
    let h : bits_line_of (codes "in") l ≡ None = sym c.in_ok-bits.ensures ∙ c.in-None.is in
    ends in_or_end c.loop-inputs.inputs c.loop-inputs.lines l c.next.new.self tt _ c.in_ok-line.ensures (end_found c.loop-inputs.inputs l h (sym c.in-Some-is_alone.ensures)) c.loop-inputs.invariant

pub returns-in-None-is_alone : goal.returns-in-None-is_alone
returns-in-None-is_alone c =
    let l = words c.in_ok-line.line.now in
    let h : bits_line_of (codes "in") l ≡ None = sym c.in_ok-bits.ensures ∙ c.in-None.is in
    rw c.line-at.ensures (is_bad in_or_end c.loop-inputs.inputs c.loop-inputs.lines l c.next.new.self _ c.in_ok-line.ensures (no_input_found c.loop-inputs.inputs l h (sym c.in-None-is_alone.ensures)) c.loop-inputs.invariant)
