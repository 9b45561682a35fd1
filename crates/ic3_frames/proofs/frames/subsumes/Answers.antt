use Rattle.std.proofs.Common.{sym, ◌∙◌}
use Rattle.ic3_frames.proofs.Swept.{subsumes_is}
use Rattle.ic3_frames.proofs.frames.subsumes.Goals as goal

pub returns : goal.returns
returns c = λ all.
    let contained = c.has_all.ensures all in
    subsumes_is c.args.first.now c.args.second.now (sym c.is_at_least.ensures ∙ c.if-not-is_at_least.false)
    (rw (c.as_slice.ensures, c.as_slice-2.ensures) at contained)
