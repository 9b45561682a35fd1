use Rattle.std.proofs.Common.{◌≡◌, ◌+◌, ℕ, List, drop, get_or, length, replicate, ap, sym, ◌∙◌, refl, arith}
use Rattle.std.proofs.lemmas.List.{take_rest}
use Rattle.aig_core.proofs.Values.{Extends-trans}
use Rattle.word_blast.specs.Steps.{move_of}
use Rattle.word_blast.specs.Words.{circuit_any, circuit_mux, shift_from}
use Rattle.word_blast.proofs.ShiftLaws.{shift_from-more, shift_from-end, shift_from-done, move_width}
use Rattle.word_blast.proofs.shifts.shift.Goals as goal

pub loop-i-preserved : goal.loop-i-preserved
loop-i-preserved c =
    let i = c.loop-i.invariant in
    let e = c.in_ok-shifted-2.ensures in
    let d = c.args.direction in
    let f = c.args.fill in
    let r : ℕ = get_or c.args.by.now c.loop-i.i 0 in
    let xs : List ℕ = c.loop-i.shifted.items in
    let stage : c.deref-in-loop-i-2.result.now ≡ move_of d f c.loop-i.places xs
    = c.deref-in-loop-i-2.ensures.value ∙ c.in_ok-stage.ensures ∙ ap (move_of d f c.loop-i.places) c.deref-in-loop-i.ensures.value in
    let chosen : (c.choose-in-loop-i.new.aig, c.in_ok-shifted-2.shifted.items) ≡ circuit_mux c.loop-i.aig r (move_of d f c.loop-i.places xs) xs
    = e.exact ∙ (λ j. circuit_mux c.loop-i.aig r (stage j) (c.deref-in-loop-i-3.ensures.value j)) in
    let step = shift_from-more (move_of d f) f c.loop-i.aig c.choose-in-loop-i.new.aig xs c.in_ok-shifted-2.shifted.items c.loop-i.places r c.args.by.now c.loop-i.i (omega arith) (omega (arith, i.width)) refl chosen in
    record {
      rest = ap (λ (p : ℕ). shift_from (move_of d f) f c.choose-in-loop-i.new.aig c.in_ok-shifted-2.shifted.items p (drop (c.loop-i.i + 1) c.args.by.now)) (omega arith) ∙ sym step ∙ i.rest;
      kept = Extends-trans c.args.aig.now c.loop-i.aig c.choose-in-loop-i.new.aig i.kept e.kept;
      shifted_exists = e.exist;
      width = e.width ∙ ap length stage ∙ move_width d f c.loop-i.places xs ∙ i.width;
    }

pub returns-clause-exact : goal.returns-clause-exact
returns-clause-exact c =
    sym (shift_from-done (move_of c.args.direction c.args.fill) c.args.fill c.loop-i.aig c.loop-i.shifted.items c.loop-i.places c.args.by.now c.loop-i.i (omega arith)) ∙ c.loop-i.invariant.rest

pub returns-then-places-a-clause-exact : goal.returns-then-places-a-clause-exact
returns-then-places-a-clause-exact c =
    let i = c.loop-i.invariant in
    let f = c.args.fill in
    let xs : List ℕ = c.loop-i.shifted.items in
    let further : (c.fold.new.aig, c.in_ok-further.further) ≡ circuit_any c.loop-i.aig (drop c.loop-i.i c.args.by.now)
    = c.in_ok-further.ensures.exact ∙ ap (circuit_any c.loop-i.aig) (take_rest c.args.by.now c.loop-i.i) in
    let chosen : (c.choose.new.aig, c.in_ok-rest.rest.items) ≡ circuit_mux c.fold.new.aig c.in_ok-further.further (replicate (length xs) f) xs
    = c.in_ok-rest.ensures.exact
    ∙ (λ j. circuit_mux c.fold.new.aig c.in_ok-further.further ((c.deref.ensures.value ∙ c.in_ok-filled.ensures ∙ ap (λ (n : ℕ). replicate n f) (sym i.width)) j) (c.deref-then-places-a.ensures.value j)) in
    sym (shift_from-end (move_of c.args.direction f) f c.loop-i.aig c.fold.new.aig c.choose.new.aig xs c.in_ok-rest.rest.items c.loop-i.places c.in_ok-further.further c.args.by.now c.loop-i.i (omega arith) (omega (arith, i.width)) further chosen) ∙ i.rest
