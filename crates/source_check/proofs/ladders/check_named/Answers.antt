use Rattle.std.proofs.Common.{◌≡◌, map, OnOk, IfErr, subst, ◌∙◌}
use Rattle.bit_system.specs.declared.ladder.Ladder.{Ladder}
use Rattle.bit_system.specs.Accepted.{IsAccepted}
use Rattle.ladder_check.specs.Faults.{IsLadderFault}
use Rattle.source_check.specs.Ladders.{state_names, state_of, lemma_of}
use Rattle.source_check.specs.Places.{place_in}
use Rattle.source_check.proofs.ladders.check_named.Goals as goal

pub returns-clause-accepted : goal.returns-clause-accepted
returns-clause-accepted c =
    let same : place_in c.args.places.now ≡ state_of (state_names c.args.system.now.states) = λ j name. c.requires.names name j in
    let lemmas = c.as_slice-2.ensures ∙ c.in_ok-lemmas.ensures ∙ (λ j. map (lemma_of (same j)) (c.as_slice.ensures j)) in
    let whole = c.new-lent.ensures ∙ (λ j. let l : Ladder = record { depth = c.args.depth; lemmas = lemmas j; steps = c.as_slice-3.ensures j; hit = c.as_ref.ensures.value j } in l) in
    subst (λ (l : Ladder). OnOk c.check_with.result (IsAccepted c.args.system.now c.args.point l)) whole c.check_with.ensures.accepted

pub returns-clause-fault : goal.returns-clause-fault
returns-clause-fault c =
    let same : place_in c.args.places.now ≡ state_of (state_names c.args.system.now.states) = λ j name. c.requires.names name j in
    let lemmas = c.as_slice-2.ensures ∙ c.in_ok-lemmas.ensures ∙ (λ j. map (lemma_of (same j)) (c.as_slice.ensures j)) in
    let whole = c.new-lent.ensures ∙ (λ j. let l : Ladder = record { depth = c.args.depth; lemmas = lemmas j; steps = c.as_slice-3.ensures j; hit = c.as_ref.ensures.value j } in l) in
    subst (λ (l : Ladder). IfErr c.check_with.result (IsLadderFault c.args.system.now c.args.point l)) whole c.check_with.ensures.fault
