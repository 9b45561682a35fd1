use Rattle.std.proofs.Common.{ap, ◌∙◌}
use Rattle.bit_system.specs.Machine.{Machine}
use Rattle.point_cone.proofs.Made.{cone_fits, cone_is}
use Rattle.point_cone.proofs.build.cone_with.Goals as goal

pub make-small-requires : goal.make-small-requires
make-small-requires c =
    let hits = rw (c.new-hits.ensures, c.name_of.ensures, c.hit.ensures.value) at c.in_ok-push.ensures.ok in
    let infos = rw c.as_slice.ensures at c.in_ok-infos.ensures in
    let next = rw c.as_slice-2.ensures at c.in_ok-next.ensures in
    rw (infos, next, hits)
    (cone_fits c.args.system.now c.hit.ensures.valid c.args.point c.args.marks.now c.smaller.new.names c.in_ok-aig.field-0 c.requires.point c.requires.reached c.in_ok-aig.ensures)

pub returns-clause-cone : goal.returns-clause-cone
returns-clause-cone c =
    let hits = rw (c.new-hits.ensures, c.name_of.ensures, c.hit.ensures.value) at c.in_ok-push.ensures.ok in
    let infos = rw c.as_slice.ensures at c.in_ok-infos.ensures in
    let next = rw c.as_slice-2.ensures at c.in_ok-next.ensures in
    cone_is c.args.system.now c.hit.ensures.valid c.args.point c.args.marks.now c.smaller.new.names c.in_ok-aig.field-0 c.requires.point c.requires.reached c.in_ok-aig.ensures
    c.make-small.result (ap (λ (m : Machine). m.graph) c.make-small.ensures) (ap (λ (m : Machine). m.states) c.make-small.ensures ∙ infos)
    (ap (λ (m : Machine). m.next) c.make-small.ensures ∙ next) (ap (λ (m : Machine). m.hits) c.make-small.ensures ∙ hits)
    c.node_count-nodes.ensures.valid (ap (λ (m : Machine). m.prelude) c.make-small.ensures ∙ c.prelude.ensures)
