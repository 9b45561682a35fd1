use Rattle.std.proofs.Common.{◌∙◌}
use Rattle.point_cone.specs.Back.{starting}
use Rattle.point_cone.proofs.Whole.{elsewhere, part_put, start_put}
use Rattle.point_cone.proofs.build.Cone.start.Goals as goal

pub returns-clause-start : goal.returns-clause-start
returns-clause-start c =
    let values = rw c.states.ensures.value at c.in_ok-values.ensures in
    let put = rw (c.as_slice.ensures, values) at c.put.ensures in
    start_put c.args.system.now c.args.self.now c.args.start.now c.put.new.values c.requires.cone c.requires.start put

pub returns-clause-part : goal.returns-clause-part
returns-clause-part c =
    let put = rw c.as_slice.ensures at c.put.ensures in
    part_put c.args.self.now.states c.args.start.now c.in_ok-values.values c.put.new.values (c.requires.start.is_state ∙ c.requires.cone.state_count) put

pub returns-clause-elsewhere : goal.returns-clause-elsewhere
returns-clause-elsewhere c =
    let values = rw c.states.ensures.value at c.in_ok-values.ensures in
    let put = rw (c.as_slice.ensures, values) at c.put.ensures in
    elsewhere c.args.self.now.states c.args.start.now (starting c.args.system.now.states) c.put.new.values put
