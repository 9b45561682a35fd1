use Rattle.std.proofs.Common.{◌≡◌, ◌∙◌, false, replicate, rules}
use Rattle.point_cone.proofs.Whole.{elsewhere, part_put}
use Rattle.point_cone.proofs.build.Cone.input.Goals as goal

pub returns-clause-part : goal.returns-clause-part
returns-clause-part c =
    let put = rw c.as_slice.ensures at c.put.ensures in
    part_put c.args.self.now.inputs c.args.input.now c.from_vec-values.result c.put.new.values (c.requires.input ∙ c.requires.cone.input_count) put

pub returns-clause-elsewhere : goal.returns-clause-elsewhere
returns-clause-elsewhere c =
    let put = rw c.as_slice.ensures at c.put.ensures in
    let old : c.from_vec-values.result ≡ replicate c.args.system.now.graph.inputs false = search rules in
    elsewhere c.args.self.now.inputs c.args.input.now (replicate c.args.system.now.graph.inputs false) c.put.new.values (rw old at put)
