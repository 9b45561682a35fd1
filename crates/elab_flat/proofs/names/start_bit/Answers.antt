use Rattle.expr_elab.specs.Vectors.{vector_width}
use Rattle.elab_flat.proofs.Listed.{start_bit_is}
use Rattle.elab_flat.proofs.names.start_bit.Goals as goal

pub returns : goal.returns
returns c = start_bit_is (vector_width c.args.net.now.vector) c.args.place c.args.net.now.start c.in_ok-start.start c.in_ok-start.was c.requires
