use Rattle.point_cone.proofs.Whole.{lemma_is}
use Rattle.point_cone.proofs.back.law_lemmas_are_same.Goals as goal

pub returns : goal.returns
returns c whole cone lemma h low = lemma_is whole cone h lemma low
