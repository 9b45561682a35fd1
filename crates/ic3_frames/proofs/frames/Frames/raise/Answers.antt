use Rattle.std.proofs.Common.{◌+◌, ap, refl}
use Rattle.ic3_frames.specs.Framed.{Framed}
use Rattle.ic3_frames.proofs.Distinct.{left_out, set_same}
use Rattle.ic3_frames.proofs.Laws.{cube_bits, kept_set}
use Rattle.ic3_frames.proofs.frames.Frames.raise.Goals as goal

pub query_step-requires-clause-cube : goal.query_step-requires-clause-cube
query_step-requires-clause-cube c =
    let place = rw c.as_slice.ensures at c.index-as_slice-at.is in
    cube_bits c.args.system.now c.args.self.now c.self.inside.point c.self.inside.lemmas c.self.inside.depth c.args.at c.index-as_slice-at.result c.in_ok-cube.cube
    c.self.view_is c.requires.kept c.requires.at place c.in_ok-cube.ensures

pub returns-in-Refuted-clause-kept : goal.returns-in-Refuted-clause-kept
returns-in-Refuted-clause-kept c =
    let place = rw c.as_slice.ensures at c.index-as_slice-at.is in
    let found = rw c.in-Refuted.is at c.in_ok-query_step.ensures.finds in
    let view = rw c.in_ok-query_step.ensures.same at c.self-2.view_is in
    kept_set c.args.system.now c.args.self.now c.self.inside.point c.self-2.inside.point c.self.inside.lemmas c.self-2.inside.lemmas c.set.new.self
    c.self.inside.depth c.self-2.inside.depth c.args.at c.args.level (c.args.level + 1) c.index-as_slice-at.result c.in_ok-lemma-in-Refuted.lemma c.in_ok-cube.cube
    c.self.view_is view c.requires.kept c.requires.at c.requires.level place refl c.in_ok-cube.ensures found.0 c.in_ok-lemma-in-Refuted.ensures c.set.ensures

pub returns-in-Refuted-clause-same : goal.returns-in-Refuted-clause-same
returns-in-Refuted-clause-same c =
    let place = rw c.as_slice.ensures at c.index-as_slice-at.is in
    let view = rw c.in_ok-query_step.ensures.same at c.self-2.view_is in
    set_same c.args.system.now c.args.self.now c.self.inside.point c.self-2.inside.point c.self.inside.lemmas c.self-2.inside.lemmas c.set.new.self
    c.self.inside.depth c.self-2.inside.depth c.args.at c.args.level (c.args.level + 1) c.index-as_slice-at.result c.in_ok-lemma-in-Refuted.lemma c.in_ok-cube.cube
    c.self.view_is view c.requires.at c.requires.level place refl c.in_ok-cube.ensures c.in_ok-lemma-in-Refuted.ensures c.set.ensures

pub returns-in-Found-clause-place : goal.returns-in-Found-clause-place
returns-in-Found-clause-place c =
    let place = rw c.as_slice.ensures at c.index-as_slice-at.is in
    let found = rw c.in-Found.is at c.in_ok-query_step.ensures.finds in (
      ap (λ (f : Framed). f.lemmas) c.in_ok-query_step.ensures.same,
      left_out c.args.system.now c.args.self.now c.self.inside.point c.self.inside.lemmas c.self.inside.depth c.args.at c.args.level (c.args.level + 1) c.index-as_slice-at.result c.in_ok-cube.cube
          _ _ c.self.view_is c.requires.at c.requires.level place refl c.in_ok-cube.ensures found.0,
    )
