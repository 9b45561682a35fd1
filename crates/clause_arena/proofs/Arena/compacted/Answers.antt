use Rattle.std.proofs.Common.{◌<◌, length, refl, sym, ◌∙◌, arith}
use Rattle.clause_arena.proofs.Moved.{skip-more, keep-more}
use Rattle.clause_arena.proofs.Arena.compacted.Goals as goal
use Rattle.clause_arena.proofs.Arena.compacted.Goals.{then-is_live+in_ok-to+in_ok-push, else-is_live}

pub loop-at-preserved : goal.loop-at-preserved
loop-at-preserved c =
    let there : c.loop-at.at < length c.args.self.now.places = omega (arith, c.len-at-end.ensures) in
    elim
    c.if-is_live.branch [
      | then-is_live+in_ok-to+in_ok-push w ↦
          rw
          (w.fresh-is, w.moves-is, w.in_ok-to.ensures.ok, w.in_ok-push.ensures.ok)
          (keep-more
          c.args.self.now.places
          c.loop-at.fresh.places
          c.loop-at.moves
          c.loop-at.at
          w.get.result.now
          _
          there
          c.loop-at.invariant
          w.get.ensures
          refl
          w.in_ok-to.ensures.place)
      | else-is_live w ↦
          rw
          (w.fresh-is, w.moves-is)
          (skip-more c.args.self.now.places c.loop-at.fresh.places c.loop-at.moves c.loop-at.at there c.loop-at.invariant (sym c.is_live.ensures ∙ w.if-is_live.false))
    ]
