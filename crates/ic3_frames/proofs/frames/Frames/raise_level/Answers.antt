use Rattle.std.proofs.Common.{◌+◌, rules}
use Rattle.ic3_frames.proofs.Distinct.{same_trans, still_out}
use Rattle.ic3_frames.proofs.Swept.{swept_left, swept_next}
use Rattle.ic3_frames.proofs.frames.Frames.raise_level.Goals as goal
use Rattle.ic3_frames.proofs.frames.Frames.raise_level.Goals.{in-Empty, in-Left}

pub returns-in_err-raise_at-clause-same : goal.returns-in_err-raise_at-clause-same
returns-in_err-raise_at-clause-same c =
    same_trans c.args.system.now c.args.level c.args.self.now.lemmas c.loop-at.self.lemmas c.raise_at.new.self.lemmas c.loop-at.invariant.same c.raise_at.ensures.same

pub returns-in-Spent-clause-same : goal.returns-in-Spent-clause-same
returns-in-Spent-clause-same c =
    same_trans c.args.system.now c.args.level c.args.self.now.lemmas c.loop-at.self.lemmas c.raise_at.new.self.lemmas c.loop-at.invariant.same c.raise_at.ensures.same

pub loop-at-preserved : goal.loop-at-preserved
loop-at-preserved c =
    let same =
    same_trans c.args.system.now c.args.level c.args.self.now.lemmas c.loop-at.self.lemmas c.raise_at.new.self.lemmas c.loop-at.invariant.same c.raise_at.ensures.same in
    elim c.match-branch-2.branch [
      | in-Empty w ↦
          let passed = rw w.in-Empty.is at c.in_ok-raise_at.ensures.place in
          record {
            kept = c.raise_at.ensures.kept;
            point = search rules;
            depth = search rules;
            long = search rules;
            uses = search rules;
            same = same;
            out = λ e. still_out c.args.system.now c.args.level c.loop-at.self.lemmas c.raise_at.new.self.lemmas c.raise_at.ensures.same (c.loop-at.invariant.out (rw w.left-is at e));
            swept = rw w.left-is (swept_next c.loop-at.self.lemmas c.raise_at.new.self.lemmas c.args.level c.loop-at.at c.loop-at.left c.loop-at.invariant.swept c.raise_at.ensures.length passed);
          }
      | in-Left w ↦
          let place = rw w.in-Left.is at c.in_ok-raise_at.ensures.place in
          record {
            kept = c.raise_at.ensures.kept;
            point = search rules;
            depth = search rules;
            long = search rules;
            uses = search rules;
            same = same;
            out = λ e. still_out c.args.system.now c.args.level c.loop-at.self.lemmas c.raise_at.new.self.lemmas c.raise_at.ensures.same place.1;
            swept = rw w.left-is (swept_left c.raise_at.new.self.lemmas c.args.level (c.loop-at.at + 1));
          }
    ]
