use Rattle.std.proofs.Common.{◌+◌, rules, sym, ap, ◌∙◌, Some}
use Rattle.design_core.specs.declared.flat.Stmt.TheFolds as folds
use Rattle.bit_exprs.specs.declared.forms.Expr.TheFolds as folds2
use Rattle.aig_core.proofs.Values.{Extends-trans, IsLiteral-Extends}
use Rattle.plain_blast.specs.Plain.{fork_of, run_of, wiring}
use Rattle.plain_blast.specs.Choice.{choose_at}
use Rattle.plain_blast.proofs.Existing.{all_kept, paths_kept}
use Rattle.plain_blast.proofs.Collecting.{saved_exist}
use Rattle.plain_blast.proofs.Branching.{branch_made, branch_is, block_done, within_item, branch_within, arms_below, past_exist, picked_all, set_all}
use Rattle.plain_blast.proofs.bodies.+run.Goals as goal

pub saved_in_arms-requires : goal.saved_in_arms-requires
saved_in_arms-requires t c = arms_below _ _ _ _ _ _ _ _ _ c.in-Branch.is c.requires.within c.get.ensures c.get-in-Branch.ensures

pub run-requires : goal.run-requires
run-requires t c =
    let at = branch_within _ _ _ _ _ _ _ c.in-Branch.is c.requires.within in
    let kept = c.split.ensures.kept in
    let path = c.in_ok-fork-in-Branch.ensures.then_exists in (
      search (rules, folds.the_lemmas, folds2.the_lemmas),
      (
        rw c.get-in-Branch-2.ensures at.2,
        (
          c.requires.settled_long,
          (
            all_kept _ _ _ kept c.requires.settled_exist,
            (
              path,
              record {
                targets_exist = all_kept _ _ _ kept c.requires.exist.targets_exist;
                paths_exist = past_exist _ (Some c.in-Branch.site) c.in_ok-fork-in-Branch.fork.then_path c.args.paths.now.items _ (paths_kept _ _ _ kept c.requires.exist.paths_exist) path c.in_ok-pass-in-Branch.ensures;
              },
            ),
          ),
        ),
      ),
    )

pub run-requires-in-Branch : goal.run-requires-in-Branch
run-requires-in-Branch t c =
    let at = branch_within _ _ _ _ _ _ _ c.in-Branch.is c.requires.within in
    let up = Extends-trans _ _ _ c.split.ensures.kept c.run.ensures.kept in
    let path = IsLiteral-Extends _ _ _ c.run.ensures.kept c.in_ok-fork-in-Branch.ensures.else_exists in
    let before = all_kept _ _ _ up (saved_exist _ _ _ _ _ c.requires.exist.targets_exist c.in_ok-before-in-Branch.ensures) in
    let long = c.exchanged.ensures.long ∙ c.run.ensures.long in (
      search (rules, folds.the_lemmas, folds2.the_lemmas),
      (
        rw (c.get-in-Branch-3.ensures, long) at.3,
        (
          (λ y. c.requires.settled_long y ∙ sym long),
          (
            all_kept _ _ _ up c.requires.settled_exist,
            (
              path,
              record {
                targets_exist = set_all c.run.new.aig c.in_ok-before-in-Branch.before.bits.items c.in_ok-before-in-Branch.before.literals.items c.run.new.targets c.exchanged.new.targets before c.in_ok-run-in-Branch.ensures.exist.targets_exist c.in_ok-chosen-in-Branch.ensures.targets;
                paths_exist = past_exist _ (Some (c.in-Branch.site + 1)) c.in_ok-fork-in-Branch.fork.else_path c.run.new.paths.items _ c.in_ok-run-in-Branch.ensures.exist.paths_exist path c.in_ok-pass-in-Branch-2.ensures;
              },
            ),
          ),
        ),
      ),
    )

pub choose-requires-clause-saved_exist : goal.choose-requires-clause-saved_exist
choose-requires-clause-saved_exist t c =
    all_kept _ _ _ c.run-in-Branch.ensures.kept (picked_all c.run.new.aig c.run.new.targets c.in_ok-before-in-Branch.before.bits.items _ c.in_ok-run-in-Branch.ensures.exist.targets_exist
    (rw c.run.ensures.long c.in_ok-before-in-Branch.ensures.within) c.in_ok-chosen-in-Branch.ensures.literals)

pub run-requires-in-loop-s : goal.run-requires-in-loop-s
run-requires-in-loop-s t c = (
  search (rules, folds.the_lemmas, folds2.the_lemmas),
  (
    within_item _ _ _ _ _ _ _ _ c.requires.within c.in-Block.is c.as_slice-s-items.ensures c.s-item.is c.loop-s-test.true c.loop-s.invariant.long,
    ((λ y. c.requires.settled_long y ∙ sym c.loop-s.invariant.long), (c.loop-s.invariant.settled_exist, (c.loop-s.invariant.path_exists, c.loop-s.invariant.exist))),
  ),
)

pub returns-in_ok-choose-in-Branch-clause-exact : goal.returns-in_ok-choose-in-Branch-clause-exact
returns-in_ok-choose-in-Branch-clause-exact t c =
    branch_is c.args.body.now c.in-Branch.site c.in-Branch.cond c.in-Branch.yes c.in-Branch.no c.args.clocked c.args.settled.now c.args.path
    (wiring c.args.aig.now c.args.targets.now c.args.paths.now.items) (wiring c.choose.new.aig c.choose.new.targets c.run-in-Branch.new.paths.items) c.in-Branch.is
    (branch_made c.in-Branch.site c.in-Branch.cond c.in-Branch.yes c.in-Branch.no c.args.clocked c.args.settled.now c.args.path
    c.args.aig.now c.split.new.aig c.run.new.aig c.run-in-Branch.new.aig c.choose.new.aig
    c.args.targets.now c.run.new.targets c.exchanged.new.targets c.run-in-Branch.new.targets c.choose.new.targets
    c.args.paths.now.items c.pass-in-Branch.new.paths.items c.run.new.paths.items c.pass-in-Branch-2.new.paths.items c.run-in-Branch.new.paths.items
    c.in_ok-fork-in-Branch.fork c.in_ok-before-in-Branch.before.bits.items c.in_ok-before-in-Branch.before.literals.items c.in_ok-chosen-in-Branch.chosen.literals.items
    record {
      forked = c.in_ok-fork-in-Branch.ensures.exact ∙ ap (λ bits. fork_of c.in-Branch.cond c.args.path bits c.args.aig.now) c.source.ensures;
      saved = rw (← c.get.ensures, ← c.get-in-Branch.ensures) c.in_ok-before-in-Branch.ensures;
      then_passed = c.in_ok-pass-in-Branch.ensures;
      then_ran = c.in_ok-run-in-Branch.ensures.exact
          ∙ ap (λ s. run_of s c.args.clocked c.args.settled.now c.in_ok-fork-in-Branch.fork.then_path (wiring c.split.new.aig c.args.targets.now c.pass-in-Branch.new.paths.items)) c.get-in-Branch-2.ensures;
      then_long = c.run.ensures.long;
      kept = c.in_ok-chosen-in-Branch.ensures.literals;
      put = c.in_ok-chosen-in-Branch.ensures.targets;
      else_passed = c.in_ok-pass-in-Branch-2.ensures;
      else_ran = c.in_ok-run-in-Branch-2.ensures.exact
          ∙ ap (λ s. run_of s c.args.clocked c.args.settled.now c.in_ok-fork-in-Branch.fork.else_path (wiring c.run.new.aig c.exchanged.new.targets c.pass-in-Branch-2.new.paths.items)) c.get-in-Branch-3.ensures;
      else_long = c.run-in-Branch.ensures.long;
      chosen = c.in_ok-choose-in-Branch.ensures.exact
          ∙ ap (λ bits. choose_at c.run-in-Branch.new.aig c.in_ok-fork-in-Branch.fork.test bits c.in_ok-chosen-in-Branch.chosen.literals.items c.run-in-Branch.new.targets) c.in_ok-chosen-in-Branch.ensures.bits;
    })

pub returns-after-loop-s-clause-exact : goal.returns-after-loop-s-clause-exact
returns-after-loop-s-clause-exact t c =
    block_done _ _ _ _ _ _ _ (wiring c.loop-s.aig c.loop-s.targets c.loop-s.paths.items) (wiring c.args.aig.now c.args.targets.now c.args.paths.now.items) c.in-Block.is c.as_slice-s-items.ensures c.loop-s-test.false c.loop-s.invariant.rest
