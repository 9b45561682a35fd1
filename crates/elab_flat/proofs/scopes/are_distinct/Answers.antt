use Rattle.std.proofs.Common.{◌≡◌, ◌++◌, [], ◌∷◌, refl}
use Rattle.std.specs.Prelude.{Contains}
use Rattle.std.proofs.lemmas.Bool.{false≢true, MatchBool-at_true, MatchBool-at_false}
use Rattle.elab_flat.specs.declared.nets.Net.{Net}
use Rattle.elab_flat.proofs.NetNames.{declaring_more, declared_twice, declared_all}
use Rattle.elab_flat.proofs.scopes.are_distinct.Goals as goal

pub loop-net-preserved : goal.loop-net-preserved
loop-net-preserved c =
    let name = c.net-item.result.name in
    let before = c.loop-net.names.keys in
    let after = c.add_name.new.names.keys in
    declaring_more (λ (n : Net). n.name) c.args.nets.now c.loop-net.net-index c.net-item.result before c.net-item.is c.loop-net-test.true after
    (MatchBool-at_true (after ≡ before ++ name ∷ []) (after ≡ before) c.if-not-branch.false c.in_ok-add_name.ensures.new)
    (MatchBool-at_true (Contains before name → ⊥) (Contains before name) c.if-not-branch.false c.in_ok-add_name.ensures.absent)
    c.loop-net.invariant

pub returns-then-not-branch : goal.returns-then-not-branch
returns-then-not-branch c =
    let name = c.net-item.result.name in
    let before = c.loop-net.names.keys in (
      λ e. absurd (false≢true e),
      λ distinct. absurd (declared_twice (λ (n : Net). n.name) c.args.nets.now c.loop-net.net-index c.net-item.result before c.net-item.is c.loop-net-test.true
          (MatchBool-at_false (Contains before name → ⊥) (Contains before name) c.if-not-branch.true c.in_ok-add_name.ensures.absent)
          c.loop-net.invariant distinct),
    )

pub returns : goal.returns
returns c =
    (λ e. (declared_all (λ (n : Net). n.name) c.args.nets.now c.loop-net.net-index c.loop-net.names.keys c.loop-net-test.false c.loop-net.invariant).1, λ h. refl)
