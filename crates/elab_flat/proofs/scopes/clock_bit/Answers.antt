use Rattle.std.proofs.Common.{◌≡◌, true, sym, refl, subst, ◌∙◌}
use Rattle.std.specs.Prelude.{All}
use Rattle.std.proofs.lemmas.Bool.{false≢true}
use Rattle.std.proofs.lemmas.List.{take_all}
use Rattle.std.proofs.lemmas.List.Elements.{All-more, All-contains}
use Rattle.expr_elab.specs.Vectors.{vector_width}
use Rattle.elab_flat.specs.declared.nets.Net.{Net}
use Rattle.elab_flat.proofs.scopes.clock_bit.Goals as goal

pub loop-net-preserved : goal.loop-net-preserved
loop-net-preserved c =
    let Other : Net → Type 0 = λ n. (n.name ≡ c.args.clock.now) × (n.input ≡ true) × (vector_width n.vector ≡ 1) → ⊥ in
    All-more Other c.args.nets.now c.loop-net.net-index c.net-item.result c.loop-net-test.true c.loop-net.invariant
    (subst Other c.net-item.is (λ h. false≢true (sym c.if-is_clock.false ∙ c.is_clock.ensures.1 h)))

pub returns-then-is_clock : goal.returns-then-is_clock
returns-then-is_clock c =
    let is = c.is_clock.ensures.0 c.if-is_clock.true in
    (c.net-item.result, ((c.loop-net.net-index, c.loop-net-test.true, sym c.net-item.is), is.0, is.1, is.2), refl)

pub returns : goal.returns
returns c n is =
    let Other : Net → Type 0 = λ n. (n.name ≡ c.args.clock.now) × (n.input ≡ true) × (vector_width n.vector ≡ 1) → ⊥ in
    All-contains Other c.args.nets.now n (subst (All Other) (take_all c.loop-net.net-index c.args.nets.now c.loop-net-test.false) c.loop-net.invariant) is.0 (is.1, is.2, is.3)
