use Rattle.std.proofs.Common.{◌≡◌, ◌+◌, ℕ, List, ◌++◌, ◌∷◌, [], take, drop, refl, sym, ◌∙◌, ap, subst}
use Rattle.vlog_tokens.specs.declared.turn.Turn.{Turn}
use Rattle.vlog_tokens.specs.declared.turn.Turn.TheVariants.{Pass, Take, NoEnd, NoValue, Nothing}
use Rattle.vlog_tokens.specs.Places.{past}
use Rattle.vlog_tokens.specs.Reads.{turn}
use Rattle.vlog_tokens.specs.Tokens.{Token}
use Rattle.vlog_tokens.proofs.Turns.{IsTurn, turn_is}
use Rattle.vlog_tokens.proofs.Reading.{moved, pass_turn, take_turn, no_end, no_value, nothing, all_read}
use Rattle.vlog_tokens.proofs.divide.divided.Goals as goal

meant : (text : List ℕ) (t : Turn) → t ≡ turn text → IsTurn text t
meant text t e = subst (λ z. IsTurn text z) (sym e) (turn_is text)

pub loop-rest-preserved-in-Pass : goal.loop-rest-preserved-in-Pass
loop-rest-preserved-in-Pass c =
    let rest = c.loop-rest.rest.now in
    let n = c.in-Pass.length in
    let up = pass_turn c.args.text.now c.loop-rest.from c.loop-rest.at rest c.loop-rest.found n c.loop-rest.invariant (meant rest (Pass n) c.in-Pass.ensures.value) in
    moved _ _ _ _ _ _ _ _ _ refl (c.past-at.ensures ∙ ap (past c.loop-rest.at) c.split_at.ensures.front) c.split_at.ensures.back refl up

pub loop-rest-preserved : goal.loop-rest-preserved
loop-rest-preserved c =
    let rest = c.loop-rest.rest.now in
    let n = c.in-Take.length in
    let at = c.loop-rest.at in
    let up = take_turn c.args.text.now c.loop-rest.from at rest c.loop-rest.found n c.loop-rest.invariant (meant rest (Take n) c.in-Take.ensures.value) in
    moved _ _ _ _ _ _ _ _ _ refl (c.past-at-in-Take.ensures ∙ ap (past at) c.split_at-in-Take.ensures.front) c.split_at-in-Take.ensures.back
    (c.in_ok-push-in-Take.ensures.ok ∙ ap (λ (t : Token). c.loop-rest.found ++ t ∷ []) (c.new.ensures ∙ ap (λ (z : List ℕ). record { text = z; at = at; from = c.loop-rest.from }) c.split_at-in-Take.ensures.front)) up

pub returns-in-NoEnd : goal.returns-in-NoEnd
returns-in-NoEnd c = no_end c.args.text.now c.loop-rest.from c.loop-rest.at c.loop-rest.rest.now c.loop-rest.found c.loop-rest.invariant (meant c.loop-rest.rest.now NoEnd c.in-NoEnd.ensures.value)

pub returns-in-NoValue : goal.returns-in-NoValue
returns-in-NoValue c = no_value c.args.text.now c.loop-rest.from c.loop-rest.at c.loop-rest.rest.now c.loop-rest.found c.loop-rest.invariant (meant c.loop-rest.rest.now NoValue c.in-NoValue.ensures.value)

pub returns-in-Nothing : goal.returns-in-Nothing
returns-in-Nothing c = nothing c.args.text.now c.loop-rest.from c.loop-rest.at c.loop-rest.rest.now c.loop-rest.found c.loop-rest.invariant c.in-len1-up.len_at_least (meant c.loop-rest.rest.now Nothing c.in-Nothing.ensures.value)

pub returns : goal.returns
returns c = all_read c.args.text.now c.loop-rest.from c.loop-rest.at c.loop-rest.rest.now c.loop-rest.found c.loop-rest.invariant c.in_default.len_below
