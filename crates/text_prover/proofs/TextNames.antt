-- The names in the tree of a text begin with a letter or `_`, and have visible bytes alone, of which none is `[`.
use Rattle.std.proofs.Common.{◌≡◌, ℕ, Bool, true, false, cond, List, [], ◌∷◌, ◌++◌, refl, sym, ap, ◌∙◌, subst}
use Rattle.std.specs.Prelude.{Ok}
use Rattle.std.specs.List.{AllByRecursion}
use Rattle.vlog_tokens.specs.declared.word.Word.TheVariants as w
use Rattle.vlog_tokens.specs.Words.{word_of}
use Rattle.vlog_tokens.specs.Tokens.{Token}
use Rattle.vlog_syntax.specs.declared.module.Tree.{Tree}
use Rattle.vlog_syntax.specs.declared.module.Module.{Module}
use Rattle.vlog_syntax.specs.declared.module.Port.{Port}
use Rattle.vlog_syntax.specs.declared.expr.Ident.{Ident}
use Rattle.vlog_rules.specs.Grammar.{V, same, ident, port, comma_port, ports, module_form, source, rules}
use Rattle.parsing.specs.Forms.{Form, run, within, Each, Spells, Stands}
use Rattle.vlog_modules.specs.Answers.{TextAnswers}
use Rattle.text_prover.proofs.TokenNames.{IsIdent, IsTokenOf, tokens_of, name_token}

-- ---- the derivation

split : (us vs ts : List Token) → ts ≡ us ++ vs → AllByRecursion IsTokenOf ts → AllByRecursion IsTokenOf us × AllByRecursion IsTokenOf vs
split us vs ts e all = parts us (subst (AllByRecursion IsTokenOf) e all)
  where
    parts : (xs : List Token) → AllByRecursion IsTokenOf (xs ++ vs) → AllByRecursion IsTokenOf xs × AllByRecursion IsTokenOf vs
    parts [] h = (tt, h)
    parts (x ∷ xs) h = let p = parts xs h.1 in ((h.0, p.0), p.1)

only_name : (t : Token) → within V (w.Name ∷ []) (word_of t.text) ≡ true → same w.Name (word_of t.text) ≡ true
only_name t e = by (same w.Name (word_of t.text)) e
  where
    by : (b : Bool) → cond b true false ≡ true → b ≡ true
    by true e = refl
    by false e = e

abbrev Spelled : {A : Type 0} → Form V A → ℕ → A → List Token → List Token → Type 0
Spelled a l x ts r = Spells V (Stands V rules) a l x ts r

ident_named : (l : ℕ) (x : Ident) (ts r : List Token) → AllByRecursion IsTokenOf ts → Spelled ident l x ts r → IsIdent x.name
unfolding ident
ident_named l x ts r all h =
    let (t, is, (named, alone)) = h in
    let here : AllByRecursion IsTokenOf (t ∷ []) = subst (AllByRecursion IsTokenOf) alone all in
    subst IsIdent (sym (ap (λ (i : Ident). i.name) is)) (name_token t here.0 (only_name t named))

abbrev pub HasIdent : Port → Type 0
HasIdent p = IsIdent p.name.name

port_named : (l : ℕ) (p : Port) (ts r : List Token) → AllByRecursion IsTokenOf ts → Spelled port l p ts r → HasIdent p
unfolding port
port_named l p ts r all h =
    let (x, is, (us, vs, cut, head, rest)) = h in
    let (us1, vs1, cut1, kinds, rest1) = rest in
    let (us2, vs2, cut2, ranged, rest2) = rest1 in
    let (us3, vs3, cut3, named, value) = rest2 in
    let all1 = (split us vs ts cut all).1 in
    let all2 = (split us1 vs1 vs cut1 all1).1 in
    let all3 = (split us2 vs2 vs1 cut2 all2).1 in
    let here = (split us3 vs3 vs2 cut3 all3).0 in
    subst IsIdent (sym (ap (λ (q : Port). q.name.name) is)) (ident_named l x.1.1.1.0 us3 (vs3 ++ r) here named)

comma_named : (l : ℕ) (p : Port) (ts r : List Token) → AllByRecursion IsTokenOf ts → Spelled comma_port l p ts r → HasIdent p
unfolding comma_port
comma_named l p ts r all h =
    let (x, is, (us, vs, cut, comma, rest)) = h in
    subst HasIdent (sym is) (port_named l x.1 vs r (split us vs ts cut all).1 rest)

each_named : (l : ℕ) (ps : List Port) (ts r : List Token) → AllByRecursion IsTokenOf ts → Each (Spelled comma_port l) ps ts r → AllByRecursion HasIdent ps
each_named l [] ts r all h = tt
each_named l (p ∷ ps) ts r all h =
    let (us, vs, cut, first, rest) = h in
    let parts = split us vs ts cut all in
    (comma_named l p us (vs ++ r) parts.0 first, each_named l ps vs r parts.1 rest)

run_named : (l : ℕ) (ps : List Port) (ts r : List Token) → AllByRecursion IsTokenOf ts → Spelled (run port comma_port) l ps ts r → AllByRecursion HasIdent ps
run_named l [] ts r all h = absurd h
run_named l (p ∷ ps) ts r all h =
    let (us, vs, cut, first, rest) = h in
    let parts = split us vs ts cut all in
    (port_named l p us (vs ++ r) parts.0 first, each_named l ps vs r parts.1 rest)

ports_named : (l : ℕ) (ps : List Port) (ts r : List Token) → AllByRecursion IsTokenOf ts → Spelled ports l ps ts r → AllByRecursion HasIdent ps
unfolding ports
ports_named l ps ts r all h =
    let (x, is, (us, vs, cut, open', rest)) = h in
    let (y, y_is, (us', vs', cut', inside, close')) = rest in
    let outer = (split us vs ts cut all).1 in
    let inner = (split us' vs' vs cut' outer).0 in
    subst (AllByRecursion HasIdent) (sym (is ∙ y_is)) (run_named l y.0 us' (vs' ++ r) inner inside)

pub record HasNames (m : Module) : Type 0 where
  pub name : IsIdent m.name.name
  pub ports : AllByRecursion HasIdent m.ports

module_named : (l : ℕ) (m : Module) (ts r : List Token) → AllByRecursion IsTokenOf ts → Spelled module_form l m ts r → HasNames m
unfolding module_form
module_named l m ts r all h =
    let (x, is, (us, vs, cut, head, rest)) = h in
    let (us', vs', cut', name, rest') = rest in
    let (us'', vs'', cut'', before_items, behind_ports) = rest' in
    let (y, y_is, (us3, vs3, cut3, listed, semicolon)) = before_items in
    let all1 = (split us vs ts cut all).1 in
    let all2 = split us' vs' vs cut' all1 in
    let all3 = (split us'' vs'' vs' cut'' all2.1).0 in
    let all4 = (split us3 vs3 us'' cut3 all3).0 in
    record {
      name = subst IsIdent (sym (ap (λ (x : Module). x.name.name) is)) (ident_named l x.1.0 us' (vs' ++ r) all2.0 name);
      ports = subst (AllByRecursion HasIdent) (sym (ap (λ (x : Module). x.ports) is ∙ y_is)) (ports_named l y.0 us3 (vs3 ++ (vs'' ++ r)) all4 listed);
    }

-- a text has one module, whose names are these
one_module : (text : List ℕ) (tree : Tree) → TextAnswers text (Ok tree) → (m : Module) × (tree.modules ≡ m ∷ []) × HasNames m
unfolding source
one_module text tree h =
    let (short, tokens, divides, derived) = h in
    let (x, is, spelled') = derived.derived in
    (x, ap (λ (t : Tree). t.modules) is, module_named 256 x tokens [] (tokens_of text tokens divides) spelled')

-- the names of the one module of a text
pub text_names : (text : List ℕ) (tree : Tree) (m : Module) → TextAnswers text (Ok tree) → tree.modules ≡ m ∷ [] → HasNames m
text_names text tree m h is =
    let (x, one, names) = one_module text tree h in
    let both : x ∷ [] ≡ m ∷ [] = sym one ∙ is in
    let same : x ≡ m = cc in
    subst HasNames same names
