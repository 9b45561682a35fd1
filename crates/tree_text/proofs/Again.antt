-- What is written for the tree of a text has the same tree again, but for places.
use Rattle.std.proofs.Common.{◌≡◌, ◌≤◌, ℕ, List, [], ◌∷◌, ◌++◌, length, Ok, Err, lit≤, sym, ◌∙◌, subst, append_assoc}
use Rattle.std.proofs.lemmas.List.{append-nil}
use Rattle.parsing.specs.declared.fault.Fault.TheVariants.{Memory, Expected, TooDeep}
use Rattle.parsing.specs.Reading.{Outcome, read_part, scan}
use Rattle.parsing.specs.Answers.{GoesOn, IsTree}
use Rattle.parsing.proofs.Knot.{Says, exact}
use Rattle.vlog_tokens.specs.Tokens.{Token}
use Rattle.vlog_tokens.specs.Directives.{LexAnswers}
use Rattle.vlog_rules.specs.Grammar.{V, rules, firsts, mores, source, IsSource}
use Rattle.vlog_rules.proofs.Sound.{lexical, grammar_sound, source_sound}
use Rattle.vlog_syntax.specs.declared.module.Tree.{Tree}
use Rattle.vlog_modules.specs.Answers.{TextAnswers}
use Rattle.token_text.specs.Printing.{texts, printed}
use Rattle.token_text.specs.Again.{DividesInto}
use Rattle.token_text.proofs.Dividing.{divides, answer_good}
use Rattle.tree_text.specs.Words.{words_of}
use Rattle.tree_text.specs.Places.{without_places}
use Rattle.tree_text.specs.Again.{ReadsAgain}
use Rattle.tree_text.proofs.Shown.{tokens_are_words}
use Rattle.tree_text.proofs.Kept.{same_texts}

goes_on : (l : ℕ) (x : Tree) (tokens front rest : List Token) → tokens ≡ front ++ rest → IsSource l x tokens → GoesOn IsSource l front rest
goes_on l x tokens front [] e d = (x, subst (λ z. IsSource l x z) (e ∙ append-nil front) d)
goes_on l x tokens front (t ∷ ts) e d = (x, ts, subst (λ z. IsSource l x z) (e ∙ sym (append_assoc front (t ∷ []) ts)) d)

-- what the tokens spell is the one tree that they spell
one_tree : (x : Tree) (tokens : List Token) (o : Outcome Token Tree) → Says V lexical rules firsts mores grammar_sound source 256 tokens o → IsSource 256 x tokens → IsTree IsSource 256 tokens x
one_tree x tokens (Ok (y, [])) s d = subst (λ z. IsTree IsSource 256 tokens z) (sym (s.only 256 x d)) s
one_tree x tokens (Ok (y, t ∷ rest)) s d = absurd (s.2.first 256 (goes_on 256 x tokens s.0 (t ∷ rest) s.1 d))
one_tree x tokens (Err Memory) s d = absurd s
one_tree x tokens (Err (Expected left)) s d = absurd (s.4.first 256 (goes_on 256 x tokens s.0 s.1 s.2 d))
one_tree x tokens (Err (TooDeep left)) s d = absurd (s.4.first (goes_on 256 x tokens s.0 s.1 s.2 d))

is_tree : (x : Tree) (tokens : List Token) → IsSource 256 x tokens → IsTree IsSource 256 tokens x
is_tree x tokens d = one_tree x tokens (scan V firsts (read_part V firsts rules 256) source tokens) (exact V lexical rules firsts mores grammar_sound source 256 tokens source_sound (lit≤ tt)) d

-- The text of a tree divides into the tree's words.
pub words_divide : (text : List ℕ) (tree : Tree) → TextAnswers text (Ok tree) → DividesInto text (words_of tree)
words_divide text tree a = (a.1, a.2, tokens_are_words 256 tree a.1 a.3.derived)

reads : (text : List ℕ) (tree : Tree) (ts us : List Token) → length text ≤ 4194304 → LexAnswers text (Ok us) → texts us ≡ texts ts → IsSource 256 tree ts
    → (other : Tree) × TextAnswers text (Ok other) × (without_places other ≡ without_places tree)
reads text tree ts us le lex e d =
    let o = same_texts 256 tree ts us d e in
    (o.0, (le, us, lex, is_tree o.0 us o.1), o.2)

pub reads_again : (text : List ℕ) (tree : Tree) → TextAnswers text (Ok tree) → ReadsAgain (printed (words_of tree)) tree
reads_again text tree a le =
    let words : texts a.1 ≡ words_of tree = tokens_are_words 256 tree a.1 a.3.derived in
    let into : DividesInto (printed (words_of tree)) (texts a.1) = subst (λ z. DividesInto (printed z) (texts a.1)) words (divides (texts a.1) (answer_good text a.1 a.2)) in
    reads (printed (words_of tree)) tree a.1 into.0 le into.1 into.2 a.3.derived
