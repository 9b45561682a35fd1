-- The first backquote outside comments is found, and there is one place for it.
use Rattle.std.proofs.Common.{◌≡◌, ◌≤◌, ◌<◌, ◌+◌, ◌==◌, ℕ, suc, Bool, true, false, if◌then◌else◌, List, [], ◌∷◌, ◌++◌, ◌⊎◌, inl, inr, length, take, drop, refl, sym, ◌∙◌, ap, subst, arith, length-append, Option, Some, None, Ok, Err, Result}
use Rattle.std.specs.List.{prefix_len}
use Rattle.std.proofs.lemmas.List.{take_at, drop_at}
use Rattle.std.proofs.lemmas.Bool.{eqb-true}
use Rattle.word_core.specs.declared.place.Place.{Place}
use Rattle.vlog_tokens.specs.declared.directive.Scan.{Scan}
use Rattle.vlog_tokens.specs.declared.directive.Scan.TheVariants.{Skip, Quote, Rest}
use Rattle.vlog_tokens.specs.declared.error.LexError.{LexError}
use Rattle.vlog_tokens.specs.declared.gap.Opening.{Opening}
use Rattle.vlog_tokens.specs.declared.gap.Opening.TheVariants.{Blank, Line, Block, Attribute, Other}
use Rattle.vlog_tokens.specs.declared.turn.Turn.{Turn}
use Rattle.vlog_tokens.specs.declared.turn.Turn.TheVariants.{Pass, Take, NoEnd, NoValue, Nothing}
use Rattle.vlog_tokens.specs.Directives.{IsPlainByte, IsSkip, Quotes, none, unclosed, here, skip, scan_of, scan_byte, scan_at, scan, ScanFits}
use Rattle.vlog_tokens.specs.Gaps.{begins_with, opening, is_in_line, IsGap, NeverCloses}
use Rattle.vlog_tokens.specs.Places.{start, past}
use Rattle.vlog_tokens.specs.Reads.{close}
use Rattle.vlog_tokens.proofs.Reading.{past_line, past_col}
use Rattle.vlog_tokens.proofs.Turns.{IsPass, IsClose, Begins, opening_begins, line_turn, close_is, close_some}

-- these bytes are passed
pub record IsPassed (text : List ℕ) (n : ℕ) : Type 0 where
  pub taken : List ℕ
  pub rest : List ℕ
  pub whole : text ≡ taken ++ rest
  pub long : length taken ≡ n
  pub some : 0 < n
  pub is_skip : IsSkip (opening text) taken rest

abbrev pub IsScan : List ℕ → Scan → Type 0
IsScan text (Skip n) = IsPassed text n
IsScan text Quote = (bs : List ℕ) × (text ≡ 96 ∷ bs)
IsScan text Rest = (opening text ≡ Block) × NeverCloses 42 47 text

byte_scan : (b : ℕ) (bs : List ℕ) → ((taken rest : List ℕ) → IsPlainByte taken → IsSkip (opening (b ∷ bs)) taken rest) → IsScan (b ∷ bs) (scan_byte (b ∷ bs))
byte_scan b bs plain = (elim (b == 96) as (λ v. (b == 96) ≡ v → IsScan (b ∷ bs) (if v then Quote else Skip 1)) [
  | true ↦ λ e. (bs, ap (λ (z : ℕ). z ∷ bs) (eqb-true b 96 e))
  | false ↦ λ e. record { taken = b ∷ []; rest = bs; whole = refl; long = refl; some = omega arith; is_skip = plain (b ∷ []) bs (record { one = refl; plain = e }) }
]) refl

line_scan : (text : List ℕ) → opening text ≡ Line → Begins Line text → IsScan text (Skip (prefix_len is_in_line text))
line_scan text o B =
    let P = line_turn text o B in
    record {
      taken = P.gap;
      rest = P.rest;
      whole = P.whole;
      long = P.long;
      some = P.some;
      is_skip = subst (λ z. IsSkip z P.gap P.rest) (sym o) (let g : IsGap Line P.gap P.rest = subst (λ z. IsGap z P.gap P.rest) o P.is_gap in g);
    }

close_scan : (text : List ℕ) (t : Turn) → opening text ≡ Block → IsClose 42 47 text t → IsScan text (scan_of t)
close_scan text (Pass n) o (gap, rest, whole, long, closes) = record {
  taken = gap;
  rest = rest;
  whole = whole;
  long = long;
  some = close_some 42 47 gap rest n long closes;
  is_skip = subst (λ z. IsSkip z gap rest) (sym o) closes;
}
close_scan text (Take n) o C = absurd C
close_scan text NoEnd o C = (o, C)
close_scan text NoValue o C = absurd C
close_scan text Nothing o C = absurd C

block_scan : (text : List ℕ) → opening text ≡ Block → Begins Block text → IsScan text (scan_of (close 42 47 text))
block_scan text o B = close_scan text (close 42 47 text) o (subst (λ z. IsClose 42 47 z (close 42 47 z)) (sym B.1) (close_is 42 47 47 42 B.0))

pub scan_is : (b : ℕ) (bs : List ℕ) → IsScan (b ∷ bs) (scan (b ∷ bs))
unfolding scan
scan_is b bs = (elim (opening (b ∷ bs)) as (λ v. opening (b ∷ bs) ≡ v → Begins v (b ∷ bs) → IsScan (b ∷ bs) (scan_at v (b ∷ bs))) [
  | Blank ↦ λ o B. byte_scan b bs (λ taken rest p. subst (λ z. IsSkip z taken rest) (sym o) p)
  | Line ↦ λ o B. line_scan (b ∷ bs) o B
  | Block ↦ λ o B. block_scan (b ∷ bs) o B
  | Attribute ↦ λ o B. byte_scan b bs (λ taken rest p. subst (λ z. IsSkip z taken rest) (sym o) p)
  | Other ↦ λ o B. byte_scan b bs (λ taken rest p. subst (λ z. IsSkip z taken rest) (sym o) p)
]) refl (opening_begins (b ∷ bs))

pub scan_of_some : (text : List ℕ) → 0 < length text → IsScan text (scan text)
scan_of_some [] h = absurd (omega (arith, h))
scan_of_some (b ∷ bs) h = scan_is b bs

scan_within : (text : List ℕ) (s : Scan) → IsScan text s → ScanFits text s
scan_within text (Skip n) S =
    let whole : length text ≡ length (S.taken ++ S.rest) = ap (λ (z : List ℕ). length z) S.whole in
    let parts = length-append S.taken S.rest in
    let long = S.long in
    (S.some, omega (arith, whole, parts, long))
scan_within text Quote S = tt
scan_within text Rest S = tt

pub scan_fits : (text : List ℕ) → 0 < length text → ScanFits text (scan text)
scan_fits text h = scan_within text (scan text) (scan_of_some text h)

-- ---- turn by turn

pub record IsScanned (text : List ℕ) (at : Place) (rest : List ℕ) : Type 0 where
  pub line : at.line + length rest ≤ 4194305
  pub col : at.col + length rest ≤ 4194305
  pub quotes : (quote : Option Place) → Quotes at rest quote → Quotes start text quote

pub scan_turn : (text : List ℕ) (at place : Place) (rest behind : List ℕ) (n : ℕ) → place ≡ past at (take n rest) → behind ≡ drop n rest → IsScanned text at rest → IsPassed rest n
    → IsScanned text place behind
scan_turn text at place rest behind n p b u P =
    let front : take n rest ≡ P.taken = ap (λ (z : List ℕ). take n z) P.whole ∙ take_at P.taken P.rest n P.long in
    let back : drop n rest ≡ P.rest = ap (λ (z : List ℕ). drop n z) P.whole ∙ drop_at P.taken P.rest n P.long in
    let up : IsScanned text at (P.taken ++ P.rest) = subst (λ z. IsScanned text at z) P.whole u in
    let s : IsSkip (opening (P.taken ++ P.rest)) P.taken P.rest = subst (λ z. IsSkip (opening z) P.taken P.rest) P.whole P.is_skip in
    subst (λ z. IsScanned text z behind) (sym (p ∙ ap (λ (z : List ℕ). past at z) front)) (subst (λ z. IsScanned text (past at P.taken) z) (sym (b ∙ back)) (passed P.taken P.rest up s))
  where
    passed : (taken more : List ℕ) → IsScanned text at (taken ++ more) → IsSkip (opening (taken ++ more)) taken more → IsScanned text (past at taken) more
    passed taken more v s =
        let parts = length-append taken more in
        record {
          line = let l = past_line at taken in omega (arith, l, v.line, parts);
          col = let l = past_col at taken in omega (arith, l, v.col, parts);
          quotes = λ quote q. v.quotes quote (skip at taken more quote s q);
        }

pub scan_begun : (text : List ℕ) → length text ≤ 4194304 → IsScanned text start text
scan_begun text h = record { line = omega (arith, h); col = omega (arith, h); quotes = λ quote q. q }

pub quote_found : (text : List ℕ) (at : Place) (rest : List ℕ) → IsScanned text at rest → (bs : List ℕ) × (rest ≡ 96 ∷ bs) → Quotes start text (Some at)
quote_found text at rest u (bs, e) = u.quotes (Some at) (subst (λ z. Quotes at z (Some at)) (sym e) (here at bs))

pub rest_hidden : (text : List ℕ) (at : Place) (rest : List ℕ) → IsScanned text at rest → (opening rest ≡ Block) × NeverCloses 42 47 rest → Quotes start text None
rest_hidden text at rest u (o, h) = u.quotes None (unclosed at rest o h)

pub none_found : (text : List ℕ) (at : Place) (rest : List ℕ) → IsScanned text at rest → length rest < 1 → Quotes start text None
none_found text at [] u le = u.quotes None (none at)
none_found text at (b ∷ bs) u le = absurd (omega (arith, le))
