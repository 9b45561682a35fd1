-- What loops over words have made so far, and what they have left to make.
use Rattle.std.proofs.Common.{◌≡◌, ℕ, suc, ◌+◌, ◌-◌, ◌/◌, ◌%◌, ◌<◌, ◌≤◌, nat_eq, Bool, List, [], ◌∷◌, ◌++◌, append_assoc, length, map, drop, get_or, sym, ap, ◌∙◌, add-one, arith}
use Rattle.std.proofs.lemmas.List.{drop_more, drop_all}
use Rattle.aig_core.specs.Graph.{Graph}
use Rattle.word_core.specs.Words.{bits_of}
use Rattle.word_blast.proofs.Combinators.{joined}
use Rattle.bit_exprs.specs.declared.forms.Window.{Window}
use Rattle.expr_blast.specs.Circuits.{constant, copies, place_of, with_place, bit_from, select_from}

-- ---- words that take no gates

pub constants_more : (w i k : ℕ) (out out' all : List ℕ) → i < w → out' ≡ out ++ constant (nat_eq (k % 2) 1) ∷ [] → out ++ map constant (bits_of (w - i) k) ≡ all →
    out' ++ map constant (bits_of (w - (i + 1)) (k / 2)) ≡ all
constants_more w i k out out' all lt e so_far =
    let left : w - i ≡ suc (w - (i + 1)) = omega arith in
    joined out out' (map constant (bits_of (w - i) k)) (map constant (bits_of (w - (i + 1)) (k / 2))) all (constant (nat_eq (k % 2) 1)) e (ap (λ n. map constant (bits_of n k)) left) so_far

pub copies_more : (n i : ℕ) (xs out out' all : List ℕ) → i < n → out' ≡ out ++ xs → out ++ copies (n - i) xs ≡ all → out' ++ copies (n - (i + 1)) xs ≡ all
copies_more n i xs out out' all lt e so_far =
    let left : n - i ≡ suc (n - (i + 1)) = omega arith in
    ap (λ ys. ys ++ copies (n - (i + 1)) xs) e ∙ append_assoc out xs (copies (n - (i + 1)) xs) ∙ sym (ap (λ m. out ++ copies m xs) left) ∙ so_far

-- ---- selects

module _ (window : Window) (signed : Bool) (index : List ℕ) where
  pub bit_more : (k : ℕ) (g h m : Graph) (e here r i : ℕ) (xs : List ℕ) → i < length xs → (h, here) ≡ place_of window signed index k i g → (m, r) ≡ with_place h e here (get_or xs i 0) →
      bit_from window signed index k g e i (drop i xs) ≡ bit_from window signed index k m r (i + 1) (drop (i + 1) xs)
  unfolding bit_from
  bit_more k g h m e here r i xs lt eh em =
      ap (bit_from window signed index k g e i) (drop_more xs i 0 lt)
      ∙ (λ j. bit_from window signed index k (with_place (sym eh j).0 e (sym eh j).1 (get_or xs i 0)).0 (with_place (sym eh j).0 e (sym eh j).1 (get_or xs i 0)).1 (suc i) (drop (i + 1) xs))
      ∙ (λ j. bit_from window signed index k (sym em j).0 (sym em j).1 (sym (add-one i) j) (drop (i + 1) xs))

  pub bit_done : (k : ℕ) (g : Graph) (e i : ℕ) (xs : List ℕ) → length xs ≤ i → bit_from window signed index k g e i (drop i xs) ≡ (g, e)
  unfolding bit_from
  bit_done k g e i xs past = ap (bit_from window signed index k g e i) (drop_all i xs past)

  pub select_more : (vector : List ℕ) (g h : Graph) (r k n : ℕ) → k < n → (h, r) ≡ bit_from window signed index k g 0 0 vector →
      select_from window signed index vector g k (n - k) ≡ ((select_from window signed index vector h (k + 1) (n - (k + 1))).0, r ∷ (select_from window signed index vector h (k + 1) (n - (k + 1))).1)
  unfolding select_from
  select_more vector g h r k n lt e =
      let left : n - k ≡ suc (n - (k + 1)) = omega arith in
      ap (select_from window signed index vector g k) left
      ∙ (λ j. ((select_from window signed index vector (sym e j).0 (sym (add-one k) j) (n - (k + 1))).0, (sym e j).1 ∷ (select_from window signed index vector (sym e j).0 (sym (add-one k) j) (n - (k + 1))).1))

  pub select_done : (vector : List ℕ) (g : Graph) (k n : ℕ) → n ≤ k → select_from window signed index vector g k (n - k) ≡ (g, [])
  unfolding select_from
  select_done vector g k n past =
      let none : n - k ≡ 0 = omega arith in
      ap (select_from window signed index vector g k) none
