-- The choice at some bits is the choice at all of them, where the others are alike.
use Rattle.std.proofs.Common.{◌≡◌, ℕ, zero, suc, ◌+◌, ◌<◌, ◌≤◌, false, ◌==◌, List, [], ◌∷◌, ◌++◌, length, drop, All, get_or, set, map, refl, sym, ap, ◌∙◌, subst, inl, inr, ◌⊎◌, append_assoc, length-append, arith}
use Rattle.std.specs.List.{AllPairs}
use Rattle.std.proofs.lemmas.List.{at_drop_more, drop_all, set_at, get_or-append-add}
use Rattle.std.proofs.lemmas.List.Elements.{All-head, All-tail}
use Rattle.std.proofs.lemmas.Bool.{cases_eq, eq-eqb, ne_eqb}
use Rattle.design_core.proofs.Truth.{both_false}
use Rattle.bit_exprs.specs.Named.{among}
use Rattle.aig_core.specs.Graph.{Graph}
use Rattle.word_blast.specs.Bits.{mux_of}
use Rattle.expr_blast.specs.Circuits.{literal_at}
use Rattle.plain_blast.specs.Plain.{choose_of}
use Rattle.plain_blast.specs.Choice.{choose_at}

-- no gate is made between a literal and itself
pub mux_same : (g : Graph) (c x y : ℕ) → x ≡ y → mux_of g c x y ≡ (g, x)
unfolding mux_of
mux_same g c x y e = rw (eq-eqb x y e) refl

pub choose_same : (g : Graph) (c : ℕ) (xs : List ℕ) → choose_of g c xs xs ≡ (g, xs)
choose_same g c [] = refl
choose_same g c (x ∷ xs) =
    ap (λ (p : Graph × ℕ). let q = choose_of p.0 c xs xs in (q.0, p.1 ∷ q.1)) (mux_same g c x x refl)
    ∙ ap (λ (q : Graph × List ℕ). (q.0, x ∷ q.1)) (choose_same g c xs)

-- where the two are alike, they are chosen
pub chosen_same : (g : Graph) (c : ℕ) (xs ys : List ℕ) (b : ℕ) → get_or xs b 0 ≡ get_or ys b 0 → get_or (choose_of g c xs ys).1 b 0 ≡ get_or xs b 0
chosen_same g c [] ys b e = refl
chosen_same g c (x ∷ xs) [] b e = refl
chosen_same g c (x ∷ xs) (y ∷ ys) zero e = ap (λ (p : Graph × ℕ). p.1) (mux_same g c x y e)
chosen_same g c (x ∷ xs) (y ∷ ys) (suc b) e = chosen_same (mux_of g c x y).0 c xs ys b e

-- one bit on
pub choose_more : (g : Graph) (c : ℕ) (bits given targets : List ℕ) (k : ℕ) → k < length bits → k < length given →
    choose_at g c (drop k bits) (drop k given) targets
    ≡ choose_at (mux_of g c (get_or given k 0) (literal_at targets (get_or bits k 0))).0 c (drop (k + 1) bits) (drop (k + 1) given)
    (set targets (get_or bits k 0) (mux_of g c (get_or given k 0) (literal_at targets (get_or bits k 0))).1)
choose_more g c bits given targets k lt lt' =
    at_drop_more (λ bs. choose_at g c bs (drop k given) targets) bits k 0 lt
    ∙ at_drop_more (λ xs. choose_at g c (get_or bits k 0 ∷ drop (k + 1) bits) xs targets) given k 0 lt'

-- ---- bits in order

-- each bit is at least n, and below those after it
abbrev pub Rises : ℕ → List ℕ → Type 0
Rises n [] = Unit {0}
Rises n (b ∷ bits) = (n ≤ b) × Rises (suc b) bits

pub rises : (n : ℕ) (bits : List ℕ) → All (λ b. n ≤ b) bits → AllPairs (λ x y. x < y) bits → Rises n bits
rises n [] low up = tt
rises n (b ∷ bits) low up =
    (All-head (λ x. n ≤ x) b bits low, rises (suc b) bits (λ k d lt. let h = up 0 (suc k) d (omega arith) (omega arith) in omega (arith, h)) (λ i j d ij lt. up (suc i) (suc j) d (omega arith) (omega arith)))

below : (m n : ℕ) (bits : List ℕ) → n < m → Rises m bits → among bits n ≡ false
below m n [] lt r = refl
below m n (b ∷ bits) lt r = both_false (b == n) _ (ne_eqb b n (λ e. absurd (omega (arith, r.0, e)))) (below (suc b) n bits (omega (arith, r.0)) r.1)

-- the first of the bits is n, or none is
record Begins (n : ℕ) (bits : List ℕ) : Type 0 where
  rest : List ℕ
  is : bits ≡ n ∷ rest
  rises : Rises (suc n) rest

begins : (n : ℕ) (bits : List ℕ) → Rises n bits → Rises (suc n) bits ⊎ Begins n bits
begins n [] r = inl tt
begins n (b ∷ bits) r = elim (cases_eq b n) [
  | inl e ↦ inr (record { rest = bits; is = ap (λ x. x ∷ bits) e; rises = subst (λ x. Rises (suc x) bits) e r.1 })
  | inr ne ↦ inl (omega (arith, r.0, ne), r.1)
]

-- the literals zs are done, and a is chosen at the next one
done_more : (full zs ys : List ℕ) (y a c : ℕ) (g h : Graph) (r : Graph × List ℕ) → length zs < length full → mux_of g c (get_or full (length zs) 0) y ≡ (h, a) →
    r ≡ ((choose_of h c (drop (length (zs ++ a ∷ [])) full) ys).0, (zs ++ a ∷ []) ++ (choose_of h c (drop (length (zs ++ a ∷ [])) full) ys).1) →
    r ≡ ((choose_of g c (drop (length zs) full) (y ∷ ys)).0, zs ++ (choose_of g c (drop (length zs) full) (y ∷ ys)).1)
done_more full zs ys y a c g h r lt made is =
    let n : ℕ = length zs in
    let q : Graph × List ℕ = choose_of h c (drop (n + 1) full) ys in
    let here : choose_of g c (drop n full) (y ∷ ys) ≡ (q.0, a ∷ q.1) =
    at_drop_more (λ (l : List ℕ). choose_of g c l (y ∷ ys)) full n 0 lt
    ∙ ap (λ (p : Graph × ℕ). ((choose_of p.0 c (drop (n + 1) full) ys).0, p.1 ∷ (choose_of p.0 c (drop (n + 1) full) ys).1)) made in
    let len : length (zs ++ a ∷ []) ≡ n + 1 = length-append zs (a ∷ []) in
    is ∙ ap (λ m. ((choose_of h c (drop m full) ys).0, (zs ++ a ∷ []) ++ (choose_of h c (drop m full) ys).1)) len
    ∙ ap (λ (l : List ℕ). (q.0, l)) (append_assoc zs (a ∷ []) q.1)
    ∙ sym (ap (λ (p : Graph × List ℕ). (p.0, zs ++ p.1)) here)

-- from the place of ys on, where the literals before are done
chosen_from : (full zs ys bits : List ℕ) (g : Graph) (c : ℕ) → length zs + length ys ≡ length full → Rises (length zs) bits → All (λ b. b < length full) bits →
    ((k : ℕ) → k < length ys → among bits (length zs + k) ≡ false → get_or full (length zs + k) 0 ≡ get_or ys k 0) →
    choose_at g c bits (map (literal_at full) bits) (zs ++ ys) ≡ ((choose_of g c (drop (length zs) full) ys).0, zs ++ (choose_of g c (drop (length zs) full) ys).1)
chosen_from full zs [] [] g c long r within same = rw (drop_all (length zs) full (omega arith)) refl
chosen_from full zs [] (b ∷ bits) g c long r within same = let lt = All-head (λ x. x < length full) b bits within in absurd (omega (arith, r.0, lt))
chosen_from full zs (y ∷ ys) bits g c long r within same = elim (begins (length zs) bits r) [
  | inl later ↦
      let none : among bits (length zs + 0) ≡ false = rw (here zs) (below (suc (length zs)) (length zs) bits (omega arith) later) in
      let alike : get_or full (length zs) 0 ≡ y = ap (λ n. get_or full n 0) (sym (here zs)) ∙ same 0 (omega arith) none in
      done_more full zs ys y y c g g _ (omega arith) (mux_same g c (get_or full (length zs) 0) y alike ∙ ap (λ a. (g, a)) alike)
      (ap (choose_at g c bits (map (literal_at full) bits)) (sym (append_assoc zs (y ∷ []) ys))
      ∙ chosen_from full (zs ++ y ∷ []) ys bits g c (one_long zs y ys full long) (subst (λ n. Rises n bits) (sym (one_more zs y)) later) within
      (λ k lt no. ap (λ n. get_or full n 0) (shifted zs y k) ∙ same (suc k) (omega arith) (ap (among bits) (sym (shifted zs y k)) ∙ no)))
  | inr b ↦
      let p : Graph × ℕ = mux_of g c (get_or full (length zs) 0) y in
      let at : literal_at (zs ++ y ∷ ys) (length zs) ≡ y = get_or_here zs y ys in
      let made : choose_at g c (length zs ∷ b.rest) (map (literal_at full) (length zs ∷ b.rest)) (zs ++ y ∷ ys) ≡ choose_at p.0 c b.rest (map (literal_at full) b.rest) ((zs ++ p.1 ∷ []) ++ ys) =
      ap (λ x. choose_at (mux_of g c (get_or full (length zs) 0) x).0 c b.rest (map (literal_at full) b.rest) (set (zs ++ y ∷ ys) (length zs) (mux_of g c (get_or full (length zs) 0) x).1)) at
      ∙ ap (choose_at p.0 c b.rest (map (literal_at full) b.rest)) (set_at zs y ys p.1 (length zs) refl ∙ sym (append_assoc zs (p.1 ∷ []) ys)) in
      done_more full zs ys y p.1 c g p.0 _ (omega arith) refl
      (ap (λ (bs : List ℕ). choose_at g c bs (map (literal_at full) bs) (zs ++ y ∷ ys)) b.is ∙ made
      ∙ chosen_from full (zs ++ p.1 ∷ []) ys b.rest p.0 c (one_long zs p.1 ys full long) (subst (λ n. Rises n b.rest) (sym (one_more zs p.1)) b.rises)
      (All-tail (λ x. x < length full) (length zs) b.rest (subst (All (λ x. x < length full)) b.is within))
      (λ k lt no. ap (λ n. get_or full n 0) (shifted zs p.1 k) ∙ same (suc k) (omega arith)
      (ap (λ (bs : List ℕ). among bs (length zs + suc k)) b.is ∙ both_false (length zs == length zs + suc k) _ (ne_eqb (length zs) (length zs + suc k) (λ e. absurd (omega (arith, e)))) (ap (among b.rest) (sym (shifted zs p.1 k)) ∙ no))))
]
  where
    here : (zs : List ℕ) → length zs + 0 ≡ length zs
    here zs = omega arith

    get_or_here : (zs : List ℕ) (y : ℕ) (ys : List ℕ) → get_or (zs ++ y ∷ ys) (length zs) 0 ≡ y
    get_or_here zs y ys = ap (λ n. get_or (zs ++ y ∷ ys) n 0) (sym (here zs)) ∙ get_or-append-add zs (y ∷ ys) 0 0

    one_more : (zs : List ℕ) (a : ℕ) → length (zs ++ a ∷ []) ≡ suc (length zs)
    one_more zs a = length-append zs (a ∷ []) ∙ (omega arith)

    one_long : (zs : List ℕ) (a : ℕ) (ys full : List ℕ) → length zs + suc (length ys) ≡ length full → length (zs ++ a ∷ []) + length ys ≡ length full
    one_long zs a ys full e = omega (arith, one_more zs a, e)

    shifted : (zs : List ℕ) (a k : ℕ) → length (zs ++ a ∷ []) + k ≡ length zs + suc k
    shifted zs a k = omega (arith, one_more zs a)

-- the choice at the bits is the choice at all, where the two are alike at every other bit
pub choose_is : (g : Graph) (c : ℕ) (bits full targets : List ℕ) → length targets ≡ length full → Rises 0 bits → All (λ b. b < length full) bits →
    ((b : ℕ) → among bits b ≡ false → get_or full b 0 ≡ get_or targets b 0) →
    choose_at g c bits (map (literal_at full) bits) targets ≡ choose_of g c full targets
choose_is g c bits full targets long r within same = chosen_from full [] targets bits g c (omega (arith, long)) r within (λ k lt no. same (0 + k) no ∙ ap (λ n. get_or targets n 0) (none k))
  where
    none : (k : ℕ) → 0 + k ≡ k
    none k = omega arith
