-- What a reader of lines owes, and how readers are put together.
use Rattle.std.proofs.Common.{◌≡◌, ℕ, zero, suc, ◌+◌, ◌<◌, ◌≤◌, List, [], ◌∷◌, ◌++◌, length, Option, Some, None, Result, Ok, Err, refl, sym, ap, subst, ◌∙◌, append_assoc, arith, ◌⊎◌, inl, inr, length-append, add-zero}
use Rattle.std.specs.List.{AllByRecursion}
use Rattle.std.proofs.lemmas.List.{append-nil, nil_from_length}
use Rattle.line_text.specs.Lines.{Line, Source, IsLine}
use Rattle.line_text.specs.Reading.{Read, ◌>>=◌, value_or_bad, line_by, times, after_item, until_from, until}

abbrev pub at : ℕ → List Line → List ℕ → Source
at n ls t = record { line = n; lines = ls; tail = t }

-- what was read stands in front
pub record Took {X : Type 0} (spell : X → List Line) (Fits : ℕ → X → Type 0) (n : ℕ) (ls : List Line) (t : List ℕ) (x : X) (left : Source) : Type 0 where
  pub rest : List Line
  pub parts : ls ≡ spell x ++ rest
  pub left_is : left ≡ at (n + length (spell x)) rest t
  pub fits : Fits n x

-- the lines before the bad one begin a value, and with the bad one nothing is read, whatever follows
pub record Stopped {X : Type 0} (spell : X → List Line) (Fits : ℕ → X → Type 0) (read : Source → Read X) (n : ℕ) (ls : List Line) (m : ℕ) : Type 0 where
  pub good : List Line
  pub left : List Line
  pub parts : ls ≡ good ++ left
  pub place : m ≡ n + length good
  pub value : X
  pub fits : Fits n value
  pub more : List Line
  pub whole : spell value ≡ good ++ more
  pub refused : (bad : Line) (others rest : List Line) (t : List ℕ) → left ≡ bad ∷ others → read (at n (good ++ bad ∷ rest) t) ≡ Err m

pub record IsReaderOf {X : Type 0} (spell : X → List Line) (Fits : ℕ → X → Type 0) (read : Source → Read X) : Type 0 where
  pub takes : (n : ℕ) (ls : List Line) (t : List ℕ) (x : X) (left : Source) → read (at n ls t) ≡ Ok (x, left) → Took spell Fits n ls t x left
  pub again : (n : ℕ) (x : X) (rest : List Line) (t : List ℕ) → Fits n x → read (at n (spell x ++ rest) t) ≡ Ok (x, at (n + length (spell x)) rest t)
  pub stops : (n : ℕ) (ls : List Line) (t : List ℕ) (m : ℕ) → read (at n ls t) ≡ Err m → Stopped spell Fits read n ls m
  pub some : (n : ℕ) → (x : X) × Fits n x
  pub lines : (n : ℕ) (x : X) → Fits n x → AllByRecursion IsLine (spell x)

-- ---- steps that may fail

pub bind_ok : {A B : Type 0} (r : Result A ℕ) (f : A → Result B ℕ) (y : B) → (r >>= f) ≡ Ok y → (x : A) × (r ≡ Ok x) × (f x ≡ Ok y)
bind_ok (Ok x) f y e = (x, refl, e)
bind_ok (Err d) f y e = absurd cc

pub bind_err : {A B : Type 0} (r : Result A ℕ) (f : A → Result B ℕ) (m : ℕ) → (r >>= f) ≡ Err m → (r ≡ Err m) ⊎ ((x : A) × (r ≡ Ok x) × (f x ≡ Err m))
bind_err (Ok x) f m e = inr (x, refl, e)
bind_err (Err d) f m e = inl cc

abbrev done : {A : Type 0} → A → Result A ℕ
done x = Ok x

abbrev failed : {A : Type 0} → ℕ → Result A ℕ
failed x = Err x

pub ok_is : {A : Type 0} (x y : A) → done x ≡ done y → x ≡ y
ok_is x y e = cc

pub err_is : (A : Type 0) (m n : ℕ) → failed {A = A} m ≡ failed {A = A} n → m ≡ n
err_is A m n e = cc

abbrev some_of : {A : Type 0} → A → Option A
some_of x = Some x

pub some_is : {A : Type 0} (x y : A) → some_of x ≡ some_of y → x ≡ y
some_is x y e = cc

all_append : {A : Type 0} (P : A → Type 0) (xs ys : List A) → AllByRecursion P xs → AllByRecursion P ys → AllByRecursion P (xs ++ ys)
all_append P [] ys p q = q
all_append P (x ∷ xs) ys p q = (p.0, all_append P xs ys p.1 q)

-- ---- a value of one line

pub record IsLineOf {X : Type 0} (spell : X → Line) (Fits : X → Type 0) (f : Line → Option X) : Type 0 where
  pub takes : (l : Line) (x : X) → f l ≡ Some x → (l ≡ spell x) × Fits x
  pub again : (x : X) → Fits x → f (spell x) ≡ Some x
  pub line : (x : X) → Fits x → IsLine (spell x)

value_ok : {X : Type 0} (n : ℕ) (s : Source) (o : Option X) (x : X) (left : Source) → value_or_bad n s o ≡ Ok (x, left) → (o ≡ Some x) × (left ≡ s)
value_ok n s None x left e = absurd cc
value_ok n s (Some y) x left e =
    let q : (y, s) ≡ (x, left) = ok_is (y, s) (x, left) e in
    (ap (λ p. Some p.0) q, ap (λ p. p.1) (sym q))

value_err : {X : Type 0} (n : ℕ) (s u : Source) (o : Option X) (m : ℕ) → value_or_bad n s o ≡ Err m → (m ≡ n) × (value_or_bad n u o ≡ Err n)
value_err n s u None m e = (cc, refl)
value_err n s u (Some y) m e = absurd cc

pub line_takes : {X : Type 0} (spell : X → Line) (Fits : X → Type 0) (f : Line → Option X) → IsLineOf spell Fits f → (n : ℕ) (ls : List Line) (t : List ℕ) (x : X) (left : Source) → line_by f (at n ls t) ≡ Ok (x, left) → Took (λ x. spell x ∷ []) (λ _ x. Fits x) n ls t x left
line_takes spell Fits f law n [] t x left e = absurd cc
line_takes spell Fits f law n (l ∷ ls) t x left e =
    let v = value_ok n (at (n + 1) ls t) (f l) x left e in
    let g = law.takes l x v.0 in
    record { rest = ls; parts = ap (λ k. k ∷ ls) g.0; left_is = v.1; fits = g.1 }

pub line_stops : {X : Type 0} (spell : X → Line) (Fits : X → Type 0) (f : Line → Option X) → IsLineOf spell Fits f → (some : (x : X) × Fits x) → (n : ℕ) (ls : List Line) (t : List ℕ) (m : ℕ) → line_by f (at n ls t) ≡ Err m → Stopped (λ x. spell x ∷ []) (λ _ x. Fits x) (line_by f) n ls m
line_stops spell Fits f law some n [] t m e =
    let p : m ≡ n = cc in
    record {
      good = [];
      left = [];
      parts = refl;
      place = p ∙ sym (add-zero n);
      value = some.0;
      fits = some.1;
      more = spell some.0 ∷ [];
      whole = refl;
      refused = λ bad others rest u w. absurd cc;
    }
line_stops spell Fits f law some n (l ∷ ls) t m e =
    let v = value_err n (at (n + 1) ls t) (at (n + 1) ls t) (f l) m e in
    record {
      good = [];
      left = l ∷ ls;
      parts = refl;
      place = v.0 ∙ sym (add-zero n);
      value = some.0;
      fits = some.1;
      more = spell some.0 ∷ [];
      whole = refl;
      refused = λ bad others rest u w.
          let b : l ≡ bad = cc in
          subst (λ (k : Line). value_or_bad n (at (n + 1) rest u) (f k) ≡ Err m) b ((value_err n (at (n + 1) ls t) (at (n + 1) rest u) (f l) m e).1 ∙ ap (λ k. Err k) (sym v.0));
    }

pub law_line : {X : Type 0} (spell : X → Line) (Fits : X → Type 0) (f : Line → Option X) → IsLineOf spell Fits f → (x : X) × Fits x → IsReaderOf (λ x. spell x ∷ []) (λ _ x. Fits x) (line_by f)
law_line spell Fits f law some = record {
  takes = line_takes spell Fits f law;
  again = λ n x rest t fits. rw (law.again x fits) refl;
  stops = line_stops spell Fits f law some;
  some = λ n. some;
  lines = λ n x fits. (law.line x fits, tt);
}

-- ---- one reader after another

then_takes : {X Z : Type 0} (s1 : X → List Line) (F1 : ℕ → X → Type 0) (r : Source → Read X) (s2 : X → Z → List Line) (F2 : X → ℕ → Z → Type 0) (k : X → Source → Read Z) (first : Z → X)
    → IsReaderOf s1 F1 r → ((n : ℕ) (x : X) → F1 n x → IsReaderOf (s2 x) (F2 x) (k x)) → ((x : X) (n : ℕ) (z : Z) → F2 x n z → first z ≡ x)
    → (n : ℕ) (ls : List Line) (t : List ℕ) (z : Z) (left : Source) → (r (at n ls t) >>= λ a. k a.0 a.1) ≡ Ok (z, left)
    → Took (λ z. s1 (first z) ++ s2 (first z) z) (λ n z. F1 n (first z) × F2 (first z) (n + length (s1 (first z))) z) n ls t z left
then_takes {X} {Z} s1 F1 r s2 F2 k first law1 law2 tied n ls t z left e =
    let b = bind_ok (r (at n ls t)) (λ a. k a.0 a.1) (z, left) e in
    let x : X = b.0.0 in
    let t1 = law1.takes n ls t x b.0.1 b.1 in
    let m : ℕ = n + length (s1 x) in
    let e2 : k x (at m t1.rest t) ≡ Ok (z, left) = subst (λ (s : Source). k x s ≡ Ok (z, left)) t1.left_is b.2 in
    let t2 = (law2 n x t1.fits).takes m t1.rest t z left e2 in
    let q : first z ≡ x = tied x m z t2.fits in
    let parts : ls ≡ (s1 x ++ s2 x z) ++ t2.rest = t1.parts ∙ ap (λ (l : List Line). s1 x ++ l) t2.parts ∙ sym (append_assoc (s1 x) (s2 x z) t2.rest) in
    let count : m + length (s2 x z) ≡ n + length (s1 x ++ s2 x z) = omega (arith, length-append (s1 x) (s2 x z)) in
    let left_is : left ≡ at (n + length (s1 x ++ s2 x z)) t2.rest t = t2.left_is ∙ ap (λ (c : ℕ). at c t2.rest t) count in
    let whole = subst (λ (y : X). (ls ≡ (s1 y ++ s2 y z) ++ t2.rest) × (left ≡ at (n + length (s1 y ++ s2 y z)) t2.rest t) × (F1 n y × F2 y (n + length (s1 y)) z)) (sym q) (parts, left_is, (t1.fits, t2.fits)) in
    record { rest = t2.rest; parts = whole.0; left_is = whole.1; fits = whole.2 }

then_again : {X Z : Type 0} (s1 : X → List Line) (F1 : ℕ → X → Type 0) (r : Source → Read X) (s2 : X → Z → List Line) (F2 : X → ℕ → Z → Type 0) (k : X → Source → Read Z)
    → IsReaderOf s1 F1 r → ((n : ℕ) (x : X) → F1 n x → IsReaderOf (s2 x) (F2 x) (k x))
    → (n : ℕ) (x : X) (z : Z) (rest : List Line) (t : List ℕ) → F1 n x → F2 x (n + length (s1 x)) z
    → (r (at n ((s1 x ++ s2 x z) ++ rest) t) >>= λ a. k a.0 a.1) ≡ Ok (z, at (n + length (s1 x ++ s2 x z)) rest t)
then_again {X} {Z} s1 F1 r s2 F2 k law1 law2 n x z rest t f1 f2 =
    let count : (n + length (s1 x)) + length (s2 x z) ≡ n + length (s1 x ++ s2 x z) = omega (arith, length-append (s1 x) (s2 x z)) in
    ap (λ (ls : List Line). r (at n ls t) >>= λ a. k a.0 a.1) (append_assoc (s1 x) (s2 x z) rest)
    ∙ ap (λ (y : Read X). y >>= λ a. k a.0 a.1) (law1.again n x (s2 x z ++ rest) t f1)
    ∙ (law2 n x f1).again (n + length (s1 x)) z rest t f2
    ∙ ap (λ (c : ℕ). Ok (z, at c rest t)) count

then_stops : {X Z : Type 0} (s1 : X → List Line) (F1 : ℕ → X → Type 0) (r : Source → Read X) (s2 : X → Z → List Line) (F2 : X → ℕ → Z → Type 0) (k : X → Source → Read Z) (first : Z → X)
    → IsReaderOf s1 F1 r → ((n : ℕ) (x : X) → F1 n x → IsReaderOf (s2 x) (F2 x) (k x)) → ((x : X) (n : ℕ) (z : Z) → F2 x n z → first z ≡ x)
    → (n : ℕ) (ls : List Line) (t : List ℕ) (m : ℕ) → (r (at n ls t) ≡ Err m) ⊎ ((a : X × Source) × (r (at n ls t) ≡ Ok a) × (k a.0 a.1 ≡ Err m))
    → Stopped (λ z. s1 (first z) ++ s2 (first z) z) (λ n z. F1 n (first z) × F2 (first z) (n + length (s1 (first z))) z) (λ s. r s >>= λ a. k a.0 a.1) n ls m
then_stops {X} {Z} s1 F1 r s2 F2 k first law1 law2 tied n ls t m (inl e) =
    let s = law1.stops n ls t m e in
    let x : X = s.value in
    let c : ℕ = n + length (s1 x) in
    let z = (law2 n x s.fits).some c in
    let q : first z.0 ≡ x = tied x c z.0 z.1 in
    let whole : s1 x ++ s2 x z.0 ≡ s.good ++ (s.more ++ s2 x z.0) = ap (λ (l : List Line). l ++ s2 x z.0) s.whole ∙ append_assoc s.good s.more (s2 x z.0) in
    let moved = subst (λ (y : X). (s1 y ++ s2 y z.0 ≡ s.good ++ (s.more ++ s2 x z.0)) × (F1 n y × F2 y (n + length (s1 y)) z.0)) (sym q) (whole, (s.fits, z.1)) in
    record {
      good = s.good;
      left = s.left;
      parts = s.parts;
      place = s.place;
      value = z.0;
      fits = moved.1;
      more = s.more ++ s2 x z.0;
      whole = moved.0;
      refused = λ bad others rest u w. ap (λ (y : Read X). y >>= λ a. k a.0 a.1) (s.refused bad others rest u w);
    }
then_stops {X} {Z} s1 F1 r s2 F2 k first law1 law2 tied n ls t m (inr b) =
    let x : X = b.0.0 in
    let t1 = law1.takes n ls t x b.0.1 b.1 in
    let c : ℕ = n + length (s1 x) in
    let law = law2 n x t1.fits in
    let e2 : k x (at c t1.rest t) ≡ Err m = subst (λ (s : Source). k x s ≡ Err m) t1.left_is b.2 in
    let s = law.stops c t1.rest t m e2 in
    let q : first s.value ≡ x = tied x c s.value s.fits in
    let whole : s1 x ++ s2 x s.value ≡ (s1 x ++ s.good) ++ s.more = ap (λ (l : List Line). s1 x ++ l) s.whole ∙ sym (append_assoc (s1 x) s.good s.more) in
    let moved = subst (λ (y : X). (s1 y ++ s2 y s.value ≡ (s1 x ++ s.good) ++ s.more) × (F1 n y × F2 y (n + length (s1 y)) s.value)) (sym q) (whole, (t1.fits, s.fits)) in
    record {
      good = s1 x ++ s.good;
      left = s.left;
      parts = t1.parts ∙ ap (λ (l : List Line). s1 x ++ l) s.parts ∙ sym (append_assoc (s1 x) s.good s.left);
      place = omega (arith, s.place, length-append (s1 x) s.good);
      value = s.value;
      fits = moved.1;
      more = s.more;
      whole = moved.0;
      refused = λ bad others rest u w.
          ap (λ (l : List Line). r (at n l u) >>= λ a. k a.0 a.1) (append_assoc (s1 x) s.good (bad ∷ rest))
          ∙ ap (λ (y : Read X). y >>= λ a. k a.0 a.1) (law1.again n x (s.good ++ bad ∷ rest) u t1.fits)
          ∙ s.refused bad others rest u w;
    }

pub law_then : {X Z : Type 0} (s1 : X → List Line) (F1 : ℕ → X → Type 0) (r : Source → Read X) (s2 : X → Z → List Line) (F2 : X → ℕ → Z → Type 0) (k : X → Source → Read Z) (first : Z → X)
    → IsReaderOf s1 F1 r → ((n : ℕ) (x : X) → F1 n x → IsReaderOf (s2 x) (F2 x) (k x)) → ((x : X) (n : ℕ) (z : Z) → F2 x n z → first z ≡ x)
    → IsReaderOf (λ z. s1 (first z) ++ s2 (first z) z) (λ n z. F1 n (first z) × F2 (first z) (n + length (s1 (first z))) z) (λ s. r s >>= λ a. k a.0 a.1)
law_then {X} {Z} s1 F1 r s2 F2 k first law1 law2 tied = record {
  takes = then_takes s1 F1 r s2 F2 k first law1 law2 tied;
  again = λ n z rest t fits. then_again s1 F1 r s2 F2 k law1 law2 n (first z) z rest t fits.0 fits.1;
  stops = λ n ls t m e. then_stops s1 F1 r s2 F2 k first law1 law2 tied n ls t m (bind_err (r (at n ls t)) (λ a. k a.0 a.1) m e);
  some = λ n.
      let x = law1.some n in
      let z = (law2 n x.0 x.1).some (n + length (s1 x.0)) in
      (z.0, subst (λ (y : X). F1 n y × F2 y (n + length (s1 y)) z.0) (sym (tied x.0 (n + length (s1 x.0)) z.0 z.1)) (x.1, z.1));
  lines = λ n z fits. all_append IsLine (s1 (first z)) (s2 (first z) z) (law1.lines n (first z) fits.0) ((law2 n (first z) fits.0).lines (n + length (s1 (first z))) z fits.1);
}

-- ---- the end of a reader

pub law_done : {Z : Type 0} (z : Z) → IsReaderOf (λ _. []) (λ _ y. y ≡ z) (λ s. Ok (z, s))
law_done {Z} z = record {
  takes = λ n ls t y left e.
      let q : (z, at n ls t) ≡ (y, left) = ok_is (z, at n ls t) (y, left) e in
      record { rest = ls; parts = refl; left_is = sym (ap (λ p. p.1) q) ∙ ap (λ (c : ℕ). at c ls t) (sym (add-zero n)); fits = sym (ap (λ p. p.0) q) };
  again = λ n y rest t fits. ap (λ (w : Z). Ok (w, at n rest t)) (sym fits) ∙ ap (λ (c : ℕ). Ok (y, at c rest t)) (sym (add-zero n));
  stops = λ n ls t m e. absurd cc;
  some = λ n. (z, refl);
  lines = λ n y fits. tt;
}

-- ---- the same in other words

pub law_as : {X : Type 0} (s1 s2 : X → List Line) (F1 F2 : ℕ → X → Type 0) (r : Source → Read X)
    → IsReaderOf s1 F1 r → ((n : ℕ) (x : X) → F1 n x → s1 x ≡ s2 x) → ((n : ℕ) (x : X) → F1 n x → F2 n x) → ((n : ℕ) (x : X) → F2 n x → F1 n x)
    → IsReaderOf s2 F2 r
law_as {X} s1 s2 F1 F2 r law same to back = record {
  takes = λ n ls t x left e.
      let a = law.takes n ls t x left e in
      let q = same n x a.fits in
      record { rest = a.rest; parts = a.parts ∙ ap (λ (l : List Line). l ++ a.rest) q; left_is = a.left_is ∙ ap (λ (l : List Line). at (n + length l) a.rest t) q; fits = to n x a.fits };
  again = λ n x rest t fits.
      let f = back n x fits in
      subst (λ (l : List Line). r (at n (l ++ rest) t) ≡ Ok (x, at (n + length l) rest t)) (same n x f) (law.again n x rest t f);
  stops = λ n ls t m e.
      let s = law.stops n ls t m e in
      record {
        good = s.good;
        left = s.left;
        parts = s.parts;
        place = s.place;
        value = s.value;
        fits = to n s.value s.fits;
        more = s.more;
        whole = sym (same n s.value s.fits) ∙ s.whole;
        refused = s.refused;
      };
  some = λ n. let x = law.some n in (x.0, to n x.0 x.1);
  lines = λ n x fits. let f = back n x fits in subst (λ (l : List Line). AllByRecursion IsLine l) (same n x f) (law.lines n x f);
}

-- a reader that looks at the number of its line
pub law_here : {X : Type 0} (s : X → List Line) (F : ℕ → ℕ → X → Type 0) (r : ℕ → Source → Read X) → ((h : ℕ) → IsReaderOf s (F h) (r h)) → IsReaderOf s (λ n x. F n n x) (λ u. r u.line u)
law_here {X} s F r law = record {
  takes = λ n ls t x left e. let a = (law n).takes n ls t x left e in record { rest = a.rest; parts = a.parts; left_is = a.left_is; fits = a.fits };
  again = λ n x rest t fits. (law n).again n x rest t fits;
  stops = λ n ls t m e.
      let a = (law n).stops n ls t m e in
      record {
        good = a.good;
        left = a.left;
        parts = a.parts;
        place = a.place;
        value = a.value;
        fits = a.fits;
        more = a.more;
        whole = a.whole;
        refused = a.refused;
      };
  some = λ n. (law n).some n;
  lines = λ n x fits. (law n).lines n x fits;
}

-- ---- a count of values

abbrev pub spell_from : {X : Type 0} → (ℕ → X → List Line) → ℕ → List X → List Line
spell_from s i [] = []
spell_from s i (x ∷ xs) = s i x ++ spell_from s (i + 1) xs

abbrev pub FitFrom : {X : Type 0} → (ℕ → X → List Line) → (ℕ → ℕ → X → Type 0) → ℕ → ℕ → List X → Type 0
FitFrom s F i n [] = Unit {0}
FitFrom s F i n (x ∷ xs) = F i n x × FitFrom s F (i + 1) (n + length (s i x)) xs

abbrev pub head_or : {X : Type 0} → X → List X → X
head_or d [] = d
head_or d (x ∷ xs) = x

abbrev pub tail_list : {X : Type 0} → List X → List X
tail_list [] = []
tail_list (x ∷ xs) = xs

times_same : {X : Type 0} (d : X) (s : ℕ → X → List Line) (i : ℕ) (z : List X) → z ≡ head_or d z ∷ tail_list z → s i (head_or d z) ++ (spell_from s (i + 1) (tail_list z) ++ []) ≡ spell_from s i z
times_same d s i [] e = absurd cc
times_same d s i (x ∷ xs) e = ap (λ (l : List Line). s i x ++ l) (append-nil (spell_from s (i + 1) xs))

times_to : {X : Type 0} (d : X) (s : ℕ → X → List Line) (F : ℕ → ℕ → X → Type 0) (i k n : ℕ) (z : List X) → z ≡ head_or d z ∷ tail_list z → F i n (head_or d z) → length (tail_list z) ≡ k → FitFrom s F (i + 1) (n + length (s i (head_or d z))) (tail_list z) → (length z ≡ suc k) × FitFrom s F i n z
times_to d s F i k n [] e f c g = absurd cc
times_to d s F i k n (x ∷ xs) e f c g = (ap suc c, (f, g))

times_back : {X : Type 0} (d : X) (s : ℕ → X → List Line) (F : ℕ → ℕ → X → Type 0) (i k n : ℕ) (z : List X) → length z ≡ suc k → FitFrom s F i n z
    → F i n (head_or d z) × (((length (tail_list z) ≡ k) × FitFrom s F (i + 1) (n + length (s i (head_or d z))) (tail_list z)) × (z ≡ head_or d z ∷ tail_list z))
times_back d s F i k n [] c f = absurd (omega arith)
times_back d s F i k n (x ∷ xs) c f = (f.0, ((omega arith, f.1), refl))

-- where a reader is known for numbers below a bound
pub law_times_below : {X : Type 0} (bound : ℕ) (s : ℕ → X → List Line) (F : ℕ → ℕ → X → Type 0) (r : ℕ → Source → Read X) → ((i : ℕ) → i < bound → IsReaderOf (s i) (F i) (r i)) → (k i : ℕ) → i + k ≤ bound → IsReaderOf (spell_from s i) (λ n xs. (length xs ≡ k) × FitFrom s F i n xs) (times k i r)
law_times_below {X} bound s F r law zero i le =
    law_as (λ _. []) (spell_from s i) (λ _ y. y ≡ []) (λ n xs. (length xs ≡ 0) × FitFrom s F i n xs) (times 0 i r) (law_done [])
    (λ n x f. ap (spell_from s i) (sym f)) (λ n x f. subst (λ (y : List X). (length y ≡ 0) × FitFrom s F i n y) (sym f) (refl, tt)) (λ n x f. nil_from_length x f.0)
law_times_below {X} bound s F r law (suc k) i le =
    let one : IsReaderOf (s i) (F i) (r i) = law i (omega (arith, le)) in
    let d : X = (one.some 0).0 in
    let rest = law_times_below bound s F r law k (i + 1) (omega (arith, le)) in
    let inner = λ (x : X). law_then (spell_from s (i + 1)) (λ n xs. (length xs ≡ k) × FitFrom s F (i + 1) n xs) (times k (i + 1) r) (λ _ _. []) (λ xs _ z. z ≡ x ∷ xs) (λ xs u. Ok (x ∷ xs, u)) tail_list rest (λ n xs f. law_done (x ∷ xs)) (λ xs n z f. ap tail_list f) in
    let whole = law_then (s i) (F i) (r i) (λ _ z. spell_from s (i + 1) (tail_list z) ++ []) (λ x n z. ((length (tail_list z) ≡ k) × FitFrom s F (i + 1) n (tail_list z)) × (z ≡ x ∷ tail_list z)) (λ x u. times k (i + 1) r u >>= λ xs. Ok (x ∷ xs.0, xs.1)) (head_or d) one (λ n x f. inner x) (λ x n z f. ap (head_or d) f.1) in
    law_as (λ z. s i (head_or d z) ++ (spell_from s (i + 1) (tail_list z) ++ [])) (spell_from s i)
    (λ n z. F i n (head_or d z) × (((length (tail_list z) ≡ k) × FitFrom s F (i + 1) (n + length (s i (head_or d z))) (tail_list z)) × (z ≡ head_or d z ∷ tail_list z)))
    (λ n xs. (length xs ≡ suc k) × FitFrom s F i n xs) (times (suc k) i r) whole
    (λ n z f. times_same d s i z f.1.1) (λ n z f. times_to d s F i k n z f.1.1 f.0 f.1.0.0 f.1.0.1) (λ n z f. times_back d s F i k n z f.0 f.1)

pub law_times : {X : Type 0} (s : ℕ → X → List Line) (F : ℕ → ℕ → X → Type 0) (r : ℕ → Source → Read X) → ((i : ℕ) → IsReaderOf (s i) (F i) (r i)) → (k i : ℕ) → IsReaderOf (spell_from s i) (λ n xs. (length xs ≡ k) × FitFrom s F i n xs) (times k i r)
law_times s F r law k i = law_times_below (i + k) s F r (λ j lt. law j) k i (omega arith)

-- ---- values up to a line that ends them

abbrev pub spell_until : {X Y : Type 0} → (X ⊎ Y → Line) → List X → Y → List Line
spell_until s [] y = s (inr y) ∷ []
spell_until s (x ∷ xs) y = s (inl x) ∷ spell_until s xs y

abbrev pub FitUntil : {X Y : Type 0} → (List X → X ⊎ Y → Type 0) → List X → List X → Y → Type 0
FitUntil F seen [] y = F seen (inr y)
FitUntil F seen (x ∷ xs) y = F seen (inl x) × FitUntil F (seen ++ x ∷ []) xs y

record TookUntil {X Y : Type 0} (s : X ⊎ Y → Line) (F : List X → X ⊎ Y → Type 0) (seen : List X) (n : ℕ) (ls : List Line) (t : List ℕ) (z : List X × Y) (left : Source) : Type 0 where
  new : List X
  rest : List Line
  all : z.0 ≡ seen ++ new
  parts : ls ≡ spell_until s new z.1 ++ rest
  left_is : left ≡ at (n + length (spell_until s new z.1)) rest t
  fits : FitUntil F seen new z.1

until_takes_by : {X Y : Type 0} (s : X ⊎ Y → Line) (F : List X → X ⊎ Y → Type 0) (f : List X → Line → Option (X ⊎ Y)) → ((seen : List X) → IsLineOf s (F seen) (f seen))
    → (seen : List X) (n : ℕ) (l : Line) (ls : List Line) (t : List ℕ) (z : List X × Y) (left : Source) (o : Option (X ⊎ Y)) → f seen l ≡ o
    → ((x : X) → until_from f (seen ++ x ∷ []) (n + 1) ls t ≡ Ok (z, left) → TookUntil s F (seen ++ x ∷ []) (n + 1) ls t z left)
    → after_item (λ x. until_from f (seen ++ x ∷ []) (n + 1) ls t) (λ y. Ok ((seen, y), at (n + 1) ls t)) (Err n) o ≡ Ok (z, left)
    → TookUntil s F seen n (l ∷ ls) t z left
until_takes_by s F f law seen n l ls t z left None e go h = absurd cc
until_takes_by {X} {Y} s F f law seen n l ls t z left (Some (inl x)) e go h =
    let a = go x h in
    let g = (law seen).takes l (inl x) e in
    record {
      new = x ∷ a.new;
      rest = a.rest;
      all = a.all ∙ append_assoc seen (x ∷ []) a.new;
      parts = ap (λ (k : Line). k ∷ ls) g.0 ∙ ap (λ (k : List Line). s (inl x) ∷ k) a.parts;
      left_is = a.left_is ∙ ap (λ (c : ℕ). at c a.rest t) (omega arith);
      fits = (g.1, a.fits);
    }
until_takes_by {X} {Y} s F f law seen n l ls t z left (Some (inr y)) e go h =
    let q : ((seen, y), at (n + 1) ls t) ≡ (z, left) = ok_is ((seen, y), at (n + 1) ls t) (z, left) h in
    let g = (law seen).takes l (inr y) e in
    let made : TookUntil s F seen n (l ∷ ls) t (seen, y) (at (n + 1) ls t) = record {
      new = [];
      rest = ls;
      all = sym (append-nil seen);
      parts = ap (λ (k : Line). k ∷ ls) g.0;
      left_is = refl;
      fits = g.1;
    } in
    subst (λ (p : (List X × Y) × Source). TookUntil s F seen n (l ∷ ls) t p.0 p.1) q made

until_takes : {X Y : Type 0} (s : X ⊎ Y → Line) (F : List X → X ⊎ Y → Type 0) (f : List X → Line → Option (X ⊎ Y)) → ((seen : List X) → IsLineOf s (F seen) (f seen))
    → (ls : List Line) (seen : List X) (n : ℕ) (t : List ℕ) (z : List X × Y) (left : Source) → until_from f seen n ls t ≡ Ok (z, left) → TookUntil s F seen n ls t z left
until_takes s F f law [] seen n t z left e = absurd cc
until_takes s F f law (l ∷ ls) seen n t z left e = until_takes_by s F f law seen n l ls t z left (f seen l) refl (λ x. until_takes s F f law ls (seen ++ x ∷ []) (n + 1) t z left) e

until_again : {X Y : Type 0} (s : X ⊎ Y → Line) (F : List X → X ⊎ Y → Type 0) (f : List X → Line → Option (X ⊎ Y)) → ((seen : List X) → IsLineOf s (F seen) (f seen))
    → (new seen : List X) (y : Y) (n : ℕ) (rest : List Line) (t : List ℕ) → FitUntil F seen new y → until_from f seen n (spell_until s new y ++ rest) t ≡ Ok ((seen ++ new, y), at (n + length (spell_until s new y)) rest t)
until_again {X} {Y} s F f law [] seen y n rest t fits =
    ap (after_item (λ x. until_from f (seen ++ x ∷ []) (n + 1) rest t) (λ y. Ok ((seen, y), at (n + 1) rest t)) (Err n)) ((law seen).again (inr y) fits)
    ∙ ap (λ (xs : List X). Ok ((xs, y), at (n + 1) rest t)) (sym (append-nil seen))
until_again {X} {Y} s F f law (x ∷ xs) seen y n rest t fits =
    let ls : List Line = spell_until s xs y ++ rest in
    let next = until_again s F f law xs (seen ++ x ∷ []) y (n + 1) rest t fits.1 in
    let c : (n + 1) + length (spell_until s xs y) ≡ n + suc (length (spell_until s xs y)) = omega arith in
    ap (after_item (λ x. until_from f (seen ++ x ∷ []) (n + 1) ls t) (λ y. Ok ((seen, y), at (n + 1) ls t)) (Err n)) ((law seen).again (inl x) fits.0)
    ∙ next
    ∙ ap (λ (ys : List X). Ok ((ys, y), at ((n + 1) + length (spell_until s xs y)) rest t)) (append_assoc seen (x ∷ []) xs)
    ∙ ap (λ (k : ℕ). Ok ((seen ++ (x ∷ xs), y), at k rest t)) c

-- where a reader of the rest stops
record StoppedUntil {X Y : Type 0} (s : X ⊎ Y → Line) (F : List X → X ⊎ Y → Type 0) (f : List X → Line → Option (X ⊎ Y)) (seen : List X) (n : ℕ) (ls : List Line) (m : ℕ) : Type 0 where
  good : List Line
  left : List Line
  parts : ls ≡ good ++ left
  place : m ≡ n + length good
  new : List X
  end : Y
  fits : FitUntil F seen new end
  more : List Line
  whole : spell_until s new end ≡ good ++ more
  refused : (bad : Line) (others rest : List Line) (t : List ℕ) → left ≡ bad ∷ others → until_from f seen n (good ++ bad ∷ rest) t ≡ Err m

until_stops_by : {X Y : Type 0} (s : X ⊎ Y → Line) (F : List X → X ⊎ Y → Type 0) (f : List X → Line → Option (X ⊎ Y)) → ((seen : List X) → IsLineOf s (F seen) (f seen)) → ((seen : List X) → (y : Y) × F seen (inr y))
    → (seen : List X) (n : ℕ) (l : Line) (ls : List Line) (t : List ℕ) (m : ℕ) (o : Option (X ⊎ Y)) → f seen l ≡ o
    → ((x : X) → until_from f (seen ++ x ∷ []) (n + 1) ls t ≡ Err m → StoppedUntil s F f (seen ++ x ∷ []) (n + 1) ls m)
    → after_item (λ x. until_from f (seen ++ x ∷ []) (n + 1) ls t) (λ y. Ok ((seen, y), at (n + 1) ls t)) (Err n) o ≡ Err m
    → StoppedUntil s F f seen n (l ∷ ls) m
until_stops_by {X} {Y} s F f law stop seen n l ls t m None e go h =
    let p : m ≡ n = cc in
    let y = stop seen in
    record {
      good = [];
      left = l ∷ ls;
      parts = refl;
      place = p ∙ sym (add-zero n);
      new = [];
      end = y.0;
      fits = y.1;
      more = s (inr y.0) ∷ [];
      whole = refl;
      refused = λ bad others rest u w.
          let b : l ≡ bad = cc in
          ap (after_item (λ x. until_from f (seen ++ x ∷ []) (n + 1) rest u) (λ y. Ok ((seen, y), at (n + 1) rest u)) (Err n)) (ap (f seen) (sym b) ∙ e) ∙ ap (λ (k : ℕ). Err k) (sym p);
    }
until_stops_by {X} {Y} s F f law stop seen n l ls t m (Some (inl x)) e go h =
    let a = go x h in
    let g = (law seen).takes l (inl x) e in
    record {
      good = l ∷ a.good;
      left = a.left;
      parts = ap (λ (k : List Line). l ∷ k) a.parts;
      place = omega (arith, a.place);
      new = x ∷ a.new;
      end = a.end;
      fits = (g.1, a.fits);
      more = a.more;
      whole = ap (λ (k : Line). k ∷ spell_until s a.new a.end) (sym g.0) ∙ ap (λ (k : List Line). l ∷ k) a.whole;
      refused = λ bad others rest u w.
          ap (after_item (λ x. until_from f (seen ++ x ∷ []) (n + 1) (a.good ++ bad ∷ rest) u) (λ y. Ok ((seen, y), at (n + 1) (a.good ++ bad ∷ rest) u)) (Err n)) e ∙ a.refused bad others rest u w;
    }
until_stops_by {X} {Y} s F f law stop seen n l ls t m (Some (inr y)) e go h = absurd cc

until_stops : {X Y : Type 0} (s : X ⊎ Y → Line) (F : List X → X ⊎ Y → Type 0) (f : List X → Line → Option (X ⊎ Y)) → ((seen : List X) → IsLineOf s (F seen) (f seen)) → ((seen : List X) → (y : Y) × F seen (inr y))
    → (ls : List Line) (seen : List X) (n : ℕ) (t : List ℕ) (m : ℕ) → until_from f seen n ls t ≡ Err m → StoppedUntil s F f seen n ls m
until_stops {X} {Y} s F f law stop [] seen n t m e =
    let p : m ≡ n = cc in
    let y = stop seen in
    record {
      good = [];
      left = [];
      parts = refl;
      place = p ∙ sym (add-zero n);
      new = [];
      end = y.0;
      fits = y.1;
      more = s (inr y.0) ∷ [];
      whole = refl;
      refused = λ bad others rest u w. absurd cc;
    }
until_stops s F f law stop (l ∷ ls) seen n t m e = until_stops_by s F f law stop seen n l ls t m (f seen l) refl (λ x. until_stops s F f law stop ls (seen ++ x ∷ []) (n + 1) t m) e

until_lines : {X Y : Type 0} (s : X ⊎ Y → Line) (F : List X → X ⊎ Y → Type 0) (f : List X → Line → Option (X ⊎ Y)) → ((seen : List X) → IsLineOf s (F seen) (f seen))
    → (new seen : List X) (y : Y) → FitUntil F seen new y → AllByRecursion IsLine (spell_until s new y)
until_lines s F f law [] seen y fits = ((law seen).line (inr y) fits, tt)
until_lines s F f law (x ∷ xs) seen y fits = ((law seen).line (inl x) fits.0, until_lines s F f law xs (seen ++ x ∷ []) y fits.1)

pub law_until : {X Y : Type 0} (s : X ⊎ Y → Line) (F : List X → X ⊎ Y → Type 0) (f : List X → Line → Option (X ⊎ Y)) → ((seen : List X) → IsLineOf s (F seen) (f seen)) → ((seen : List X) → (y : Y) × F seen (inr y))
    → IsReaderOf (λ z. spell_until s z.0 z.1) (λ _ z. FitUntil F [] z.0 z.1) (until f)
law_until {X} {Y} s F f law stop = record {
  takes = λ n ls t z left e.
      let a = until_takes s F f law ls [] n t z left e in
      let moved = subst (λ (xs : List X). (ls ≡ spell_until s xs z.1 ++ a.rest) × (left ≡ at (n + length (spell_until s xs z.1)) a.rest t) × FitUntil F [] xs z.1) (sym a.all) (a.parts, a.left_is, a.fits) in
      record { rest = a.rest; parts = moved.0; left_is = moved.1; fits = moved.2 };
  again = λ n z rest t fits. until_again s F f law z.0 [] z.1 n rest t fits;
  stops = λ n ls t m e.
      let a = until_stops s F f law stop ls [] n t m e in
      record {
        good = a.good;
        left = a.left;
        parts = a.parts;
        place = a.place;
        value = (a.new, a.end);
        fits = a.fits;
        more = a.more;
        whole = a.whole;
        refused = a.refused;
      };
  some = λ n. let y = stop [] in (([], y.0), y.1);
  lines = λ n z fits. until_lines s F f law z.0 [] z.1 fits;
}
