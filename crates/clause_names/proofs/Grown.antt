-- Numbers stay the same while names are added.
use Rattle.std.proofs.Common.{◌≡◌, ℕ, ◌+◌, ◌<◌, List, [], ◌∷◌, ◌++◌, map, length, get_or, take, refl, sym, ◌∙◌, ap, subst, arith, ◌⊎◌, inl, inr}
use Rattle.std.specs.Prelude.{◌^◌, Contains, All as Each}
use Rattle.std.proofs.lemmas.List.{append-nil, append_assoc, map-append, length-append, get_or_append_left, take_more}
use Rattle.std.proofs.lemmas.List.Elements.{All-head, All-tail, All-push, All-append, All-cons, All-nil, Contains-get_or}
use Rattle.cnf_core.specs.Literal.{Literal}
use Rattle.clause_names.specs.Naming.{IsNaming, named}
use Rattle.clause_names.specs.Numbering.{Grows, IsInClause, IsInClauses, IsNumbered, ClauseIsNumbered, AreNumbered}

pub grows_none : (names : List ℕ) (F : ℕ → Type 0) → Grows names names F
grows_none names F = record { more = []; longer = sym (append-nil names); naming = λ h. h; such = All-nil F }

-- what grows twice grows, by variables of both kinds
pub grows_twice : (a b c : List ℕ) (F G H : ℕ → Type 0) → ((n : ℕ) → F n → H n) → ((n : ℕ) → G n → H n) → Grows a b F → Grows b c G → Grows a c H
grows_twice a b c F G H left right f g = record {
  more = f.more ++ g.more;
  longer = g.longer ∙ ap (λ (xs : List ℕ). xs ++ g.more) f.longer ∙ append_assoc a f.more g.more;
  naming = λ h. g.naming (f.naming h);
  such = All-append H f.more g.more (λ k d low. left (get_or f.more k d) (f.such k d low)) (λ k d low. right (get_or g.more k d) (g.such k d low));
}

-- names that grew from that of 0 alone
pub alone : (old new : List ℕ) (F : ℕ → Type 0) → old ≡ 0 ∷ [] → Grows old new F → Each (λ n. (n ≡ 0) ⊎ F n) new
alone old new F first g =
    subst (λ (ns : List ℕ). Each (λ n. (n ≡ 0) ⊎ F n) ns) (sym (g.longer ∙ ap (λ (ns : List ℕ). ns ++ g.more) first))
    (All-cons (λ n. (n ≡ 0) ⊎ F n) 0 g.more (inl refl) (λ k d low. inr (g.such k d low)))

pub named_longer : (old more : List ℕ) (l : Literal) → l.variable < length old → named (old ++ more) l ≡ named old l
named_longer old more l low = ap (λ (n : ℕ). record { variable = n; positive = l.positive }) (get_or_append_left old more (2 ^ 31 + l.variable) l.variable low)

pub clause_longer : (old more : List ℕ) (ls : List Literal) → Each (λ l. l.variable < length old) ls → map (named (old ++ more)) ls ≡ map (named old) ls
clause_longer old more [] h = refl
clause_longer old more (l ∷ ls) h =
    let head : named (old ++ more) l ≡ named old l = named_longer old more l (All-head (λ (l : Literal). l.variable < length old) l ls h) in
    let tail : map (named (old ++ more)) ls ≡ map (named old) ls = clause_longer old more ls (All-tail (λ (l : Literal). l.variable < length old) l ls h) in
    λ j. head j ∷ tail j

pub all_longer : (old more : List ℕ) (cs : List (List Literal)) → Each (λ c. Each (λ l. l.variable < length old) c) cs → map (map (named (old ++ more))) cs ≡ map (map (named old)) cs
all_longer old more [] h = refl
all_longer old more (c ∷ cs) h =
    let head : map (named (old ++ more)) c ≡ map (named old) c = clause_longer old more c (All-head (λ (c : List Literal). Each (λ l. l.variable < length old) c) c cs h) in
    let tail : map (map (named (old ++ more))) cs ≡ map (map (named old)) cs = all_longer old more cs (All-tail (λ (c : List Literal). Each (λ l. l.variable < length old) c) c cs h) in
    λ j. head j ∷ tail j

below_longer : (old more new : List ℕ) (ls : List Literal) → new ≡ old ++ more → Each (λ l. l.variable < length old) ls → Each (λ l. l.variable < length new) ls
below_longer old more new ls e h k d low = let lt = h k d low in omega (arith, ap length e, length-append old more)

-- one more literal is numbered
pub literal_more : (old new : List ℕ) (clause numbers : List Literal) (l number : Literal) (F : ℕ → Type 0) → ClauseIsNumbered old clause numbers → Grows old new F →
    IsNumbered new l number → ClauseIsNumbered new (clause ++ l ∷ []) (numbers ++ number ∷ [])
literal_more old new clause numbers l number F c g n = record {
  below = All-push (λ (l : Literal). l.variable < length new) numbers number (below_longer old g.more new numbers g.longer c.below) n.below;
  same =
      map-append (named new) numbers (number ∷ [])
      ∙ (λ j. map (named (g.longer j)) numbers ++ n.same j ∷ [])
      ∙ ap (λ (xs : List Literal). xs ++ l ∷ []) (clause_longer old g.more numbers c.below ∙ c.same);
}

-- one more clause is numbered
pub clause_more : (old new : List ℕ) (clauses numbered : List (List Literal)) (c numbers : List Literal) (F : ℕ → Type 0) → AreNumbered old clauses numbered → Grows old new F →
    ClauseIsNumbered new c numbers → AreNumbered new (clauses ++ c ∷ []) (numbered ++ numbers ∷ [])
clause_more old new clauses numbered c numbers F a g n = record {
  below = All-push (λ (c : List Literal). Each (λ l. l.variable < length new) c) numbered numbers
      (λ k d low. below_longer old g.more new (get_or numbered k d) g.longer (a.below k d low)) n.below;
  same =
      map-append (map (named new)) numbered (numbers ∷ [])
      ∙ (λ j. map (map (named (g.longer j))) numbered ++ n.same j ∷ [])
      ∙ ap (λ (xs : List (List Literal)). xs ++ c ∷ []) (all_longer old g.more numbered a.below ∙ a.same);
}

-- ---- the steps of loops

pub literal_step : (first old new : List ℕ) (clause numbers all : List Literal) (i : ℕ) (l number : Literal) →
    i < length clause → l ≡ get_or clause i l → all ≡ numbers ++ number ∷ [] →
    ClauseIsNumbered old (take i clause) numbers → Grows first old (IsInClause clause) → IsNaming old →
    IsNumbered new l number → Grows old new (λ n. n ≡ l.variable) →
    ClauseIsNumbered new (take (i + 1) clause) all × Grows first new (IsInClause clause) × IsNaming new
literal_step first old new clause numbers all i l number low here pushed c g naming n h =
    let one : take (i + 1) clause ≡ take i clause ++ l ∷ [] = take_more clause i l low ∙ ap (λ (x : Literal). take i clause ++ x ∷ []) (sym here) in
    let is_in : Contains clause l = rw here (Contains-get_or clause i l low) in (
      rw (one, pushed) (literal_more old new (take i clause) numbers l number (λ k. k ≡ l.variable) c h n),
      grows_twice first old new (IsInClause clause) (λ k. k ≡ l.variable) (IsInClause clause) (λ k h. h) (λ k e. (l, is_in, e)) g h,
      h.naming naming,
    )

pub clause_step : (first old new : List ℕ) (clauses numbered all : List (List Literal)) (i : ℕ) (c numbers slice : List Literal) {count : ℕ} →
    i < count → count ≡ length clauses → c ≡ get_or clauses i [] → slice ≡ numbers → all ≡ numbered ++ slice ∷ [] →
    AreNumbered old (take i clauses) numbered → Grows first old (IsInClauses clauses) → IsNaming old →
    ClauseIsNumbered new c numbers → Grows old new (IsInClause c) →
    AreNumbered new (take (i + 1) clauses) all × Grows first new (IsInClauses clauses) × IsNaming new
clause_step first old new clauses numbered all i c numbers slice below count_is here same pushed a g naming n h =
    let low : i < length clauses = omega arith in
    let one : take (i + 1) clauses ≡ take i clauses ++ c ∷ [] = take_more clauses i [] low ∙ ap (λ (x : List Literal). take i clauses ++ x ∷ []) (sym here) in
    let is_in : Contains clauses c = rw here (Contains-get_or clauses i [] low) in (
      rw (one, pushed, same) (clause_more old new (take i clauses) numbered c numbers (IsInClause c) a h n),
      grows_twice first old new (IsInClauses clauses) (IsInClause c) (IsInClauses clauses) (λ k h. h) (λ k h. (c, is_in, h)) g h,
      h.naming naming,
    )
