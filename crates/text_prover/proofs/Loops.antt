-- Loops that test each element of a list.
use Rattle.std.proofs.Common.{◌≡◌, ℕ, ◌+◌, ◌<◌, ◌≤◌, Bool, true, List, length, get_or, take, All, IsTrue, subst}
use Rattle.std.proofs.lemmas.List.{take_all}
use Rattle.std.proofs.lemmas.List.Elements.{All-more}

module _ {X : Type 0} (P : X → Type 0) (xs : List X) (i : ℕ) where
  pub all_taken : length xs ≤ i → All P (take i xs) → All P xs
  all_taken past all = subst (All P) (take_all i xs past) all

  -- one more element holds
  pub taken_more : (x : X) → i < length xs → x ≡ get_or xs i x → P x → All P (take i xs) → All P (take (i + 1) xs)
  taken_more x lt at holds all = All-more P xs i x lt all (subst P at holds)

  -- one more element passes the test
  pub tested_more : (x : X) (passes : Bool) → i < length xs → x ≡ get_or xs i x → (IsTrue passes → P x) → passes ≡ true → All P (take i xs) → All P (take (i + 1) xs)
  tested_more x passes lt at holds tested all = taken_more x lt at (holds tested) all
