-- How many assignments are left, as code that goes over a tree counts them.
use Rattle.std.proofs.Common.{◌≡◌, ℕ, ◌+◌, ◌<◌, ◌≤◌, List, length, get_or, drop, map, Option, None, Some, sym, ap, ◌∙◌, arith, MatchOption}
use Rattle.std.proofs.lemmas.List.{at_drop_more, drop_all}
use Rattle.word_core.specs.declared.place.Place.{Place}
use Rattle.vlog_syntax.specs.declared.expr.Expr.{Expr}
use Rattle.vlog_syntax.specs.declared.stmt.Stmt.{Stmt, If, Block}
use Rattle.vlog_syntax.specs.declared.module.Item.{Item}
use Rattle.elab_flat.specs.Bodies.{total, assignments_in, body_of, sum_over}
use Rattle.elab_flat.proofs.StatementForms.{assignments-alone, assignments-branch, assignments-Block}

pub if_first_count : (s : Stmt) (at : Place) (c : Expr) (a : Stmt) (o : Option Stmt) → s ≡ If at c a o → assignments_in a ≤ assignments_in s
if_first_count s at c a None is = let same = ap assignments_in is ∙ assignments-alone at c a in omega (arith, same)
if_first_count s at c a (Some b) is = let same = ap assignments_in is ∙ assignments-branch at c a b in omega (arith, same)

pub if_both_count : (s : Stmt) (at : Place) (c : Expr) (a b : Stmt) → s ≡ If at c a (Some b) → assignments_in s ≡ assignments_in a + assignments_in b
if_both_count s at c a b is = ap assignments_in is ∙ assignments-branch at c a b

pub block_count : (s : Stmt) (at : Place) (ss items : List Stmt) → s ≡ Block at ss → items ≡ ss → assignments_in s ≡ total (map assignments_in items)
block_count s at ss items is listed = ap assignments_in is ∙ assignments-Block at ss ∙ ap (λ xs. total (map assignments_in xs)) (sym listed)

-- one of a list on
pub counts_more : (items : List Stmt) (k : ℕ) (s : Stmt) → s ≡ get_or items k s → k < length items →
    total (map assignments_in (drop k items)) ≡ assignments_in s + total (map assignments_in (drop (k + 1) items))
counts_more items k s at lt =
    at_drop_more (λ xs. total (map assignments_in xs)) items k s lt ∙ ap (λ y. assignments_in y + total (map assignments_in (drop (k + 1) items))) (sym at)

pub sums_more : (items : List Item) (k : ℕ) (i : Item) → i ≡ get_or items k i → k < length items →
    sum_over assignments_in (drop k items) ≡ assignments_in (body_of i) + sum_over assignments_in (drop (k + 1) items)
sums_more items k i at lt =
    at_drop_more (sum_over assignments_in) items k i lt ∙ ap (λ y. assignments_in (body_of y) + sum_over assignments_in (drop (k + 1) items)) (sym at)

-- room for both parts of a statement
pub room_for_both : (o : Option ℕ) (room left a b s : ℕ) → left + a ≡ room → s ≡ a + b → MatchOption o (left < b) (λ l. l + b ≡ left) → MatchOption o (room < s) (λ l. l + s ≡ room)
room_for_both None room left a b s first both h = omega arith
room_for_both (Some l) room left a b s first both h = omega arith

-- nothing is left of a list behind its end
pub counts_none : (items : List Stmt) (k : ℕ) → length items ≤ k → total (map assignments_in (drop k items)) ≡ 0
counts_none items k past = ap (λ xs. total (map assignments_in xs)) (drop_all k items past)
