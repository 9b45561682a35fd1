-- What compaction does to the clauses and their references.
use Rattle.std.specs.Prelude.{◌≡◌, ◌<◌, List, All}
use Rattle.std.specs.List.{AllPairs, Any, filter}
use Rattle.std.specs.Option.{is_some}
use Rattle.clause_arena.specs.declared.Ref.{Ref}
use Rattle.clause_arena.specs.declared.Move.{Move}
use Rattle.clause_arena.specs.Stored.{Places, clause_at, IsLive}

-- the clauses of `old`, without the removed ones, stand in `new`, and the moves say where
pub record Compacts (old new : Places) (moves : List Move) : Type 0 where
  -- the clauses that stood stand, in their order, and no place is empty
  pub kept : new ≡ filter is_some old
  -- the moved reference is for the clause that the old one was for
  pub same : All (λ m. IsLive old m.from × (clause_at new m.to ≡ clause_at old m.from)) moves
  -- each reference of a clause that stood is moved
  pub all : (at : Ref) → IsLive old at → Any (λ m. m.from.place ≡ at.place) moves
  -- both references of a pair are greater than those of the pair before
  pub rising : AllPairs (λ a b. (a.from.place < b.from.place) × (a.to.place < b.to.place)) moves
