-- Slots of clauses, in the order of their numbers.
use Rattle.std.specs.Prelude.{◌≡◌, ℕ, ◌<◌, ◌≢◌, Bool, true, false, ◌&&◌, ◌==◌, if◌then◌else◌, List, [], ◌∷◌, map, slice_index_or, length, All, Result, Ok, Err}
use Rattle.std.specs.List.{list_any}
use Rattle.lrat_check.specs.declared.store.Slot.{Slot}

-- the numbers rise strictly
abbrev pub Rises : List Slot → Type 0
Rises [] = Unit {0}
Rises (s ∷ ss) = All (λ t. s.id < t.id) ss × Rises ss

-- the slot at place k has the number
abbrev pub IsPlaceOf : List Slot → ℕ → ℕ → Type 0
IsPlaceOf slots id k = (k < length slots) × ((d : Slot) → (slice_index_or slots k d).id ≡ id)

-- no slot has the number
abbrev pub HasNone : List Slot → ℕ → Type 0
HasNone slots id = All (λ s. s.id ≢ id) slots

-- whether a live clause has the number
abbrev pub is_live : List Slot → ℕ → Bool
is_live slots id = list_any (λ s. (s.id == id) && s.live) slots

-- the slot, live or dead
abbrev pub with_live : Slot → Bool → Slot
with_live s live = record s { live = live }

-- the slots after the one with this number became live or dead
abbrev pub put_live : Bool → List Slot → ℕ → List Slot
put_live live slots id = map (λ s. if s.id == id then with_live s live else s) slots

-- the slots once these are dead, in order, or the first number that no live clause has then
abbrev pub kill_all : List Slot → List ℕ → Result (List Slot) ℕ
kill_all slots [] = Ok slots
kill_all slots (id ∷ ids) = if is_live slots id then kill_all (put_live false slots id) ids else Err id

-- the slots once these are live again, from the last on
abbrev pub revive_all : List Slot → List ℕ → List Slot
revive_all slots [] = slots
revive_all slots (id ∷ ids) = put_live true (revive_all slots ids) id
