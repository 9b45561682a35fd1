-- Which bits the updates of an assignment are of.
use Rattle.std.proofs.Common.{◌≡◌, ℕ, suc, Bool, true, false, ◌||◌, nat_eq, ◌/◌, ◌^◌, List, [], ◌∷◌, ◌++◌, refl, sym, ap, ◌∙◌, length, ◌<◌, ◌≤◌, inl, inr, arith}
use Rattle.std.specs.Prelude.{All, flat_map}
use Rattle.std.proofs.lemmas.Bool.{or_parts, or_from, or_left, or_right, cases_Bool}
use Rattle.std.proofs.lemmas.List.Elements.{All-nil, All-cons, All-append, All-head, All-tail}
use Rattle.word_core.specs.Words.{bits_of}
use Rattle.word_core.proofs.WordLaws.{length-bits_of}
use Rattle.bit_exprs.specs.declared.forms.Window.{Window}
use Rattle.bit_exprs.specs.declared.forms.Part.{Part}
use Rattle.bit_exprs.specs.declared.forms.Part.TheVariants as parts
use Rattle.bit_exprs.specs.declared.forms.Target.{Target}
use Rattle.bit_exprs.specs.Values.{width_of, sign_of, value_of, index_of, is_index}
use Rattle.bit_exprs.specs.Updates.{part_width, parts_width, written, written_where, selected_updates, part_updates, parts_updates, updates_of}
use Rattle.bit_exprs.specs.Formed.{PartFormed, TargetFormed}
use Rattle.bit_exprs.specs.Named.{among, part_bits, certain_part, target_bits, certain_bits}
use Rattle.bit_exprs.proofs.Performing.{gives}

or_assoc : (a b c : Bool) → (a || b) || c ≡ a || (b || c)
or_assoc true b c = refl
or_assoc false b c = refl

gives-append : (us ws : List (ℕ × Bool)) (b : ℕ) → gives (us ++ ws) b ≡ gives us b || gives ws b
gives-append [] ws b = refl
gives-append (u ∷ us) ws b = ap (λ x. nat_eq u.0 b || x) (gives-append us ws b) ∙ sym (or_assoc (nat_eq u.0 b) (gives us b) (gives ws b))

pub among-append : (xs ys : List ℕ) (b : ℕ) → among (xs ++ ys) b ≡ among xs b || among ys b
among-append [] ys b = refl
among-append (x ∷ xs) ys b = ap (λ r. nat_eq x b || r) (among-append xs ys b) ∙ sym (or_assoc (nat_eq x b) (among xs b) (among ys b))

-- ---- no bits but those that are named

not_written : (bits : List ℕ) (word : List Bool) (b : ℕ) → among bits b ≡ false → gives (written bits word) b ≡ false
not_written [] word b h = refl
not_written (a ∷ bits) [] b h = refl
not_written (a ∷ bits) (x ∷ word) b h =
    let parts = or_parts (nat_eq a b) (among bits b) h in or_from (nat_eq a b) (gives (written bits word) b) parts.0 (not_written bits word b parts.1)

not_where : (test : ℕ → Bool) (p : ℕ) (bits : List ℕ) (x : Bool) (b : ℕ) → among bits b ≡ false → gives (written_where test p bits x) b ≡ false
not_where test p [] x b h = refl
not_where test p (a ∷ bits) x b h =
    let parts = or_parts (nat_eq a b) (among bits b) h in
    let rest = not_where test (suc p) bits x b parts.1 in
    elim (cases_Bool (test p)) [
      | inl on ↦ rw on (or_from (nat_eq a b) (gives (written_where test (suc p) bits x) b) parts.0 rest)
      | inr off ↦ rw off rest
    ]

not_selected : (window : Window) (vector : List ℕ) (w : ℕ) (signed : Bool) (a k : ℕ) (word : List Bool) (b : ℕ) → among vector b ≡ false →
    gives (selected_updates window vector w signed a k word) b ≡ false
not_selected window vector w signed a k [] b h = refl
not_selected window vector w signed a k (x ∷ word) b h =
    let here = written_where (λ p. is_index w signed a (index_of window k p)) 0 vector x in
    let rest = selected_updates window vector w signed a (suc k) word in
    gives-append here rest b
    ∙ or_from (gives here b) (gives rest b) (not_where (λ p. is_index w signed a (index_of window k p)) 0 vector x b h) (not_selected window vector w signed a (suc k) word b h)

not_in_part : (p : Part) (word v : List Bool) (b : ℕ) → among (part_bits p) b ≡ false → gives (part_updates p word v) b ≡ false
not_in_part (parts.Bits bits) word v b h = not_written bits word b h
not_in_part (parts.Select vector window index) word v b h = not_selected window vector (width_of index) (sign_of index) (value_of index v) 0 word b h
not_in_part (parts.Outside count) word v b h = refl

not_in_parts : (ps : List Part) (a : ℕ) (v : List Bool) (b : ℕ) → among (flat_map part_bits ps) b ≡ false → gives (parts_updates ps a v) b ≡ false
not_in_parts [] a v b h = refl
not_in_parts (p ∷ ps) a v b h =
    let here = part_updates p (bits_of (part_width p) (a / 2 ^ parts_width ps)) v in
    let apart = or_parts (among (part_bits p) b) (among (flat_map part_bits ps) b) (sym (among-append (part_bits p) (flat_map part_bits ps) b) ∙ h) in
    gives-append here (parts_updates ps a v) b
    ∙ or_from (gives here b) (gives (parts_updates ps a v) b) (not_in_part p _ v b apart.0) (not_in_parts ps a v b apart.1)

pub not_given : (t : Target) (a : ℕ) (v : List Bool) (b : ℕ) → among (target_bits t) b ≡ false → gives (updates_of t a v) b ≡ false
not_given t a v b h = not_in_parts t.parts a v b h

-- ---- those that are named without an index for certain

all_written : (bits : List ℕ) (word : List Bool) (b : ℕ) → length bits ≤ length word → among bits b ≡ true → gives (written bits word) b ≡ true
all_written [] word b le h = h
all_written (a ∷ bits) [] b le h = absurd (omega arith)
all_written (a ∷ bits) (x ∷ word) b le h = elim (cases_Bool (nat_eq a b)) [
  | inl on ↦ or_left (nat_eq a b) (gives (written bits word) b) on
  | inr off ↦ or_right (nat_eq a b) (gives (written bits word) b) (all_written bits word b (omega arith) (rw off at h))
]

in_part : (p : Part) (word v : List Bool) (b : ℕ) → part_width p ≤ length word → among (certain_part p) b ≡ true → gives (part_updates p word v) b ≡ true
in_part (parts.Bits bits) word v b le h = all_written bits word b le h
in_part (parts.Select vector window index) word v b le h = cc
in_part (parts.Outside count) word v b le h = h

in_parts : (ps : List Part) (a : ℕ) (v : List Bool) (b : ℕ) → among (flat_map certain_part ps) b ≡ true → gives (parts_updates ps a v) b ≡ true
in_parts [] a v b h = h
in_parts (p ∷ ps) a v b h =
    let word = bits_of (part_width p) (a / 2 ^ parts_width ps) in
    let here = part_updates p word v in
    let both : among (certain_part p) b || among (flat_map certain_part ps) b ≡ true = sym (among-append (certain_part p) (flat_map certain_part ps) b) ∙ h in
    gives-append here (parts_updates ps a v) b ∙ elim (cases_Bool (among (certain_part p) b)) [
      | inl on ↦ or_left (gives here b) (gives (parts_updates ps a v) b) (in_part p word v b (omega (arith, length-bits_of (part_width p) (a / 2 ^ parts_width ps))) on)
      | inr off ↦ or_right (gives here b) (gives (parts_updates ps a v) b) (in_parts ps a v b (rw off at both))
    ]

pub certain_given : (t : Target) (a : ℕ) (v : List Bool) (b : ℕ) → among (certain_bits t) b ≡ true → gives (updates_of t a v) b ≡ true
certain_given t a v b h = in_parts t.parts a v b h

-- ---- bits below n

abbrev Below : ℕ → ℕ × Bool → Type 0
Below n u = u.0 < n

written_below : (n : ℕ) (bits : List ℕ) (word : List Bool) → All (λ b. b < n) bits → All (Below n) (written bits word)
written_below n [] word h = All-nil (Below n)
written_below n (a ∷ bits) [] h = All-nil (Below n)
written_below n (a ∷ bits) (x ∷ word) h =
    All-cons (Below n) (a, x) (written bits word) (All-head (λ b. b < n) a bits h) (written_below n bits word (All-tail (λ b. b < n) a bits h))

where_below : (n : ℕ) (test : ℕ → Bool) (p : ℕ) (bits : List ℕ) (x : Bool) → All (λ b. b < n) bits → All (Below n) (written_where test p bits x)
where_below n test p [] x h = All-nil (Below n)
where_below n test p (a ∷ bits) x h =
    let rest = where_below n test (suc p) bits x (All-tail (λ b. b < n) a bits h) in
    elim (cases_Bool (test p)) [
      | inl on ↦ rw on (All-cons (Below n) (a, x) (written_where test (suc p) bits x) (All-head (λ b. b < n) a bits h) rest)
      | inr off ↦ rw off rest
    ]

selected_below : (n : ℕ) (window : Window) (vector : List ℕ) (w : ℕ) (signed : Bool) (a k : ℕ) (word : List Bool) → All (λ b. b < n) vector →
    All (Below n) (selected_updates window vector w signed a k word)
selected_below n window vector w signed a k [] h = All-nil (Below n)
selected_below n window vector w signed a k (x ∷ word) h =
    All-append (Below n) (written_where (λ p. is_index w signed a (index_of window k p)) 0 vector x) (selected_updates window vector w signed a (suc k) word)
    (where_below n (λ p. is_index w signed a (index_of window k p)) 0 vector x h) (selected_below n window vector w signed a (suc k) word h)

part_below : (n : ℕ) (p : Part) (word v : List Bool) → PartFormed p n → All (Below n) (part_updates p word v)
part_below n (parts.Bits bits) word v h = written_below n bits word h.1
part_below n (parts.Select vector window index) word v h = selected_below n window vector (width_of index) (sign_of index) (value_of index v) 0 word h.0.1
part_below n (parts.Outside count) word v h = All-nil (Below n)

parts_below : (n : ℕ) (ps : List Part) (a : ℕ) (v : List Bool) → All (λ p. PartFormed p n) ps → All (Below n) (parts_updates ps a v)
parts_below n [] a v h = All-nil (Below n)
parts_below n (p ∷ ps) a v h =
    let word = bits_of (part_width p) (a / 2 ^ parts_width ps) in
    All-append (Below n) (part_updates p word v) (parts_updates ps a v)
    (part_below n p word v (All-head (λ q. PartFormed q n) p ps h)) (parts_below n ps a v (All-tail (λ q. PartFormed q n) p ps h))

pub updates_below : (n : ℕ) (t : Target) (a : ℕ) (v : List Bool) → TargetFormed t n → All (λ u. u.0 < n) (updates_of t a v)
updates_below n t a v h = parts_below n t.parts a v h.0
