-- The circuit of a write to a target: the gates that it makes, in the order in which they are made, since a certificate cites their numbers.
-- The words of all indices are made first; then the parts are written from the first part, the most significant, on.
use Rattle.std.specs.Prelude.{ℕ, suc, Bool, List, [], ◌∷◌, take, drop, slice_set}
use Rattle.bit_exprs.specs.declared.forms.Part.{Part}
use Rattle.bit_exprs.specs.declared.forms.Part.TheVariants.{Bits, Select, Outside}
use Rattle.bit_exprs.specs.declared.forms.Target.{Target}
use Rattle.bit_exprs.specs.declared.forms.Window.{Window}
use Rattle.bit_exprs.specs.Values.{width_of, sign_of}
use Rattle.bit_exprs.specs.Updates.{part_width, parts_width}
use Rattle.aig_core.specs.Graph.{Graph}
use Rattle.word_blast.specs.Bits.{mux_of}
use Rattle.expr_blast.specs.Circuits.{literal_at, word_of, place_of}

-- ---- indices

-- how wide the word of a part's index is; a part without an index has the word of no bits
abbrev pub index_width : Part → ℕ
index_width (Bits bits) = 0
index_width (Select vector window index) = width_of index
index_width (Outside count) = 0

-- the word of a part's index, from the literals that are read, by bit
abbrev pub index_of : Part → Graph → List ℕ → Graph × List ℕ
index_of (Bits bits) g read = (g, [])
index_of (Select vector window index) g read = word_of index g read
index_of (Outside count) g read = (g, [])

-- a word for each part, from the first part on
unfoldable pub indices_of : List Part → Graph → List ℕ → Graph × List (List ℕ)
indices_of [] g read = (g, [])
indices_of (p ∷ ps) g read =
    let x = index_of p g read in
    let rest = indices_of ps x.0 read in
    (rest.0, x.1 ∷ rest.1)

-- ---- parts; the targets are literals by bit

-- the literals of bits become those of a word, as far as both go
abbrev pub replaced : List ℕ → List ℕ → List ℕ → List ℕ
replaced [] word targets = targets
replaced (b ∷ bits) [] targets = targets
replaced (b ∷ bits) (x ∷ word) targets = replaced bits word (slice_set targets b x)

-- bit b becomes x where c holds
unfoldable pub put_chosen : ℕ → ℕ → ℕ → Graph → List ℕ → Graph × List ℕ
put_chosen c x b g targets =
    let m = mux_of g c x (literal_at targets b) in
    (m.0, slice_set targets b m.1)

-- x, which is bit k of what is selected, at the place that the index names among the bits of a vector, from place p on
unfoldable pub put_where : Window → Bool → List ℕ → ℕ → ℕ → ℕ → List ℕ → Graph → List ℕ → Graph × List ℕ
put_where window signed at k x p [] g targets = (g, targets)
put_where window signed at k x p (b ∷ bits) g targets =
    let here = place_of window signed at k p g in
    let r = put_chosen here.1 x b here.0 targets in
    put_where window signed at k x (suc p) bits r.0 r.1

-- the literals of a word, from bit k on, into what is selected of a vector
unfoldable pub put_selected : Window → Bool → List ℕ → List ℕ → ℕ → List ℕ → Graph → List ℕ → Graph × List ℕ
put_selected window signed at vector k [] g targets = (g, targets)
put_selected window signed at vector k (x ∷ word) g targets =
    let r = put_where window signed at k x 0 vector g targets in
    put_selected window signed at vector (suc k) word r.0 r.1

-- a part with its index and the literals that it takes
abbrev pub put_part : Part → List ℕ → List ℕ → Graph → List ℕ → Graph × List ℕ
put_part (Bits bits) at word g targets = (g, replaced bits word targets)
put_part (Select vector window index) at word g targets = put_selected window (sign_of index) at vector 0 word g targets
put_part (Outside count) at word g targets = (g, targets)

-- The parts with their indices. They take the literals of the value, the last part the lowest ones.
unfoldable pub written_of : List Part → List (List ℕ) → List ℕ → Graph → List ℕ → Graph × List ℕ
written_of [] indices value g targets = (g, targets)
written_of (p ∷ ps) [] value g targets = (g, targets)
written_of (p ∷ ps) (at ∷ indices) value g targets =
    let r = put_part p at (take (part_width p) (drop (parts_width ps) value)) g targets in
    written_of ps indices value r.0 r.1

-- ---- targets

-- a value, at least as wide as the target, written to it; its indices read other literals, or those that are written, as they are before
abbrev pub put_of : Target → List ℕ → List ℕ → Graph → List ℕ → Graph × List ℕ
put_of target value read g targets =
    let x = indices_of target.parts g read in
    written_of target.parts x.1 value x.0 targets
