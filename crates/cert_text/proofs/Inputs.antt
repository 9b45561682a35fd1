-- Whether a line has the inputs of a cycle, or ends a claim.
use Rattle.std.proofs.Common.{◌≡◌, Bool, List, Some, None, inl, inr, codes}
use Rattle.line_text.specs.Lines.{Line}
use Rattle.line_text.specs.Tagged.{alone_of}
use Rattle.line_text.proofs.Choices.{is_first, is_second, is_neither}
use Rattle.cert_text.specs.Certs.{bits_line_of, in_or_end}

pub input_found : (seen : List (List Bool)) (l : Line) (b : List Bool) → bits_line_of (codes "in") l ≡ Some b → in_or_end seen l ≡ Some (inl b)
unfolding in_or_end
input_found seen l b e = is_first (bits_line_of (codes "in") l) (alone_of (codes "end") l) b e

pub end_found : (seen : List (List Bool)) (l : Line) → bits_line_of (codes "in") l ≡ None → alone_of (codes "end") l ≡ Some tt → in_or_end seen l ≡ Some (inr tt)
unfolding in_or_end
end_found seen l e f = is_second (bits_line_of (codes "in") l) (alone_of (codes "end") l) tt e f

pub no_input_found : (seen : List (List Bool)) (l : Line) → bits_line_of (codes "in") l ≡ None → alone_of (codes "end") l ≡ None → in_or_end seen l ≡ None
unfolding in_or_end
no_input_found seen l e f = is_neither (bits_line_of (codes "in") l) (alone_of (codes "end") l) e f
