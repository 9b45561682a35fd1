-- The values of numbers have no bits beyond their width.
use Rattle.std.proofs.Common.{◌≡◌, ℕ, suc, ◌+◌, ◌%◌, ◌^◌, ◌<◌, ◌≤◌, ◌==◌, nat_lt, nat_le, Bool, true, false, not, ◌&&◌, if◌then◌else◌, List, [], ◌∷◌, refl, sym, ap, subst, arith, Option, Some, None, IfSome}
use Rattle.std.specs.List.{list_any}
use Rattle.std.proofs.lemmas.Bool.{ltb-true, leb-true}
use Rattle.std.proofs.lemmas.Nat.{pow_pos}
use Rattle.std.proofs.Math.Nat.{mod-lt}
use Rattle.vlog_tokens.specs.declared.number.Number.{Number}
use Rattle.vlog_tokens.specs.Bytes.{radix_of, is_digit_of, is_unknown}
use Rattle.vlog_tokens.specs.Numbers.{is_digits, below, numeral, open_of, width_within, width_found, width_of, signed_found, plain, cut_to, sized, in_base, based, sized_or_plain, IsWithin}
use Rattle.vlog_tokens.proofs.Tests.{split_and}

abbrev Within : Option Number → Type 0
Within o = IfSome o (λ n. IsWithin n)

abbrev IsWidth : ℕ → Type 0
IsWidth w = (1 ≤ w) × (w ≤ 128)

found_width : (o : Option ℕ) → IfSome (width_found o) (λ w. IsWidth w)
found_width None = tt
found_width (Some n) = (elim (nat_le 1 n && nat_le n 128) as (λ v. (nat_le 1 n && nat_le n 128) ≡ v → IfSome (if v then Some n else None) (λ w. IsWidth w)) [
  | true ↦ λ e. (let both = split_and (nat_le 1 n) (nat_le n 128) e in (leb-true 1 n both.0, leb-true n 128 both.1))
  | false ↦ λ e. tt
]) refl

size_width : (size : List ℕ) → IfSome (width_of size) (λ w. IsWidth w)
size_width [] = (omega arith, omega arith)
size_width (b ∷ bs) = found_width (below (2 ^ 128) (numeral 10 (b ∷ bs)))

signed_within : (o : Option ℕ) → Within (signed_found o)
signed_within None = tt
signed_within (Some n) = (elim (nat_lt n (2 ^ 32)) as (λ v. nat_lt n (2 ^ 32) ≡ v → Within (if v then Some (record { width = 32; value = n; wild = 0; is_signed = true }) else None)) [
  | true ↦ λ e. record { some = omega arith; most = omega arith; value = ltb-true n (2 ^ 32) e; wild = pow_pos 32 }
  | false ↦ λ e. tt
]) refl

plain_within : (digits : List ℕ) → Within (plain digits)
plain_within [] = tt
plain_within (b ∷ bs) = signed_within (below (2 ^ 128) (numeral 10 (b ∷ bs)))

cut_within : (width radix : ℕ) (digits : List ℕ) → IsWidth width → Within (cut_to width radix digits)
cut_within width radix digits W = elim (nat_lt (numeral radix digits) (2 ^ 128)) as (λ v. Within (if v then Some (record { width = width; value = numeral radix digits % 2 ^ width; wild = open_of width radix digits; is_signed = false }) else None)) [
  | true ↦ record { some = W.0; most = W.1; value = mod-lt (numeral radix digits) (pow_pos width); wild = mod-lt _ (pow_pos width) }
  | false ↦ tt
]

sized_within : (o : Option ℕ) (radix : ℕ) (digits : List ℕ) → IfSome o (λ w. IsWidth w) → Within (sized o radix digits)
sized_within None radix digits W = tt
sized_within (Some width) radix digits W = elim (list_any is_unknown digits) as (λ v. Within (if v then None else cut_to width radix digits)) [ true ↦ tt | false ↦ cut_within width radix digits W ]

base_within : (size : List ℕ) (radix : ℕ) (digits : List ℕ) → Within (in_base size radix digits)
base_within size radix digits = elim (not (radix == 0) && is_digits (is_digit_of radix) digits) as (λ v. Within (if v then sized (width_of size) radix digits else None)) [ true ↦ sized_within (width_of size) radix digits (size_width size) | false ↦ tt ]

based_within : (size text : List ℕ) → Within (based size text)
based_within size [] = tt
based_within size (letter ∷ digits) = base_within size (radix_of letter) digits

pub parts_within : (size text : List ℕ) → Within (sized_or_plain size text)
parts_within size [] = plain_within size
parts_within size (b ∷ bs) = elim (b == 39) as (λ v. Within (if v then based size bs else None)) [ true ↦ based_within size bs | false ↦ tt ]
