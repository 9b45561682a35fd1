-- Reading a certificate.
use Rattle.std.specs.Prelude.{ℕ, Bool, true, false, ◌⊎◌, List, [], ◌∷◌, ◌++◌, length, Option, Some, None, option_map, option_and_then, Result, Ok, ◌==◌, codes, if◌then◌else◌}
use Rattle.std.specs.List.{join_with_byte}
use Rattle.std.specs.Str.{bytes_eq}
use Rattle.design_core.specs.declared.setup.Setup.{Setup}
use Rattle.design_core.specs.declared.setup.Stimulus.{Stimulus}
use Rattle.cert_text.specs.declared.cert.Body.{Body}
use Rattle.cert_text.specs.declared.cert.Body.TheVariants.{Reached, Excluded, Open}
use Rattle.cert_text.specs.declared.body.Claimed.{Claimed}
use Rattle.cert_text.specs.declared.body.Claimed.TheVariants.{HitAt, Never, NotWithin}
use Rattle.cert_text.specs.declared.cert.CertClaim.{CertClaim}
use Rattle.cert_text.specs.declared.cert.Cert.{Cert}
use Rattle.line_text.specs.Lines.{Line, Source}
use Rattle.line_text.specs.Reading.{Read, ◌>>=◌, line_by, times, until, or_else, either_of}
use Rattle.line_text.specs.Tagged.{behind, numbered_of, exact_of, alone_of}
use Rattle.line_text.specs.Texts.{whole_by}
use Rattle.cert_text.specs.Points.{is_name}
use Rattle.cert_text.specs.Tests.{is_point}
use Rattle.cert_text.specs.Kinds.{kinds_line_of}
use Rattle.cert_text.specs.Spelling.{plain_setup}
use Rattle.cert_text.specs.Ladders.{tagged_pair_of, ladder_at, cycles_at}

-- ---- lines

abbrev pub name_of : List ℕ → Option (List ℕ)
name_of w = if is_name w then Some w else None

abbrev pub named_of : List ℕ → Line → Option (List ℕ)
named_of tag l = option_and_then name_of (behind tag l)

-- the text of a line that names a point
unfoldable pub point_of : Line → Option (List ℕ)
point_of l = if is_point l then Some (join_with_byte 32 l) else None

abbrev pub bit_of : ℕ → Option Bool
bit_of b = if b == 48 then Some false else (if b == 49 then Some true else None)

-- the bits of a word, behind those of seen
abbrev pub bits_after : List Bool → List ℕ → Option (List Bool)
bits_after seen [] = Some seen
bits_after seen (b ∷ bs) = option_and_then (λ x. bits_after (seen ++ x ∷ []) bs) (bit_of b)

abbrev pub bits_of : List ℕ → Option (List Bool)
bits_of w = if bytes_eq w (codes "-") then Some [] else (if length w == 0 then None else bits_after [] w)

abbrev pub bits_line_of : List ℕ → Line → Option (List Bool)
bits_line_of tag l = option_and_then bits_of (behind tag l)

unfoldable pub in_or_end : List (List Bool) → Line → Option (List Bool ⊎ Unit {0})
in_or_end seen l = either_of (bits_line_of (codes "in") l) (alone_of (codes "end") l)

-- ---- blocks

unfoldable pub setup_at : Source → Read Setup
setup_at s = do
  version ← line_by (exact_of (codes "unr") (codes "1")) s
  top ← line_by (named_of (codes "top")) version.1
  clock ← line_by (named_of (codes "clock")) top.1
  cycles ← line_by (exact_of (codes "cycles") (codes "0")) clock.1
  points ← line_by (kinds_line_of (codes "points")) cycles.1
  Ok (plain_setup top.0 clock.0 points.0, points.1)

unfoldable pub stimulus_at : Source → Read Stimulus
stimulus_at s = do
  start ← line_by (bits_line_of (codes "start")) s
  inputs ← until in_or_end start.1
  Ok (record { start = start.0; lines = inputs.0.0 }, inputs.1)

-- which verdict a line begins, with its numbers
abbrev pub head_of : Line → Option Claimed
head_of l = or_else (option_map HitAt (numbered_of (codes "reached") 9223372036854775807 l)) (or_else (option_map Never (numbered_of (codes "excluded") 9223372036854775807 l)) (option_map (λ p. NotWithin p.0 p.1) (tagged_pair_of (codes "open") l)))

-- what stands behind that line
abbrev pub behind_head : Claimed → Source → Read Body
behind_head (HitAt cycle) s = stimulus_at s >>= λ stimulus. Ok (Reached cycle stimulus.0, stimulus.1)
behind_head (Never count) s = ladder_at true count s >>= λ ladder. Ok (Excluded ladder.0, ladder.1)
behind_head (NotWithin cycles count) s = cycles_at cycles count s >>= λ ladder. Ok (Open cycles ladder.0, ladder.1)

unfoldable pub body_at : Source → Read Body
body_at s = do
  head ← line_by head_of s
  behind_head head.0 head.1

-- the claim that begins at line n
unfoldable pub claim_from : ℕ → Source → Read CertClaim
claim_from n s = do
  point ← line_by point_of s
  body ← body_at point.1
  Ok (record { line = n; point = point.0; body = body.0 }, body.1)

unfoldable pub claim_at : Source → Read CertClaim
claim_at s = claim_from s.line s

unfoldable pub cert_at : Source → Read Cert
cert_at s = do
  setup ← setup_at s
  count ← line_by (numbered_of (codes "claims") 9223372036854775807) setup.1
  claims ← times count.0 0 (λ _. claim_at) count.1
  Ok (record { setup = setup.0; claims = claims.0 }, claims.1)

-- all of a text
unfoldable pub cert_of : List ℕ → Result Cert ℕ
cert_of text = whole_by cert_at text
