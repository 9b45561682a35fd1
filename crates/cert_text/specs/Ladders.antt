-- Reading the ladder of a claim.
use Rattle.std.specs.Prelude.{ℕ, zero, suc, ◌+◌, ◌-◌, Bool, true, false, not, ◌&&◌, ◌||◌, List, [], ◌∷◌, ◌++◌, Option, Some, None, option_map, option_and_then, Ok, ◌==◌, nat_le, codes, decimal, if◌then◌else◌}
use Rattle.std.specs.Str.{bytes_eq}
use Rattle.bit_system.specs.declared.ladder.Depth.{Depth}
use Rattle.bit_system.specs.declared.ladder.Depth.TheVariants.{All, Steps}
use Rattle.bit_system.specs.ProofLines.{ProofLine, addition, deletion}
use Rattle.proof_lines.specs.Spelling.{PlainLine, Addition, Deletion}
use Rattle.proof_lines.specs.Reading.{lrat_of}
use Rattle.line_text.specs.Lines.{Line, Source, three_of}
use Rattle.line_text.specs.Number.{number_of}
use Rattle.line_text.specs.Reading.{Read, ◌>>=◌, line_by, times}
use Rattle.line_text.specs.Tagged.{alone_of}
use Rattle.cert_text.specs.declared.cert.NamedLit.{NamedLit}
use Rattle.cert_text.specs.declared.cert.NamedLemma.{NamedLemma}
use Rattle.cert_text.specs.declared.cert.NamedLadder.{NamedLadder}
use Rattle.cert_text.specs.Points.{is_state_name}
use Rattle.cert_text.specs.Tests.{four_of}
use Rattle.cert_text.specs.Spelling.{added, empty_ladder}

-- ---- lemmas

abbrev pub named_lit : Bool → List ℕ → Option NamedLit
named_lit positive w = if is_state_name w then Some (record { name = w; positive = positive }) else None

unfoldable pub lit_of : List ℕ → Option NamedLit
lit_of [] = None
lit_of (b ∷ bs) = if b == 45 then named_lit false bs else named_lit true (b ∷ bs)

-- literals, a word each, behind those of seen
abbrev pub lits_after : List NamedLit → Line → Option (List NamedLit)
lits_after seen [] = Some seen
lits_after seen (w ∷ ws) = option_and_then (λ x. lits_after (seen ++ x ∷ []) ws) (lit_of w)

-- one literal at least
abbrev pub lits_of : Line → Option (List NamedLit)
lits_of [] = None
lits_of (w ∷ ws) = lits_after [] (w ∷ ws)

-- a level, which must be `all` where the claim is for all cycles
abbrev pub level_of : Bool → List ℕ → Option Depth
level_of forever w = if bytes_eq w (codes "all") then Some All else (if forever then None else option_map Steps (number_of 9223372036854775807 w))

abbrev pub behind_l : Bool → Line → Option NamedLemma
behind_l forever [] = None
behind_l forever (w ∷ ws) = option_and_then (λ level. option_map (λ lits. record { level = level; lits = lits }) (lits_of ws)) (level_of forever w)

unfoldable pub lemma_of : Bool → Line → Option NamedLemma
lemma_of forever [] = None
lemma_of forever (w ∷ ws) = if bytes_eq w (codes "l") then behind_l forever ws else None

-- ---- proofs

-- two numbers, of which the second is 0 where the first is
abbrev pub pair_of : List ℕ → List ℕ → Option (ℕ × ℕ)
pair_of a b = option_and_then (λ m. option_and_then (λ n. if m == 0 && not (n == 0) then None else Some (m, n)) (number_of 9223372036854775807 b)) (number_of 9223372036854775807 a)

-- such numbers behind a tag
abbrev pub tagged_pair_of : List ℕ → Line → Option (ℕ × ℕ)
tagged_pair_of tag l = option_and_then (λ p. if bytes_eq p.0 tag then pair_of p.1 p.2 else None) (three_of l)

-- how many lines the proof of the lemma with this number has, and how many literals they add
abbrev pub step_of : ℕ → Line → Option (ℕ × ℕ)
step_of i l = option_and_then (λ p. if bytes_eq p.0 (codes "step") then (if bytes_eq p.1 (decimal i) then pair_of p.2 p.3 else None) else None) (four_of l)

abbrev pub hit_of : Line → Option (ℕ × ℕ)
hit_of l = tagged_pair_of (codes "hit") l

abbrev pub said : PlainLine → ProofLine
said (Addition id lits hints) = addition id lits hints
said (Deletion id ids) = deletion id ids

-- a line of a proof where left literals may still be added, and must be on the last line
unfoldable pub line_within : ℕ → Bool → Line → Option ProofLine
line_within left last l = option_and_then (λ x. if nat_le (added x) left && (not last || added x == left) then Some x else None) (option_map said (lrat_of l))

-- count lines of a proof, which add left literals
abbrev pub lines_from : ℕ → ℕ → Source → Read (List ProofLine)
lines_from zero left s = Ok ([], s)
lines_from (suc k) left s = line_by (line_within left (k == 0)) s >>= λ x. lines_from k (left - added x.0) x.1 >>= λ xs. Ok (x.0 ∷ xs.0, xs.1)

-- a proof, by what its head says
unfoldable pub proof_at : (Line → Option (ℕ × ℕ)) → Source → Read (List ProofLine)
proof_at head s = do
  sizes ← line_by head s
  lines_from sizes.0.0 sizes.0.1 sizes.1

-- ---- ladders

unfoldable pub ladder_at : Bool → ℕ → Source → Read NamedLadder
ladder_at forever count s = do
  lemmas ← times count 0 (λ _. line_by (lemma_of forever)) s
  steps ← times count 0 (λ i. proof_at (step_of (i + 1))) lemmas.1
  hit ← proof_at hit_of steps.1
  last ← line_by (alone_of (codes "end")) hit.1
  Ok (record { lemmas = lemmas.0; steps = steps.0; hit = Some hit.0 }, last.1)

unfoldable pub no_ladder_at : Source → Read NamedLadder
no_ladder_at s = do
  last ← line_by (alone_of (codes "end")) s
  Ok (empty_ladder, last.1)

-- the ladder of a claim for so many cycles
abbrev pub cycles_at : ℕ → ℕ → Source → Read NamedLadder
cycles_at cycles count s = if cycles == 0 then no_ladder_at s else ladder_at false count s
