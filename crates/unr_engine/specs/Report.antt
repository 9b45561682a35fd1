-- The reports of claims and the exclusion list, as text.
use Rattle.std.specs.Prelude.{ℕ, Bool, true, false, List, [], ◌∷◌, ◌++◌, filter, length, codes, decimal, nat_lt}
use Rattle.cert_text.specs.declared.claim.Claim.{Claim}
use Rattle.cert_text.specs.declared.claim.Verdict.{Verdict}
use Rattle.cert_text.specs.declared.claim.Verdict.TheVariants.{Reached, Excluded, Open}

-- A claim's line: its verdict and its point.
abbrev pub claim_line : Verdict → List ℕ → List ℕ
claim_line (Reached cycle) point = codes "reached " ++ (decimal cycle ++ (codes " " ++ (point ++ codes "\n")))
claim_line Excluded point = codes "excluded " ++ (point ++ codes "\n")
claim_line (Open cycles) point = codes "open " ++ (decimal cycles ++ (codes " " ++ (point ++ codes "\n")))

abbrev pub report_line : Claim → List ℕ
report_line claim = claim_line claim.verdict claim.point

abbrev pub report_lines : List Claim → List ℕ
report_lines [] = []
report_lines (claim ∷ claims) = report_line claim ++ report_lines claims

abbrev pub is_excluded : Verdict → Bool
is_excluded Excluded = true
is_excluded (Reached cycle) = false
is_excluded (Open cycles) = false

abbrev pub is_reached : Verdict → Bool
is_reached Excluded = false
is_reached (Reached cycle) = true
is_reached (Open cycles) = false

abbrev pub is_open : Verdict → Bool
is_open Excluded = false
is_open (Reached cycle) = false
is_open (Open cycles) = true

-- How many claims have such a verdict.
abbrev pub count : (Verdict → Bool) → List Claim → ℕ
count test claims = length (filter (λ (c : Claim). test c.verdict) claims)

-- The last line: how many claims there are, and how many of each verdict.
abbrev pub summary : List Claim → List ℕ
summary claims =
    codes "points " ++ (decimal (length claims) ++ (codes " excluded " ++ (decimal (count is_excluded claims)
    ++ (codes " reached " ++ (decimal (count is_reached claims) ++ (codes " open " ++ (decimal (count is_open claims) ++ codes "\n")))))))

-- A line for each claim, in order, and the last line.
abbrev pub report : List Claim → List ℕ
report claims = report_lines claims ++ summary claims

-- Whether a claim is open.
abbrev pub some_open : List Claim → Bool
some_open claims = nat_lt 0 (count is_open claims)

-- ---- what `prove` says of its own claims

-- The line of a claim whose search used so many units of the effort: they stand where it is open.
abbrev pub spent_line : ℕ → ℕ → Verdict → List ℕ → List ℕ
spent_line effort used (Reached cycle) point = claim_line (Reached cycle) point
spent_line effort used Excluded point = claim_line Excluded point
spent_line effort used (Open cycles) point =
    codes "open " ++ (decimal cycles ++ (codes " " ++ (point ++ (codes " used " ++ (decimal used ++ (codes " of " ++ (decimal effort ++ codes "\n")))))))

-- A line for each claim, in order, and the units of each.
abbrev pub spent_lines : ℕ → List Claim → List ℕ → List ℕ
spent_lines effort [] used = []
spent_lines effort (claim ∷ claims) [] = []
spent_lines effort (claim ∷ claims) (units ∷ used) = spent_line effort units claim.verdict claim.point ++ spent_lines effort claims used

abbrev pub proof_report : ℕ → List Claim → List ℕ → List ℕ
proof_report effort claims used = spent_lines effort claims used ++ summary claims

-- The exclusion list: the point of each excluded claim, in order, with a line feed.
abbrev pub excluded_line : Verdict → List ℕ → List ℕ
excluded_line Excluded point = point ++ codes "\n"
excluded_line (Reached cycle) point = []
excluded_line (Open cycles) point = []

abbrev pub exclusions : List Claim → List ℕ
exclusions [] = []
exclusions (claim ∷ claims) = excluded_line claim.verdict claim.point ++ exclusions claims
