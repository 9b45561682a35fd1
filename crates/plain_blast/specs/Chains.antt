-- Where the paths of a site stand among all.
use Rattle.std.specs.Prelude.{ℕ, suc, ◌≡◌, ◌+◌, ◌≤◌, ◌==◌, cond, List, [], ◌∷◌, length, drop, get_or, slice_get, Some}
use Rattle.plain_blast.specs.declared.bodies.Passed.{Passed}

-- the place of the site's first path, or how many paths there are
abbrev pub place_of : ℕ → List Passed → ℕ
place_of site [] = 0
place_of site (p ∷ ps) = cond (p.site == site) 0 (suc (place_of site ps))

-- that of its first path from place k on
abbrev pub place_from : ℕ → List Passed → ℕ → ℕ
place_from site paths k = k + place_of site (drop k paths)

-- from place n on, each path has the place of the next one of its site
pub record IsChain (paths : List Passed) (next : List ℕ) (n : ℕ) : Type 0 where
  pub long : length next ≡ length paths
  pub each : (k : ℕ) (p : Passed) → n ≤ k → slice_get paths k ≡ Some p → get_or next k 0 ≡ place_from p.site paths (k + 1)
