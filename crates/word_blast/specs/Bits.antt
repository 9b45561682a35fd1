-- The graphs that the builders of one bit make, and what they are worth.
use Rattle.std.specs.Prelude.{ℕ, ◌==◌, Bool, ◌||◌, List, if◌then◌else◌}
use Rattle.aig_core.specs.Graph.{Graph, negation, and_of, value_of}
use Rattle.word_core.specs.Words.{xor}

-- !(!x & !y)
unfoldable pub or_of : Graph → ℕ → ℕ → Graph × ℕ
or_of g x y =
    let p = and_of g (negation x) (negation y) in
    (p.0, negation p.1)

-- (x & y) | (u & v)
unfoldable pub or_of_ands : Graph → ℕ → ℕ → ℕ → ℕ → Graph × ℕ
or_of_ands g x y u v =
    let p = and_of g x y in
    let q = and_of p.0 u v in
    or_of q.0 p.1 q.1

-- (x & !y) | (!x & y)
unfoldable pub xor_of : Graph → ℕ → ℕ → Graph × ℕ
xor_of g x y = or_of_ands g x (negation y) (negation x) y

-- x where both are one, else (c & x) | (!c & y)
unfoldable pub mux_of : Graph → ℕ → ℕ → ℕ → Graph × ℕ
mux_of g c x y = if x == y then (g, x) else or_of_ands g c x (negation c) y

-- the sum and the carry of three bits
unfoldable pub full_of : Graph → ℕ → ℕ → ℕ → Graph × ℕ × ℕ
full_of g a b c =
    let x = xor_of g a b in
    let s = xor_of x.0 x.1 c in
    let r = or_of_ands s.0 a b x.1 c in
    (r.0, s.1, r.1)

-- ---- what they are worth

abbrev pub either : Graph → ℕ → ℕ → List Bool → Bool
either g x y leaves = value_of g leaves x || value_of g leaves y

-- one of the two alone
abbrev pub one_of : Graph → ℕ → ℕ → List Bool → Bool
one_of g x y leaves = xor (value_of g leaves x) (value_of g leaves y)

abbrev pub choice : Graph → ℕ → ℕ → ℕ → List Bool → Bool
choice g c x y leaves = if value_of g leaves c then value_of g leaves x else value_of g leaves y
