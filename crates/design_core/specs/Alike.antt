-- What the settled values of one cycle share.
use Rattle.std.specs.Prelude.{ℕ, ◌≡◌, ◌↔◌, Bool, true, List}
use Rattle.design_core.specs.declared.flat.Design.{Design}
use Rattle.bit_exprs.specs.Values.{bit_at}
use Rattle.design_core.specs.Settled.{Settled, next_of, Hit}
use Rattle.design_core.specs.Legality.{is_known}

-- the values of inputs, registers and driven bits, the next registers, and the hits
pub record Alike (d : Design) (order : List ℕ) (v w : List Bool) : Type 0 where
  pub values : (b : ℕ) → is_known d order b ≡ true → bit_at v b ≡ bit_at w b
  pub next : next_of d v ≡ next_of d w
  pub hits : (site : ℕ) → Hit d v site ↔ Hit d w site

-- v is settled, and all that is settled is alike
pub record SettlesAt (d : Design) (order : List ℕ) (held inputs v : List Bool) : Type 0 where
  pub settled : Settled d held inputs v
  pub only : (w : List Bool) → Settled d held inputs w → Alike d order w v
