-- What a simulator is to its callers.
use Rattle.std.specs.Prelude.{◌≡◌, Bool, List, length, map, refl}
use Rattle.std.specs.Coded.{Coded, code_by, coded×, coded_list, coded_bool}
use Rattle.design_core.specs.declared.flat.Design.{Design}
use Rattle.bit_exprs.specs.Values.{bit_at}
use Rattle.design_core.specs.Ordered.{Ordered, ordered_code}

-- its legal design, the values of the last cycle, what the registers hold for the next one, and a flag for each site, up where the last cycle hit it
pub record Machine : Type 0 where
  pub legal : Ordered
  pub values : List Bool
  pub held : List Bool
  pub marks : List Bool

-- of the values of all bits, those of the registers
abbrev pub held_in : Design → List Bool → List Bool
held_in d bits = map (bit_at bits) d.registers

-- there is room for each bit and each site
pub record IsMachine (d : Design) (values next scratch marks : List Bool) : Type 0 where
  pub values_long : length values ≡ length d.bits
  pub next_long : length next ≡ length d.bits
  pub scratch_long : length scratch ≡ length d.bits
  pub marks_long : length marks ≡ length d.sites

abbrev bits_code : Coded (List Bool)
bits_code = coded_list coded_bool

abbrev pub machine_code : Coded Machine
machine_code =
    code_by (Ordered × (List Bool × (List Bool × List Bool))) (coded× ordered_code (coded× bits_code (coded× bits_code bits_code)))
    (λ m. (m.legal, (m.values, (m.held, m.marks)))) (λ t. record { legal = t.0; values = t.1.0; held = t.1.1.0; marks = t.1.1.1 }) (λ _. refl)
