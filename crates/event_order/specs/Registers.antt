-- The registers' part of the values of all bits.
use Rattle.std.specs.Prelude.{Bool, List, map}
use Rattle.design_core.specs.declared.flat.Design.{Design}
use Rattle.bit_exprs.specs.Values.{bit_at}

-- the registers' values, in the order of the design's registers
abbrev pub registers_in : Design → List Bool → List Bool
registers_in d v = map (bit_at v) d.registers
