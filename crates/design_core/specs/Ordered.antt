-- A design with an order of its combinational processes.
use Rattle.std.specs.Prelude.{ℕ, List, refl}
use Rattle.std.specs.Coded.{Coded, code_by, coded×, coded_list, coded_ℕ}
use Rattle.design_core.specs.declared.flat.Design.{Design}
use Rattle.design_core.specs.contracts.flat.Design as stored

pub record Ordered : Type 0 where
  pub design : Design
  pub order : List ℕ

abbrev pub ordered_code : Coded Ordered
ordered_code = code_by (Design × List ℕ) (coded× stored.the_row.coded (coded_list coded_ℕ)) (λ x. (x.design, x.order)) (λ t. record { design = t.0; order = t.1 }) (λ _. refl)
