use Rattle.std.proofs.Common.{not, ◌∙◌, ap}
use Rattle.std.specs.List.{list_any}
use Rattle.std.specs.Str.{bytes_eq}
use Rattle.elab_flat.proofs.NetNames.{fresh}
use Rattle.elab_flat.proofs.scopes.add_name.Goals as goal

pub returns-clause-absent : goal.returns-clause-absent
returns-clause-absent c =
    let names = c.args.names.now.keys in
    fresh names c.args.name.now c.in_ok-insert.field-0
    (c.in_ok-insert.ensures.added ∙ ap (λ k. not (list_any (bytes_eq k) names)) (c.in_ok-copy.ensures ∙ c.bytes.ensures))
