use Rattle.std.proofs.Common.{[], ◌∷◌, ◌++◌, ◌∙◌, ap, sym, refl}
use Rattle.std.specs.Str.{bytes_eq}
use Rattle.std.specs.Option.{is_some}
use Rattle.indexmap.specs.IndexMap.{insert_entry}
use Rattle.indexmap.proofs.CallerLemmas.{insert_entry-new}
use Rattle.expr_elab.specs.Vectors.{vector_of}
use Rattle.expr_elab.proofs.Lookup.{absent, present}
use Rattle.expr_elab.proofs.scope.Scope.declare.Goals as goal

pub returns-clause-ok : goal.returns-clause-ok
returns-clause-ok c =
    let name = c.args.name.now in
    let copied = c.in_ok-copy.ensures ∙ c.bytes.ensures in
    let none = absent (vector_of c.self.inside.vectors.entries name) (sym c.contains_key.ensures ∙ c.if-contains_key.false) in (
      ap (λ es. vector_of es name) (sym c.self.view_is) ∙ none,
      c.in_ok-insert.ensures.entries ∙ ap (λ n. insert_entry bytes_eq c.self.inside.vectors.entries n c.args.vector) copied ∙ insert_entry-new bytes_eq c.self.inside.vectors name c.args.vector none
          ∙ ap (λ es. es ++ (name, c.args.vector) ∷ []) c.self.view_is,
    )

pub returns-then-contains_key-clause-ok : goal.returns-then-contains_key-clause-ok
returns-then-contains_key-clause-ok c =
    (present (vector_of c.args.self.now c.args.name.now) (ap (λ es. is_some (vector_of es c.args.name.now)) (sym c.self.view_is) ∙ sym c.contains_key.ensures ∙ c.if-contains_key.true), refl)
