use Rattle.std.proofs.Common.{◌≡◌, false, cond, [], ◌∷◌, ◌++◌, ap, sym, ◌∙◌}
use Rattle.std.specs.Map.{lookup}
use Rattle.std.specs.Option.{is_some}
use Rattle.std.specs.Str.{bytes_eq}
use Rattle.indexmap.specs.IndexMap.{insert_entry}
use Rattle.indexmap.proofs.CallerLemmas.{insert_entry-new}
use Rattle.source_check.proofs.Placing.{absent}
use Rattle.source_check.proofs.places.put.Goals as goal

pub returns : goal.returns
returns c =
    let name = c.args.name.now in
    let entries = c.args.places.now.entries in
    let copied = c.in_ok-copy.ensures ∙ c.bytes.ensures in
    let new : is_some (lookup (bytes_eq name) entries) ≡ false = sym c.contains_key.ensures ∙ c.if-contains_key.false in
    c.in_ok-insert.ensures.entries ∙ ap (λ n. insert_entry bytes_eq entries n c.args.place) copied
    ∙ insert_entry-new bytes_eq c.args.places.now name c.args.place (absent (lookup (bytes_eq name) entries) new)
    ∙ sym (ap (λ b. cond b entries (entries ++ (name, c.args.place) ∷ [])) new)
