use Rattle.std.proofs.Common.{◌≡◌, length, sym, subst, rules}
use Rattle.bit_exprs.proofs.Given.{updates_below}
use Rattle.event_order.specs.Code.{UpdatesBelow}
use Rattle.event_order.proofs.Listing.{listed_last}
use Rattle.event_order.proofs.execute.assign.Goals as goal

pub perform_from-requires-clause-below : goal.perform_from-requires-clause-below
perform_from-requires-clause-below c =
    let n : c.len-from.result ≡ length c.args.waiting.now.items = search rules in
    subst (λ us. UpdatesBelow us (length c.args.values.now)) (sym (listed_last _ _ _ _ c.in_ok-list.ensures n))
    (updates_below (length c.args.values.now) c.args.target.now c.value-word.result.bits c.args.values.now c.requires.target)
