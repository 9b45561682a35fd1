use Rattle.std.proofs.Common.{ℕ, [], replicate, sym, ap, ◌∙◌, subst}
use Rattle.settle_order.specs.declared.sweep.Sweep.{Sweep}
use Rattle.settle_order.specs.Nodes.{IsNet}
use Rattle.settle_order.proofs.Placing.{start_swept, start_ordered}
use Rattle.settle_order.proofs.sweep.start.Goals as goal

pub watch_all-requires : goal.watch_all-requires
watch_all-requires c =
    let s : Sweep = record { known = c.in_ok-undriven.field-0; placed = c.from_vec.result; scanned = c.from_vec-2.result; waiting = c.in_ok-make.field-0; ready = c.new.result; order = c.new-2.result } in
    let size = c.in_ok-undriven.ensures.size in
    rw c.deref.ensures.value
    (start_swept c.args.nodes.now s c.in_ok-all.all.items (subst (IsNet c.args.nodes.now) (sym size) c.requires.net) (c.from_vec.ensures ∙ c.in_ok-flags.ensures) (c.from_vec-2.ensures ∙ c.in_ok-zeros.ensures)
    (c.in_ok-make.ensures ∙ ap (λ (n : ℕ). replicate n []) (sym size)) c.new.ensures.empty c.in_ok-all.ensures.length c.in_ok-all.ensures.each)

pub returns-clause-ordered : goal.returns-clause-ordered
returns-clause-ordered c =
    let same = c.in_ok-watch_all.ensures.same in
    start_ordered c.args.nodes.now c.watch_all.new.self c.args.table.now c.requires.table (rw same.known c.in_ok-undriven.ensures) (same.order ∙ c.new-2.ensures) (same.placed ∙ c.from_vec.ensures ∙ c.in_ok-flags.ensures)
