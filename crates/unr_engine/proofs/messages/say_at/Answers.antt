use Rattle.std.proofs.lemmas.List.{append-nil}
use Rattle.unr_engine.proofs.messages.say_at.Goals as goal

pub returns : goal.returns
returns g c = rw (← c.from.ensures, ← c.from-2.ensures) (rw (append-nil c.args.rest.now) at c.put_all.ensures)
