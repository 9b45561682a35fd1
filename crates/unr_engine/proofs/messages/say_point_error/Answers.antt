use Rattle.unr_engine.proofs.messages.say_point_error.Goals as goal

pub returns-in-TooMany : goal.returns-in-TooMany
returns-in-TooMany g c = rw (c.in-TooMany.is, ← c.from.ensures) c.put_all.ensures
