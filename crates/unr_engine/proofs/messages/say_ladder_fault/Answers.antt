use Rattle.unr_engine.proofs.messages.say_ladder_fault.Goals as goal

pub returns-in-Shape : goal.returns-in-Shape
returns-in-Shape g c = rw (c.in-Shape.is, ← c.bytes.ensures) c.put_all.ensures

pub returns-in-StartFails : goal.returns-in-StartFails
returns-in-StartFails g c = rw (c.in-StartFails.is, ← c.bytes-in-StartFails.ensures) c.put_all-in-StartFails.ensures
