use Rattle.unr_engine.proofs.messages.say_check_error.Goals as goal

pub returns-in-WrongPoint : goal.returns-in-WrongPoint
returns-in-WrongPoint g c = rw c.in-WrongPoint.is c.put_all.ensures

pub returns-in-Missing : goal.returns-in-Missing
returns-in-Missing g c = rw (c.in-Missing.is, ← c.bytes.ensures) c.put_all-in-Missing.ensures

pub returns-in-NotHit : goal.returns-in-NotHit
returns-in-NotHit g c = rw (c.in-NotHit.is, ← c.bytes-in-NotHit.ensures) c.put_all-in-NotHit.ensures
