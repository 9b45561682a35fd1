use Rattle.unr_engine.proofs.messages.say_hit_fault.Goals as goal

pub returns-in-Line : goal.returns-in-Line
returns-in-Line g c = rw (c.in-Line.is, ← c.bytes.ensures, ← c.line_name.ensures, ← c.line_number.ensures) c.put_all.ensures

pub returns-in-NoEnd : goal.returns-in-NoEnd
returns-in-NoEnd g c = rw (c.in-NoEnd.is, ← c.bytes-in-NoEnd.ensures) c.put_all-in-NoEnd.ensures
