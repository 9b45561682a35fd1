use Rattle.unr_engine.proofs.messages.say_parse_error.Goals as goal

pub returns-in-Expected : goal.returns-in-Expected
returns-in-Expected g c =
    rw (c.in-Expected.is, ← c.from.ensures, ← c.from-in-Expected.ensures, ← c.bytes.ensures) c.put_all.ensures
