use Rattle.std.proofs.Common.{append_assoc}
use Rattle.unr_engine.proofs.messages.say_stop.Goals as goal

pub returns-in-NotLoaded : goal.returns-in-NotLoaded
returns-in-NotLoaded g c = rw (c.in-NotLoaded.is, ← c.as_bytes.ensures.value) c.put_all.ensures

pub returns-in-Output : goal.returns-in-Output
returns-in-Output g c = rw c.in-Output.is c.put-in-Output.ensures

pub returns-in-NotStored : goal.returns-in-NotStored
returns-in-NotStored g c = rw (c.in-NotStored.is, ← c.as_bytes-in-NotStored.ensures.value, ← c.ending_text.ensures, ← c.as_bytes-in-NotStored-2.ensures.value, append_assoc) c.put_all-in-NotStored.ensures
