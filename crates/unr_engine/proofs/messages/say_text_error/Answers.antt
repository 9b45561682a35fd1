use Rattle.unr_engine.proofs.messages.say_text_error.Goals as goal

pub returns-in-TooLong : goal.returns-in-TooLong
returns-in-TooLong g c = rw c.in-TooLong.is c.put_all.ensures
