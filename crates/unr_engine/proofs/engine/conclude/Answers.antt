use Rattle.unr_engine.specs.Ends.{why_of}
use Rattle.unr_engine.specs.Messages.{why_message}
use Rattle.unr_engine.proofs.Putting.{says_put, says_nothing}
use Rattle.unr_engine.proofs.engine.conclude.Goals as goal

pub returns-in-Ok : goal.returns-in-Ok
returns-in-Ok g c = rw c.in-Ok.is (record { status = c.done_status.ensures; says = says_nothing (g.E.Sink.state c.args.err.now) })

pub returns-in-Err : goal.returns-in-Err
returns-in-Err g c =
    rw c.in-Err.is (record {
      status = c.stop_status.ensures;
      says = says_put (why_message (why_of c.in-Err.stop)) c.say_stop.result (g.E.Sink.state c.args.err.now) (g.E.Sink.state c.say_stop.new.err) c.say_stop.ensures;
    })
