use Rattle.unr_engine.specs.Ends.{end_of}
use Rattle.unr_engine.specs.Requests.{meaning}
use Rattle.unr_engine.specs.Words.{texts}
use Rattle.unr_engine.proofs.WordLists.{can_run_found, no_command, some_command}
use Rattle.unr_engine.proofs.engine.obey.Goals as goal

pub returns-in-None : goal.returns-in-None
returns-in-None g c = no_command (texts c.args.words.now) (g.D.Desk.state c.args.desk.now) (g.O.Sink.state c.args.out.now) c.in-None.ensures

pub returns-in-Some : goal.returns-in-Some
returns-in-Some g c =
    some_command (texts c.args.words.now) (meaning c.in-Some.request) (end_of c.perform.result) (g.D.Desk.state c.args.desk.now) (g.D.Desk.state c.perform.new.desk) (g.O.Sink.state c.args.out.now) (g.O.Sink.state c.perform.new.out) c.in-Some.ensures c.perform.ensures

pub perform-requires : goal.perform-requires
perform-requires g c = can_run_found (texts c.args.words.now) (meaning c.in-Some.request) c.in-Some.ensures
