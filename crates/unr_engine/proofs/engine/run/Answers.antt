use Rattle.unr_engine.specs.Ends.{end_of}
use Rattle.unr_engine.specs.Outcome.{Outcome}
use Rattle.unr_engine.specs.Words.{texts}
use Rattle.unr_engine.proofs.Exact.{exact_of, text_first_of}
use Rattle.unr_engine.proofs.Kept.{words_of, untouched_of, accepts_of, rejects_of, only_prove_of, fault_of, blames_of, files_of, others_of, unstored_of, calls_of, silent_of, part_of, quiet_of}
use Rattle.unr_engine.proofs.ProveKept.{proves_of, refuses_of, never_five_of, fits_of, list_last_of}
use Rattle.unr_engine.proofs.engine.run.Goals as goal

pub returns : goal.returns
returns g c =
    let o : Outcome (texts c.args.words.now) c.conclude.result (g.D.Desk.state c.args.desk.now) (g.D.Desk.state c.obey-ended.new.desk) (g.O.Sink.state c.args.out.now) (g.O.Sink.state c.obey-ended.new.out) (g.E.Sink.state c.args.err.now) (g.E.Sink.state c.conclude.new.err) = record {
      end = end_of c.obey-ended.result;
      status_is = c.conclude.ensures.status;
      ended = c.obey-ended.ensures;
      says = c.conclude.ensures.says;
    } in
    record {
      words = words_of o;
      untouched = untouched_of o;
      accepts = accepts_of o;
      rejects = rejects_of o;
      exact = exact_of o;
      text_first = text_first_of o;
      proves = proves_of o;
      refuses = refuses_of o;
      never_five = never_five_of o;
      only_prove = only_prove_of o;
      fits = fits_of o;
      list_last = list_last_of o;
      fault = fault_of o;
      blames = blames_of o;
      files = files_of o;
      others = others_of o;
      unstored = unstored_of o;
      calls = calls_of o;
      silent = silent_of o;
      part = part_of o;
      message = (o.end, o.status_is, o.says);
      quiet = quiet_of o;
      outcome = o;
    }
