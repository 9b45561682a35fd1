use Rattle.std.proofs.Common.{◌+◌, drop}
use Rattle.unr_engine.specs.Words.{texts}
use Rattle.unr_engine.specs.Requests.{Scan, scanned, first_scan, step, scan_is}
use Rattle.unr_engine.proofs.EntryWords.{next_word, word_stops, word_read}
use Rattle.unr_engine.proofs.options.givens_of.Goals as goal

pub returns-in_err-step : goal.returns-in_err-step
returns-in_err-step c =
    let words = c.args.words.now in
    let i = c.loop-word.word-index in
    let s = scan_is c.loop-word.scan in
    let text = c.as_str.result.now in
    word_stops (λ (next : Scan). scanned (texts (drop (i + 1) words)) next) (scanned (texts words) first_scan) (step s text) c.from_residual.result
    (next_word words i c.word-item.result text s (scanned (texts words) first_scan) c.loop-word-test.true c.word-item.is c.as_str.ensures.value c.loop-word.invariant) c.in_err-step.ensures c.from_residual.ensures

pub loop-word-preserved : goal.loop-word-preserved
loop-word-preserved c =
    let words = c.args.words.now in
    let i = c.loop-word.word-index in
    let s = scan_is c.loop-word.scan in
    let text = c.as_str.result.now in
    word_read (λ (next : Scan). scanned (texts (drop (i + 1) words)) next) (scanned (texts words) first_scan) (step s text) (scan_is c.step.new.scan)
    (next_word words i c.word-item.result text s (scanned (texts words) first_scan) c.loop-word-test.true c.word-item.is c.as_str.ensures.value c.loop-word.invariant) c.in_ok-step.ensures
