-- What the rest of the words will give is what all give.
use Rattle.std.proofs.Common.{◌≡◌, drop}
use Rattle.unr_engine.specs.Words.{texts}
use Rattle.unr_engine.specs.Requests.{scanned, first_scan, scan_is}
use Rattle.unr_engine.proofs.options.givens_of.Given as goal

abbrev pub invariant-loop-word : goal.invariant-loop-word
invariant-loop-word l = scanned (texts (drop l.word-index l.words)) (scan_is l.scan) ≡ scanned (texts l.words) first_scan
