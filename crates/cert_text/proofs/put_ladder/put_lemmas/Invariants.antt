use Rattle.std.proofs.Common.{◌≡◌, ◌++◌, map, take}
use Rattle.line_text.specs.Lines.{text_of}
use Rattle.cert_text.specs.Spelling.{lemma_line}
use Rattle.cert_text.proofs.put_ladder.put_lemmas.Given as goal

abbrev pub invariant-loop-lemma : goal.invariant-loop-lemma
invariant-loop-lemma l = l.out.items ≡ l.fn.out.items ++ text_of (map lemma_line (take l.lemma-index l.lemmas))
