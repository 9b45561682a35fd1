use Rattle.std.proofs.Common.{ap, ◌∙◌}
use Rattle.aig_core.proofs.Values.{Extends-trans}
use Rattle.target_blast.specs.Writes.{indices_of}
use Rattle.target_blast.proofs.Steps.{made_more, made_all, widths_more, words_more}
use Rattle.target_blast.proofs.index_words.indices.Goals as goal

pub loop-part-preserved : goal.loop-part-preserved
loop-part-preserved c =
    let i = c.loop-part.invariant in
    let e = c.in_ok-word.ensures in
    let ps = c.as_slice-part-items.result.now in
    record {
      made = made_more c.args.read.now ps c.args.aig.now c.loop-part.part-index c.part-item.result c.loop-part.aig c.index.new.aig c.in_ok-word.word c.loop-part.words.items c.push.new.self.items c.loop-part-test.true c.part-item.is e.exact c.in_ok-push.ensures.items i.made;
      widths = widths_more ps c.loop-part.part-index c.part-item.result c.in_ok-word.word c.loop-part.words.items c.push.new.self.items c.loop-part-test.true c.part-item.is e.width c.in_ok-push.ensures.items i.widths;
      exist = words_more c.loop-part.aig c.index.new.aig c.in_ok-word.word c.loop-part.words.items c.push.new.self.items e.kept e.exist c.in_ok-push.ensures.items i.exist;
      kept = Extends-trans c.args.aig.now c.loop-part.aig c.index.new.aig i.kept e.kept;
    }

pub returns-clause-exact : goal.returns-clause-exact
returns-clause-exact c =
    made_all c.args.read.now c.as_slice-part-items.result.now c.args.aig.now c.loop-part.part-index c.loop-part.aig c.loop-part.words.items c.loop-part-test.false c.loop-part.invariant.made
    ∙ ap (λ ps. indices_of ps c.args.aig.now c.args.read.now) c.as_slice-part-items.ensures
