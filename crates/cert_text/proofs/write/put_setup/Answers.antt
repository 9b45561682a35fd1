use Rattle.std.proofs.Common.{◌++◌, ap, ◌∙◌, codes}
use Rattle.line_text.specs.Lines.{line_text}
use Rattle.line_text.specs.Tagged.{tagged}
use Rattle.cert_text.specs.Kinds.{kinds_word}
use Rattle.cert_text.proofs.SetupLines.{five_behind}
use Rattle.cert_text.proofs.write.put_setup.Goals as goal

pub returns : goal.returns
returns c =
    let setup = c.args.setup.now in
    five_behind c.args.out.now.items c.put_tagged.new.out.items c.put_tagged-2.new.out.items c.put_tagged-3.new.out.items c.put_tagged-4.new.out.items c.put_kinds.new.out.items
    (line_text (tagged (codes "unr") (codes "1"))) (line_text (tagged (codes "top") setup.top)) (line_text (tagged (codes "clock") setup.clock)) (line_text (tagged (codes "cycles") (codes "0")))
    (line_text (tagged (codes "points") (kinds_word setup.kinds)))
    c.in_ok-put_tagged.ensures (c.in_ok-put_tagged-2.ensures ∙ ap (λ x. c.put_tagged.new.out.items ++ line_text (tagged (codes "top") x)) c.bytes.ensures)
    (c.in_ok-put_tagged-3.ensures ∙ ap (λ x. c.put_tagged-2.new.out.items ++ line_text (tagged (codes "clock") x)) c.bytes-2.ensures) c.in_ok-put_tagged-4.ensures c.in_ok-put_kinds.ensures
