use Rattle.std.proofs.Common.{append_assoc}
use Rattle.line_text.proofs.Cutting.{join_words}
use Rattle.cert_text.proofs.write.put_claim.Goals as goal

pub returns : goal.returns
returns c =
    rw (join_words c.args.claim.now.point, c.in_ok-put_body.ensures, c.in_ok-push.ensures.items, c.in_ok-extend_from_slice.ensures.items, c.bytes.ensures) (simp append_assoc)
