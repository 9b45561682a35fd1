use Rattle.std.proofs.Common.{Err, refl}
use Rattle.text_prover.proofs.Accepting.{answers_these, is_proven}
use Rattle.text_prover.proofs.proving.checked.Goals as goal

pub want_of_memory-requires : goal.want_of_memory-requires
want_of_memory-requires c =
    let made = c.args.made in
    answers_these c.args.text.now c.args.top.now c.args.clock.now c.args.kinds c.args.effort made.cert.items made.used c.deref.result.now c.requires c.deref.ensures.value (Err c.in-Err.error) c.in-Err.ensures.answers

pub returns-in-Ok : goal.returns-in-Ok
returns-in-Ok c =
    let made = c.args.made in
    is_proven c.args.text.now c.args.top.now c.args.clock.now c.args.kinds c.args.effort made.cert.items made.used c.deref.result.now c.requires c.deref.ensures.value
    (record { cert = made.cert; claims = c.in-Ok.claims; used = made.used }) refl refl c.in-Ok.ensures.answers c.in-Ok.ensures.true_claims
