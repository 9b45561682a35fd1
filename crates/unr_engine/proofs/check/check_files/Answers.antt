use Rattle.std.proofs.Common.{[], ◌∷◌, take, refl, ap, ◌∙◌}
use Rattle.unr_io.specs.Sink.{appended}
use Rattle.std.proofs.lemmas.Result.{err_from_is_err_and}
use Rattle.unr_engine.specs.declared.stop.Refusal.TheVariants as refusal
use Rattle.unr_engine.specs.Ends.{why_of, Out_of_memory, Not_taken}
use Rattle.unr_engine.specs.Content.{check_work}
use Rattle.unr_engine.specs.Words.{Check_files}
use Rattle.unr_engine.proofs.Checks.{file_loaded, both_loaded, text_refused, cert_refused, check_refused, answered, report_of}
use Rattle.unr_engine.proofs.Runs.{begun, fetch_stopped, refused, no_memory, delivery_stopped, delivered, handed_on}
use Rattle.unr_engine.proofs.check.check_files.Goals as goal

pub returns-in_err-text : goal.returns-in_err-text
returns-in_err-text g c =
    let command = Check_files c.args.file.now c.args.cert.now in
    let p = err_from_is_err_and c.from_residual.result c.from_residual.ensures.1 in
    handed_on command c.from_residual.result p.0 (why_of c.in_err-text.field-0.0) _ _ _ _ p.1 (ap why_of p.2)
    (fetch_stopped command [] c.args.file.now 4194305 (why_of c.in_err-text.field-0.0) _ (g.D.Desk.state c.args.desk.now) (g.D.Desk.state c.fetch.new.desk) (g.O.Sink.state c.args.out.now) (begun command (g.D.Desk.state c.args.desk.now)) refl c.in_err-text.ensures.told c.in_err-text.ensures.cause)

pub returns-in_err-tree : goal.returns-in_err-tree
returns-in_err-tree g c =
    let command = Check_files c.args.file.now c.args.cert.now in
    let p = err_from_is_err_and c.from_residual-in_err-tree.result c.from_residual-in_err-tree.ensures.1 in
    handed_on command c.from_residual-in_err-tree.result p.0 (Not_taken (refusal.Text c.in_err-tree.field-0.0)) _ _ _ _ p.1 (ap why_of p.2)
    (refused command (c.in_ok-text.text.items ∷ []) (refusal.Text c.in_err-tree.field-0.0) (g.D.Desk.state c.args.desk.now) (g.D.Desk.state c.fetch.new.desk) (g.O.Sink.state c.args.out.now) (file_loaded c.args.file.now c.args.cert.now c.in_ok-text.text (g.D.Desk.state c.args.desk.now) (g.D.Desk.state c.fetch.new.desk) c.in_ok-text.ensures) (text_refused c.in_ok-text.text.items c.deref.result.now c.in_err-tree.field-0.0 c.deref.ensures.value c.in_err-tree.ensures))

pub returns-in_err-spelling : goal.returns-in_err-spelling
returns-in_err-spelling g c =
    let command = Check_files c.args.file.now c.args.cert.now in
    let p = err_from_is_err_and c.from_residual-in_err-spelling.result c.from_residual-in_err-spelling.ensures.1 in
    handed_on command c.from_residual-in_err-spelling.result p.0 (why_of c.in_err-spelling.field-0.0) _ _ _ _ p.1 (ap why_of p.2)
    (fetch_stopped command (c.in_ok-text.text.items ∷ []) c.args.cert.now 18446744073709551615 (why_of c.in_err-spelling.field-0.0) (g.D.Desk.state c.args.desk.now) (g.D.Desk.state c.fetch.new.desk) (g.D.Desk.state c.fetch-2.new.desk) (g.O.Sink.state c.args.out.now) (file_loaded c.args.file.now c.args.cert.now c.in_ok-text.text (g.D.Desk.state c.args.desk.now) (g.D.Desk.state c.fetch.new.desk) c.in_ok-text.ensures) refl c.in_err-spelling.ensures.told c.in_err-spelling.ensures.cause)

pub returns-in_err-certificate : goal.returns-in_err-certificate
returns-in_err-certificate g c =
    let command = Check_files c.args.file.now c.args.cert.now in
    let p = err_from_is_err_and c.from_residual-in_err-certificate.result c.from_residual-in_err-certificate.ensures.1 in
    handed_on command c.from_residual-in_err-certificate.result p.0 (Not_taken (refusal.Cert c.in_err-certificate.field-0.0)) _ _ _ _ p.1 (ap why_of p.2)
    (refused command (c.in_ok-text.text.items ∷ c.in_ok-spelling.spelling.items ∷ []) (refusal.Cert c.in_err-certificate.field-0.0) (g.D.Desk.state c.args.desk.now) (g.D.Desk.state c.fetch-2.new.desk) (g.O.Sink.state c.args.out.now) (both_loaded c.args.file.now c.args.cert.now c.in_ok-text.text c.in_ok-spelling.spelling (g.D.Desk.state c.args.desk.now) (g.D.Desk.state c.fetch.new.desk) (g.D.Desk.state c.fetch-2.new.desk) c.in_ok-text.ensures c.in_ok-spelling.ensures) (cert_refused c.in_ok-text.text.items c.deref.result.now c.in_ok-spelling.spelling.items c.deref-2.result.now c.in_ok-tree.tree c.in_err-certificate.field-0.0 c.deref.ensures.value c.deref-2.ensures.value c.in_ok-tree.ensures c.in_err-certificate.ensures.answers))

pub returns-in_err-claims : goal.returns-in_err-claims
returns-in_err-claims g c =
    let command = Check_files c.args.file.now c.args.cert.now in
    let p = err_from_is_err_and c.from_residual-in_err-claims.result c.from_residual-in_err-claims.ensures.1 in
    handed_on command c.from_residual-in_err-claims.result p.0 (Not_taken (refusal.Check c.in_err-claims.field-0.0)) _ _ _ _ p.1 (ap why_of p.2)
    (refused command (c.in_ok-text.text.items ∷ c.in_ok-spelling.spelling.items ∷ []) (refusal.Check c.in_err-claims.field-0.0) (g.D.Desk.state c.args.desk.now) (g.D.Desk.state c.fetch-2.new.desk) (g.O.Sink.state c.args.out.now) (both_loaded c.args.file.now c.args.cert.now c.in_ok-text.text c.in_ok-spelling.spelling (g.D.Desk.state c.args.desk.now) (g.D.Desk.state c.fetch.new.desk) (g.D.Desk.state c.fetch-2.new.desk) c.in_ok-text.ensures c.in_ok-spelling.ensures) (check_refused c.in_ok-text.text.items c.deref.result.now c.in_ok-spelling.spelling.items c.deref-2.result.now c.in_ok-tree.tree c.in_ok-certificate.certificate c.in_err-claims.field-0.0 c.deref.ensures.value c.deref-2.ensures.value c.in_ok-tree.ensures c.in_ok-certificate.ensures.answers c.in_err-claims.ensures.judged))

pub returns-in_err-report : goal.returns-in_err-report
returns-in_err-report g c =
    let command = Check_files c.args.file.now c.args.cert.now in
    let p = err_from_is_err_and c.from_residual-in_err-report.result c.from_residual-in_err-report.ensures.1 in
    handed_on command c.from_residual-in_err-report.result p.0 Out_of_memory _ _ _ _ p.1 (ap why_of p.2)
    (no_memory command (c.in_ok-text.text.items ∷ c.in_ok-spelling.spelling.items ∷ []) (g.D.Desk.state c.args.desk.now) (g.D.Desk.state c.fetch-2.new.desk) (g.O.Sink.state c.args.out.now) (both_loaded c.args.file.now c.args.cert.now c.in_ok-text.text c.in_ok-spelling.spelling (g.D.Desk.state c.args.desk.now) (g.D.Desk.state c.fetch.new.desk) (g.D.Desk.state c.fetch-2.new.desk) c.in_ok-text.ensures c.in_ok-spelling.ensures))

pub returns-in_err-deliver : goal.returns-in_err-deliver
returns-in_err-deliver g c =
    let command = Check_files c.args.file.now c.args.cert.now in
    let p = err_from_is_err_and c.from_residual-in_err-deliver.result c.from_residual-in_err-deliver.ensures.1 in
    let stopped = c.in_err-deliver.ensures in
    let same = report_of c.in_ok-claims.claims c.as_slice.result.now c.deref-3.result.now c.as_slice.ensures (c.deref-3.ensures.value ∙ c.in_ok-report.ensures) in
    handed_on command c.from_residual-in_err-deliver.result p.0 (why_of c.in_err-deliver.field-0.0) _ _ _ _ p.1 (ap why_of p.2)
    (delivery_stopped command (c.in_ok-text.text.items ∷ c.in_ok-spelling.spelling.items ∷ []) (check_work c.in_ok-claims.claims) (why_of c.in_err-deliver.field-0.0) (g.D.Desk.state c.args.desk.now) (g.D.Desk.state c.fetch-2.new.desk) (g.O.Sink.state c.args.out.now) (g.O.Sink.state c.deliver.new.out)
    (both_loaded c.args.file.now c.args.cert.now c.in_ok-text.text c.in_ok-spelling.spelling (g.D.Desk.state c.args.desk.now) (g.D.Desk.state c.fetch.new.desk) (g.D.Desk.state c.fetch-2.new.desk) c.in_ok-text.ensures c.in_ok-spelling.ensures)
    (answered c.args.file.now c.args.cert.now c.in_ok-text.text.items c.deref.result.now c.in_ok-spelling.spelling.items c.deref-2.result.now c.in_ok-tree.tree c.in_ok-certificate.certificate c.in_ok-claims.claims c.deref.ensures.value c.deref-2.ensures.value c.in_ok-tree.ensures c.in_ok-certificate.ensures.answers c.in_ok-claims.ensures.judged c.in_ok-claims.ensures.true_claims)
    stopped.0.0 (stopped.0.1 ∙ ap (λ text. appended (g.O.Sink.state c.args.out.now).written (take stopped.0.0 text)) same) stopped.1)

pub returns : goal.returns
returns g c =
    let command = Check_files c.args.file.now c.args.cert.now in
    let same = report_of c.in_ok-claims.claims c.as_slice.result.now c.deref-3.result.now c.as_slice.ensures (c.deref-3.ensures.value ∙ c.in_ok-report.ensures) in
    delivered command (c.in_ok-text.text.items ∷ c.in_ok-spelling.spelling.items ∷ []) (check_work c.in_ok-claims.claims) (g.D.Desk.state c.args.desk.now) (g.D.Desk.state c.fetch-2.new.desk) (g.O.Sink.state c.args.out.now) (g.O.Sink.state c.deliver.new.out)
    (both_loaded c.args.file.now c.args.cert.now c.in_ok-text.text c.in_ok-spelling.spelling (g.D.Desk.state c.args.desk.now) (g.D.Desk.state c.fetch.new.desk) (g.D.Desk.state c.fetch-2.new.desk) c.in_ok-text.ensures c.in_ok-spelling.ensures)
    (answered c.args.file.now c.args.cert.now c.in_ok-text.text.items c.deref.result.now c.in_ok-spelling.spelling.items c.deref-2.result.now c.in_ok-tree.tree c.in_ok-certificate.certificate c.in_ok-claims.claims c.deref.ensures.value c.deref-2.ensures.value c.in_ok-tree.ensures c.in_ok-certificate.ensures.answers c.in_ok-claims.ensures.judged c.in_ok-claims.ensures.true_claims)
    (c.in_ok-deliver.ensures ∙ ap (λ text. appended (g.O.Sink.state c.args.out.now).written text) same)
