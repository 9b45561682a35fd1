use Rattle.std.proofs.Common.{[], ◌∷◌, take, Ok, Err, Bool, refl, sym, subst, ap, ◌∙◌}
use Rattle.std.proofs.lemmas.Result.{err_from_is_err_and}
use Rattle.unr_io.specs.Sink.{appended}
use Rattle.unr_engine.specs.declared.stop.Refusal.TheVariants as refusal
use Rattle.unr_engine.specs.Content.{cert_name, list_name, proof_work}
use Rattle.unr_engine.specs.Ends.{Done, why_of, Out_of_memory, Not_taken}
use Rattle.unr_engine.specs.Outcome.{Ran}
use Rattle.unr_engine.specs.Report.{exclusions, some_open}
use Rattle.unr_engine.specs.Words.{Prove_file}
use Rattle.unr_engine.proofs.Proved.{text_loaded, kept_so, proof_refused, proof_answered, list_of, proof_report_of}
use Rattle.unr_engine.proofs.Runs.{begun, fetch_stopped, refused, no_memory, stored, keep_stopped, delivery_stopped, delivered, handed_on}
use Rattle.unr_engine.proofs.prove.prove_file.Goals as goal

pub returns-in_err-text : goal.returns-in_err-text
returns-in_err-text g c =
    let command = Prove_file c.args.file.now c.args.top.now c.args.clock.now c.args.prefix.now c.args.kinds c.args.effort in
    let p = err_from_is_err_and c.from_residual.result c.from_residual.ensures.1 in
    handed_on command c.from_residual.result p.0 (why_of c.in_err-text.field-0.0) _ _ _ _ p.1 (ap why_of p.2)
    (fetch_stopped command [] c.args.file.now 4194305 (why_of c.in_err-text.field-0.0) (g.D.Desk.state c.args.desk.now) (g.D.Desk.state c.args.desk.now) (g.D.Desk.state c.fetch.new.desk) (g.O.Sink.state c.args.out.now) (begun command (g.D.Desk.state c.args.desk.now)) refl c.in_err-text.ensures.told c.in_err-text.ensures.cause)

pub returns-in_err-proven : goal.returns-in_err-proven
returns-in_err-proven g c =
    let command = Prove_file c.args.file.now c.args.top.now c.args.clock.now c.args.prefix.now c.args.kinds c.args.effort in
    let p = err_from_is_err_and c.from_residual-in_err-proven.result c.from_residual-in_err-proven.ensures.1 in
    let so = text_loaded c.args.file.now c.args.top.now c.args.clock.now c.args.prefix.now c.args.kinds c.args.effort c.in_ok-text.text (g.D.Desk.state c.args.desk.now) (g.D.Desk.state c.fetch.new.desk) c.in_ok-text.ensures in
    handed_on command c.from_residual-in_err-proven.result p.0 (Not_taken (refusal.Source c.in_err-proven.field-0.0)) _ _ _ _ p.1 (ap why_of p.2)
    (refused command (c.in_ok-text.text.items ∷ []) (refusal.Source c.in_err-proven.field-0.0) (g.D.Desk.state c.args.desk.now) (g.D.Desk.state c.fetch.new.desk) (g.O.Sink.state c.args.out.now) so (proof_refused c.in_ok-text.text.items c.deref.result.now c.args.top.now c.as_bytes.result.now c.args.clock.now c.as_bytes-2.result.now c.args.kinds c.args.effort c.in_err-proven.field-0.0 c.deref.ensures.value c.as_bytes.ensures.value c.as_bytes-2.ensures.value c.in_err-proven.ensures))

pub returns-in_err-list : goal.returns-in_err-list
returns-in_err-list g c =
    let command = Prove_file c.args.file.now c.args.top.now c.args.clock.now c.args.prefix.now c.args.kinds c.args.effort in
    let p = err_from_is_err_and c.from_residual-in_err-list.result c.from_residual-in_err-list.ensures.1 in
    let so = text_loaded c.args.file.now c.args.top.now c.args.clock.now c.args.prefix.now c.args.kinds c.args.effort c.in_ok-text.text (g.D.Desk.state c.args.desk.now) (g.D.Desk.state c.fetch.new.desk) c.in_ok-text.ensures in
    handed_on command c.from_residual-in_err-list.result p.0 Out_of_memory _ _ _ _ p.1 (ap why_of p.2)
    (no_memory command (c.in_ok-text.text.items ∷ []) (g.D.Desk.state c.args.desk.now) (g.D.Desk.state c.fetch.new.desk) (g.O.Sink.state c.args.out.now) so)

pub returns-in_err-report : goal.returns-in_err-report
returns-in_err-report g c =
    let command = Prove_file c.args.file.now c.args.top.now c.args.clock.now c.args.prefix.now c.args.kinds c.args.effort in
    let p = err_from_is_err_and c.from_residual-in_err-report.result c.from_residual-in_err-report.ensures.1 in
    let so = text_loaded c.args.file.now c.args.top.now c.args.clock.now c.args.prefix.now c.args.kinds c.args.effort c.in_ok-text.text (g.D.Desk.state c.args.desk.now) (g.D.Desk.state c.fetch.new.desk) c.in_ok-text.ensures in
    handed_on command c.from_residual-in_err-report.result p.0 Out_of_memory _ _ _ _ p.1 (ap why_of p.2)
    (no_memory command (c.in_ok-text.text.items ∷ []) (g.D.Desk.state c.args.desk.now) (g.D.Desk.state c.fetch.new.desk) (g.O.Sink.state c.args.out.now) so)

pub returns-in_err-keep : goal.returns-in_err-keep
returns-in_err-keep g c =
    let command = Prove_file c.args.file.now c.args.top.now c.args.clock.now c.args.prefix.now c.args.kinds c.args.effort in
    let p = err_from_is_err_and c.from_residual-in_err-keep.result c.from_residual-in_err-keep.ensures.1 in
    let so = text_loaded c.args.file.now c.args.top.now c.args.clock.now c.args.prefix.now c.args.kinds c.args.effort c.in_ok-text.text (g.D.Desk.state c.args.desk.now) (g.D.Desk.state c.fetch.new.desk) c.in_ok-text.ensures in
    let answer = proof_answered c.args.file.now c.args.top.now c.args.clock.now c.args.prefix.now c.in_ok-text.text.items c.deref.result.now c.as_bytes.result.now c.as_bytes-2.result.now c.args.kinds c.args.effort c.in_ok-proven.proven c.deref.ensures.value c.as_bytes.ensures.value c.as_bytes-2.ensures.value c.in_ok-proven.ensures in
    let cert = cert_name c.args.prefix.now in
    let list = list_name c.args.prefix.now in
    let x = c.in_ok-proven.proven.cert.items in
    let y = exclusions c.in_ok-proven.proven.claims in
    let kept = kept_so cert x c.deref-2.result.now (Err c.in_err-keep.field-0.0) (g.D.Desk.state c.fetch.new.desk) (g.D.Desk.state c.keep.new.desk) c.deref-2.ensures.value c.in_err-keep.ensures in
    handed_on command c.from_residual-in_err-keep.result p.0 (why_of c.in_err-keep.field-0.0) _ _ _ _ p.1 (ap why_of p.2)
    (keep_stopped command (c.in_ok-text.text.items ∷ []) (proof_work c.args.prefix.now c.args.effort c.in_ok-proven.proven) [] cert x ((list, y) ∷ []) (why_of c.in_err-keep.field-0.0) (g.D.Desk.state c.args.desk.now) (g.D.Desk.state c.fetch.new.desk) (g.D.Desk.state c.keep.new.desk) (g.O.Sink.state c.args.out.now) so answer refl kept.told kept.cause)

pub returns-in_err-keep-2 : goal.returns-in_err-keep-2
returns-in_err-keep-2 g c =
    let command = Prove_file c.args.file.now c.args.top.now c.args.clock.now c.args.prefix.now c.args.kinds c.args.effort in
    let p = err_from_is_err_and c.from_residual-in_err-keep-2.result c.from_residual-in_err-keep-2.ensures.1 in
    let so = text_loaded c.args.file.now c.args.top.now c.args.clock.now c.args.prefix.now c.args.kinds c.args.effort c.in_ok-text.text (g.D.Desk.state c.args.desk.now) (g.D.Desk.state c.fetch.new.desk) c.in_ok-text.ensures in
    let answer = proof_answered c.args.file.now c.args.top.now c.args.clock.now c.args.prefix.now c.in_ok-text.text.items c.deref.result.now c.as_bytes.result.now c.as_bytes-2.result.now c.args.kinds c.args.effort c.in_ok-proven.proven c.deref.ensures.value c.as_bytes.ensures.value c.as_bytes-2.ensures.value c.in_ok-proven.ensures in
    let cert = cert_name c.args.prefix.now in
    let list = list_name c.args.prefix.now in
    let x = c.in_ok-proven.proven.cert.items in
    let y = exclusions c.in_ok-proven.proven.claims in
    let so_cert = stored command (c.in_ok-text.text.items ∷ []) [] cert x c.in_ok-keep.field-0 (g.D.Desk.state c.args.desk.now) (g.D.Desk.state c.fetch.new.desk) (g.D.Desk.state c.keep.new.desk) so (kept_so cert x c.deref-2.result.now (Ok c.in_ok-keep.field-0) (g.D.Desk.state c.fetch.new.desk) (g.D.Desk.state c.keep.new.desk) c.deref-2.ensures.value c.in_ok-keep.ensures) in
    let list_same = list_of c.in_ok-proven.proven.claims c.as_slice-claims.result.now c.in_ok-list.list.items c.deref-3.result.now c.as_slice-claims.ensures c.in_ok-list.ensures c.deref-3.ensures.value in
    let kept = kept_so list y c.deref-3.result.now (Err c.in_err-keep-2.field-0.0) (g.D.Desk.state c.keep.new.desk) (g.D.Desk.state c.keep-2.new.desk) list_same c.in_err-keep-2.ensures in
    handed_on command c.from_residual-in_err-keep-2.result p.0 (why_of c.in_err-keep-2.field-0.0) _ _ _ _ p.1 (ap why_of p.2)
    (keep_stopped command (c.in_ok-text.text.items ∷ []) (proof_work c.args.prefix.now c.args.effort c.in_ok-proven.proven) ((cert, x) ∷ []) list y [] (why_of c.in_err-keep-2.field-0.0) (g.D.Desk.state c.args.desk.now) (g.D.Desk.state c.keep.new.desk) (g.D.Desk.state c.keep-2.new.desk) (g.O.Sink.state c.args.out.now) so_cert answer refl kept.told kept.cause)

pub returns-in_err-deliver : goal.returns-in_err-deliver
returns-in_err-deliver g c =
    let command = Prove_file c.args.file.now c.args.top.now c.args.clock.now c.args.prefix.now c.args.kinds c.args.effort in
    let p = err_from_is_err_and c.from_residual-in_err-deliver.result c.from_residual-in_err-deliver.ensures.1 in
    let so = text_loaded c.args.file.now c.args.top.now c.args.clock.now c.args.prefix.now c.args.kinds c.args.effort c.in_ok-text.text (g.D.Desk.state c.args.desk.now) (g.D.Desk.state c.fetch.new.desk) c.in_ok-text.ensures in
    let answer = proof_answered c.args.file.now c.args.top.now c.args.clock.now c.args.prefix.now c.in_ok-text.text.items c.deref.result.now c.as_bytes.result.now c.as_bytes-2.result.now c.args.kinds c.args.effort c.in_ok-proven.proven c.deref.ensures.value c.as_bytes.ensures.value c.as_bytes-2.ensures.value c.in_ok-proven.ensures in
    let cert = cert_name c.args.prefix.now in
    let list = list_name c.args.prefix.now in
    let x = c.in_ok-proven.proven.cert.items in
    let y = exclusions c.in_ok-proven.proven.claims in
    let so_cert = stored command (c.in_ok-text.text.items ∷ []) [] cert x c.in_ok-keep.field-0 (g.D.Desk.state c.args.desk.now) (g.D.Desk.state c.fetch.new.desk) (g.D.Desk.state c.keep.new.desk) so (kept_so cert x c.deref-2.result.now (Ok c.in_ok-keep.field-0) (g.D.Desk.state c.fetch.new.desk) (g.D.Desk.state c.keep.new.desk) c.deref-2.ensures.value c.in_ok-keep.ensures) in
    let list_same = list_of c.in_ok-proven.proven.claims c.as_slice-claims.result.now c.in_ok-list.list.items c.deref-3.result.now c.as_slice-claims.ensures c.in_ok-list.ensures c.deref-3.ensures.value in
    let so_list = stored command (c.in_ok-text.text.items ∷ []) ((cert, x) ∷ []) list y c.in_ok-keep-2.field-0 (g.D.Desk.state c.args.desk.now) (g.D.Desk.state c.keep.new.desk) (g.D.Desk.state c.keep-2.new.desk) so_cert (kept_so list y c.deref-3.result.now (Ok c.in_ok-keep-2.field-0) (g.D.Desk.state c.keep.new.desk) (g.D.Desk.state c.keep-2.new.desk) list_same c.in_ok-keep-2.ensures) in
    let report_same = proof_report_of c.args.effort c.in_ok-proven.proven.claims c.as_slice-claims.result.now c.in_ok-proven.proven.used c.as_slice.result.now c.in_ok-report.report.items c.deref-4.result.now c.as_slice-claims.ensures c.as_slice.ensures c.in_ok-report.ensures c.deref-4.ensures.value in
    let stopped = c.in_err-deliver.ensures in
    handed_on command c.from_residual-in_err-deliver.result p.0 (why_of c.in_err-deliver.field-0.0) _ _ _ _ p.1 (ap why_of p.2)
    (delivery_stopped command (c.in_ok-text.text.items ∷ []) (proof_work c.args.prefix.now c.args.effort c.in_ok-proven.proven) (why_of c.in_err-deliver.field-0.0) (g.D.Desk.state c.args.desk.now) (g.D.Desk.state c.keep-2.new.desk) (g.O.Sink.state c.args.out.now) (g.O.Sink.state c.deliver.new.out) so_list answer stopped.0.0 (stopped.0.1 ∙ ap (λ text. appended (g.O.Sink.state c.args.out.now).written (take stopped.0.0 text)) report_same) stopped.1)

pub returns : goal.returns
returns g c =
    let command = Prove_file c.args.file.now c.args.top.now c.args.clock.now c.args.prefix.now c.args.kinds c.args.effort in
    let so = text_loaded c.args.file.now c.args.top.now c.args.clock.now c.args.prefix.now c.args.kinds c.args.effort c.in_ok-text.text (g.D.Desk.state c.args.desk.now) (g.D.Desk.state c.fetch.new.desk) c.in_ok-text.ensures in
    let answer = proof_answered c.args.file.now c.args.top.now c.args.clock.now c.args.prefix.now c.in_ok-text.text.items c.deref.result.now c.as_bytes.result.now c.as_bytes-2.result.now c.args.kinds c.args.effort c.in_ok-proven.proven c.deref.ensures.value c.as_bytes.ensures.value c.as_bytes-2.ensures.value c.in_ok-proven.ensures in
    let cert = cert_name c.args.prefix.now in
    let list = list_name c.args.prefix.now in
    let x = c.in_ok-proven.proven.cert.items in
    let y = exclusions c.in_ok-proven.proven.claims in
    let so_cert = stored command (c.in_ok-text.text.items ∷ []) [] cert x c.in_ok-keep.field-0 (g.D.Desk.state c.args.desk.now) (g.D.Desk.state c.fetch.new.desk) (g.D.Desk.state c.keep.new.desk) so (kept_so cert x c.deref-2.result.now (Ok c.in_ok-keep.field-0) (g.D.Desk.state c.fetch.new.desk) (g.D.Desk.state c.keep.new.desk) c.deref-2.ensures.value c.in_ok-keep.ensures) in
    let list_same = list_of c.in_ok-proven.proven.claims c.as_slice-claims.result.now c.in_ok-list.list.items c.deref-3.result.now c.as_slice-claims.ensures c.in_ok-list.ensures c.deref-3.ensures.value in
    let so_list = stored command (c.in_ok-text.text.items ∷ []) ((cert, x) ∷ []) list y c.in_ok-keep-2.field-0 (g.D.Desk.state c.args.desk.now) (g.D.Desk.state c.keep.new.desk) (g.D.Desk.state c.keep-2.new.desk) so_cert (kept_so list y c.deref-3.result.now (Ok c.in_ok-keep-2.field-0) (g.D.Desk.state c.keep.new.desk) (g.D.Desk.state c.keep-2.new.desk) list_same c.in_ok-keep-2.ensures) in
    let report_same = proof_report_of c.args.effort c.in_ok-proven.proven.claims c.as_slice-claims.result.now c.in_ok-proven.proven.used c.as_slice.result.now c.in_ok-report.report.items c.deref-4.result.now c.as_slice-claims.ensures c.as_slice.ensures c.in_ok-report.ensures c.deref-4.ensures.value in
    let open_same = c.some_open.ensures ∙ ap some_open c.as_slice-claims.ensures in
    let P : Bool → Type 0 = λ b. Ran command (Done b) (g.D.Desk.state c.args.desk.now) (g.D.Desk.state c.keep-2.new.desk) (g.O.Sink.state c.args.out.now) (g.O.Sink.state c.deliver.new.out) in
    subst P (sym open_same) (delivered command (c.in_ok-text.text.items ∷ []) (proof_work c.args.prefix.now c.args.effort c.in_ok-proven.proven) (g.D.Desk.state c.args.desk.now) (g.D.Desk.state c.keep-2.new.desk) (g.O.Sink.state c.args.out.now) (g.O.Sink.state c.deliver.new.out) so_list answer (c.in_ok-deliver.ensures ∙ ap (λ text. appended (g.O.Sink.state c.args.out.now).written text) report_same))
