use Rattle.std.proofs.Common.{sym, ◌∙◌, ap, subst}
use Rattle.vlog_tokens.specs.Directives.{scan_at, scan, ScanFits}
use Rattle.vlog_tokens.proofs.Scanning.{scan_fits}
use Rattle.vlog_tokens.proofs.directive.scan_text.Goals as goal

pub returns-clause-value : goal.returns-clause-value
unfolding scan
returns-clause-value c = c.scan_at.ensures ∙ ap (λ o. scan_at o c.args.text.now) c.opening_of.ensures

pub returns-clause-fits : goal.returns-clause-fits
unfolding scan
returns-clause-fits c = subst (λ z. ScanFits c.args.text.now z) (sym (c.scan_at.ensures ∙ ap (λ o. scan_at o c.args.text.now) c.opening_of.ensures)) (scan_fits c.args.text.now c.requires)
