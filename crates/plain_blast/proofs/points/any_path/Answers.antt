use Rattle.std.proofs.Common.{◌≡◌, ◌+◌, length, get_or, drop, sym, ap, ◌∙◌, arith}
use Rattle.std.proofs.lemmas.List.{get_or_default}
use Rattle.std.proofs.lemmas.Option.{slice_get-get_or}
use Rattle.aig_core.proofs.Values.{Extends-refl, Extends-trans}
use Rattle.plain_blast.specs.declared.bodies.Passed.{Passed}
use Rattle.plain_blast.specs.Plain.{any_of}
use Rattle.plain_blast.specs.Chains.{place_from}
use Rattle.plain_blast.proofs.Existing.{paths_kept}
use Rattle.plain_blast.proofs.ChainLaws.{skip, at_site, chain_step}
use Rattle.plain_blast.proofs.points.any_path.Goals as goal

pub loop-at-init : goal.loop-at-init
loop-at-init c =
    let first : c.place-at.result ≡ place_from c.args.site c.args.paths.now 0 = c.place-at.ensures ∙ ap (λ xs. get_or xs c.args.site (length c.args.paths.now)) c.deref.ensures.value ∙ c.requires.first in
    record {
      rest = ap (λ n. any_of c.args.aig.now 0 (drop n c.args.paths.now) c.args.site) first ∙ sym (skip c.args.aig.now 0 c.args.site 0 c.args.paths.now);
      here = λ d lt. at_site c.args.site 0 c.place-at.result c.args.paths.now d first lt;
      exists = omega arith;
      paths_exist = c.requires.exist;
      kept = Extends-refl _;
    }

pub loop-at-smaller : goal.loop-at-smaller
loop-at-smaller c =
    let p : Passed = get_or c.args.paths.now c.loop-at.at (record { site = 0; path = 0 }) in
    let later : c.index-at.result.now ≡ place_from p.site c.args.paths.now (c.loop-at.at + 1) =
    c.index-at.ensures ∙ get_or_default c.args.chains.now.next.items c.loop-at.at c.index-at.result.now 0 (omega (arith, c.requires.next.long, c.loop-at-test.true))
    ∙ c.requires.next.each c.loop-at.at p (omega arith) (slice_get-get_or c.args.paths.now c.loop-at.at (record { site = 0; path = 0 }) c.loop-at-test.true) in
    omega (arith, later)

pub loop-at-preserved : goal.loop-at-preserved
loop-at-preserved c =
    let p : Passed = get_or c.args.paths.now c.loop-at.at (record { site = 0; path = 0 }) in
    let later : c.index-at.result.now ≡ place_from p.site c.args.paths.now (c.loop-at.at + 1) =
    c.index-at.ensures ∙ get_or_default c.args.chains.now.next.items c.loop-at.at c.index-at.result.now 0 (omega (arith, c.requires.next.long, c.loop-at-test.true))
    ∙ c.requires.next.each c.loop-at.at p (omega arith) (slice_get-get_or c.args.paths.now c.loop-at.at (record { site = 0; path = 0 }) c.loop-at-test.true) in
    let same = c.loop-at.invariant.here (record { site = 0; path = 0 }) c.loop-at-test.true in
    record {
      rest = (λ j. any_of (c.in_ok-any.ensures.graph j) (c.in_ok-any.ensures.literal j) (drop c.index-at.result.now c.args.paths.now) c.args.site)
          ∙ sym (chain_step c.loop-at.aig c.loop-at.any c.args.site c.loop-at.at c.index-at.result.now c.args.paths.now p c.loop-at-test.true (get_or_default c.args.paths.now c.loop-at.at _ p c.loop-at-test.true) same later)
          ∙ c.loop-at.invariant.rest;
      here = λ d lt. at_site c.args.site (c.loop-at.at + 1) c.index-at.result.now c.args.paths.now d (later ∙ ap (λ s. place_from s c.args.paths.now (c.loop-at.at + 1)) same) lt;
      exists = c.in_ok-any.ensures.exists;
      paths_exist = paths_kept _ _ _ c.or.ensures.kept c.loop-at.invariant.paths_exist;
      kept = Extends-trans _ _ _ c.loop-at.invariant.kept c.or.ensures.kept;
    }
