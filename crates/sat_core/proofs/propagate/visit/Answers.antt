use Rattle.std.proofs.Common.{◌≡◌, ℕ, ◌+◌, ◌*◌, ◌<◌, ◌≤◌, true, length, get_or, take, refl, ◌∙◌, arith}
use Rattle.sat_core.specs.Assigned.{place_of}
use Rattle.sat_core.specs.Closing.{Within}
use Rattle.sat_core.specs.Trailed.{Trailed, Extends, clause_in, is_satisfied}
use Rattle.sat_core.specs.Watching.{Watching, IsOff, list_at, pair_at}
use Rattle.sat_core.proofs.Marks.{place-within}
use Rattle.sat_core.proofs.Propagations.{Propagates-same, Propagates-trans, Extends-trans, Within-extends, Within-front, front-extends}
use Rattle.sat_core.proofs.Visits.{Touches, Touches-start, Touches-look, Touches-kept, Touches-gone, Touches-end, Rewatches-gone}
use Rattle.sat_core.proofs.WatchPairs.{AreWatched-grow, AreWatched-rewatch, Rewatches-same, Rewatches-trans}
use Rattle.sat_core.proofs.propagate.visit.Goals as goal

pub loop-at-init : goal.loop-at-init
loop-at-init c = record {
  propagates = Propagates-same c.args.clauses.now c.args.trail.now c.requires.good;
  places = refl;
  listed = c.requires.listed;
  rewatches = Rewatches-same c.args.clauses.now c.args.trail.now.falses c.args.watches.now;
  watched = c.requires.watched;
  touches = rw c.falsified-literal.ensures.value (Touches-start c.args.clauses.now c.args.watches.now c.args.trail.now.falses c.args.done c.requires.there c.requires.listed c.requires.watched);
}

pub loop-at-preserved-in-Kept : goal.loop-at-preserved-in-Kept
loop-at-preserved-in-Kept c =
    let t : Trailed = c.args.trail.now in
    let s : Trailed = c.loop-at.trail in
    let u : Trailed = c.look_at.new.trail in
    let w : Watching = c.loop-at.watches in
    let v : Watching = c.look_at.new.watches in
    let p : ℕ = place_of c.falsified-literal.result in
    let rewatches = c.in_ok-look_at.ensures.rewatches in
    let same : list_at v.lists p ≡ list_at w.lists p = c.in_ok-look_at.ensures.same_list in
    let grows : Within s.falses u.falses = Within-extends s u c.in_ok-look_at.ensures.propagates.extends in
    let start : Within t.falses u.falses = (λ l e. grows l (Within-extends t s c.loop-at.invariant.propagates.extends l e)) in
    let front : Within (take c.args.done t.falses) u.falses = (λ l e. start l (Within-front c.args.done t.falses (take c.args.done t.falses) refl l e)) in
    let next : Within (take (c.args.done + 1) t.falses) u.falses = (λ l e. start l (Within-front (c.args.done + 1) t.falses (take (c.args.done + 1) t.falses) refl l e)) in
    let here : c.clause-clause.result ≡ get_or (list_at v.lists p) c.loop-at.at 0 = rw same c.clause-clause.ensures in
    let satisfied : is_satisfied u.falses (clause_in c.args.clauses.now c.clause-clause.result) ≡ true = rw c.in-Kept.is at c.in_ok-look_at.ensures.look in
    let looked : Touches c.args.clauses.now v p c.loop-at.at (take (c.args.done + 1) t.falses) u.falses =
    Touches-look c.args.clauses.now w v p c.loop-at.at (take (c.args.done + 1) t.falses) s.falses u.falses grows next rewatches same c.loop-at.invariant.touches in
    record {
      propagates = Propagates-trans c.args.clauses.now t s u c.loop-at.invariant.propagates c.in_ok-look_at.ensures.propagates;
      places = c.in_ok-look_at.ensures.places ∙ c.loop-at.invariant.places;
      listed = rewatches.listed c.loop-at.invariant.listed;
      rewatches = Rewatches-trans c.args.clauses.now t.falses u.falses c.args.watches.now w v start c.loop-at.invariant.rewatches rewatches;
      watched =
          AreWatched-rewatch
          c.args.clauses.now
          u.falses
          (take c.args.done t.falses)
          u.falses
          w
          v
          rewatches
          front
          (AreWatched-grow c.args.clauses.now w.pairs (take c.args.done t.falses) s.falses u.falses grows c.loop-at.invariant.watched);
      touches = Touches-kept c.args.clauses.now v p c.loop-at.at c.clause-clause.result (take (c.args.done + 1) t.falses) u.falses here satisfied looked;
    }

pub loop-at-preserved : goal.loop-at-preserved
loop-at-preserved c =
    let t : Trailed = c.args.trail.now in
    let s : Trailed = c.loop-at.trail in
    let u : Trailed = c.look_at.new.trail in
    let w : Watching = c.loop-at.watches in
    let v : Watching = c.look_at.new.watches in
    let p : ℕ = place_of c.falsified-literal.result in
    let rewatches = c.in_ok-look_at.ensures.rewatches in
    let same : list_at v.lists p ≡ list_at w.lists p = c.in_ok-look_at.ensures.same_list in
    let grows : Within s.falses u.falses = Within-extends s u c.in_ok-look_at.ensures.propagates.extends in
    let start : Within t.falses u.falses = (λ l e. grows l (Within-extends t s c.loop-at.invariant.propagates.extends l e)) in
    let front : Within (take c.args.done t.falses) u.falses = (λ l e. start l (Within-front c.args.done t.falses (take c.args.done t.falses) refl l e)) in
    let next : Within (take (c.args.done + 1) t.falses) u.falses = (λ l e. start l (Within-front (c.args.done + 1) t.falses (take (c.args.done + 1) t.falses) refl l e)) in
    let here : c.clause-clause.result ≡ get_or (list_at v.lists p) c.loop-at.at 0 = rw same c.clause-clause.ensures in
    let looked : Touches c.args.clauses.now v p c.loop-at.at (take (c.args.done + 1) t.falses) u.falses =
    Touches-look c.args.clauses.now w v p c.loop-at.at (take (c.args.done + 1) t.falses) s.falses u.falses grows next rewatches same c.loop-at.invariant.touches in
    let long : length v.lists ≡ 2 * t.vars + 2 = c.in_ok-look_at.ensures.places ∙ c.loop-at.invariant.places ∙ c.requires.places in
    let within : p < length v.lists = rw long (place-within c.falsified-literal.result t.vars c.falsified-literal.ensures.within) in
    let inside : c.loop-at.at < length (list_at w.lists p) = rw c.count.ensures at c.loop-at-test.true in
    let there : c.loop-at.at < length (list_at v.lists p) = rw same inside in
    let off : c.clause-clause.result < length v.pairs → IsOff p (pair_at v.pairs c.clause-clause.result) = rw c.in-Gone.is at c.in_ok-look_at.ensures.look in
    let gone = Rewatches-gone c.args.clauses.now u.falses v p c.loop-at.at c.clause-clause.result within there here off in
    rw c.unlist.ensures (record {
      propagates = Propagates-trans c.args.clauses.now t s u c.loop-at.invariant.propagates c.in_ok-look_at.ensures.propagates;
      places = gone.same_places ∙ c.in_ok-look_at.ensures.places ∙ c.loop-at.invariant.places;
      listed = gone.listed (rewatches.listed c.loop-at.invariant.listed);
      rewatches =
          Rewatches-trans
          c.args.clauses.now
          t.falses
          u.falses
          c.args.watches.now
          v
          _
          start
          (Rewatches-trans c.args.clauses.now t.falses u.falses c.args.watches.now w v start c.loop-at.invariant.rewatches rewatches)
          gone;
      watched =
          AreWatched-rewatch
          c.args.clauses.now
          u.falses
          (take c.args.done t.falses)
          u.falses
          w
          v
          rewatches
          front
          (AreWatched-grow c.args.clauses.now w.pairs (take c.args.done t.falses) s.falses u.falses grows c.loop-at.invariant.watched);
      touches = Touches-gone c.args.clauses.now v p c.loop-at.at c.clause-clause.result (take (c.args.done + 1) t.falses) u.falses within there here off looked;
    })

pub returns-in-Ended-clause-propagates : goal.returns-in-Ended-clause-propagates
returns-in-Ended-clause-propagates c =
    Propagates-trans c.args.clauses.now c.args.trail.now c.loop-at.trail c.look_at.new.trail c.loop-at.invariant.propagates c.in_ok-look_at.ensures.propagates

pub returns-in-Ended-clause-rewatches : goal.returns-in-Ended-clause-rewatches
returns-in-Ended-clause-rewatches c =
    let t : Trailed = c.args.trail.now in
    let s : Trailed = c.loop-at.trail in
    let u : Trailed = c.look_at.new.trail in
    let start : Within t.falses u.falses = Within-extends t u (Extends-trans t s u c.loop-at.invariant.propagates.extends c.in_ok-look_at.ensures.propagates.extends) in
    Rewatches-trans c.args.clauses.now t.falses u.falses c.args.watches.now c.loop-at.watches c.look_at.new.watches start c.loop-at.invariant.rewatches c.in_ok-look_at.ensures.rewatches

pub returns-in-Ended-clause-watched : goal.returns-in-Ended-clause-watched
returns-in-Ended-clause-watched c =
    let t : Trailed = c.args.trail.now in
    let s : Trailed = c.loop-at.trail in
    let u : Trailed = c.look_at.new.trail in
    let both : Extends t u = Extends-trans t s u c.loop-at.invariant.propagates.extends c.in_ok-look_at.ensures.propagates.extends in
    let start : Within t.falses u.falses = Within-extends t u both in
    let grows : Within s.falses u.falses = Within-extends s u c.in_ok-look_at.ensures.propagates.extends in
    let front : Within (take c.args.done t.falses) u.falses = (λ l e. start l (Within-front c.args.done t.falses (take c.args.done t.falses) refl l e)) in
    let le : c.args.done ≤ length t.falses = omega (arith, c.requires.there) in
    let same : take c.args.done u.falses ≡ take c.args.done t.falses = front-extends t u c.args.done (take c.args.done t.falses) both le refl in
    rw same (AreWatched-rewatch
    c.args.clauses.now
    u.falses
    (take c.args.done t.falses)
    u.falses
    c.loop-at.watches
    c.look_at.new.watches
    c.in_ok-look_at.ensures.rewatches
    front
    (AreWatched-grow c.args.clauses.now c.loop-at.watches.pairs (take c.args.done t.falses) s.falses u.falses grows c.loop-at.invariant.watched))

pub returns-clause-watched : goal.returns-clause-watched
returns-clause-watched c =
    let t : Trailed = c.args.trail.now in
    let s : Trailed = c.loop-at.trail in
    let le : c.args.done ≤ length t.falses = omega (arith, c.requires.there) in
    let same : take c.args.done s.falses ≡ take c.args.done t.falses = front-extends t s c.args.done (take c.args.done t.falses) c.loop-at.invariant.propagates.extends le refl in
    rw same c.loop-at.invariant.watched

pub returns-clause-found : goal.returns-clause-found
returns-clause-found c =
    let t : Trailed = c.args.trail.now in
    let s : Trailed = c.loop-at.trail in
    let p : ℕ = place_of c.falsified-literal.result in
    let le : c.args.done + 1 ≤ length t.falses = omega (arith, c.requires.there) in
    let same : take (c.args.done + 1) s.falses ≡ take (c.args.done + 1) t.falses = front-extends t s (c.args.done + 1) (take (c.args.done + 1) t.falses) c.loop-at.invariant.propagates.extends le refl in
    let ended : length (list_at c.loop-at.watches.lists p) ≤ c.loop-at.at = rw c.count.ensures at c.loop-at-test.false in
    rw same (Touches-end c.args.clauses.now c.loop-at.watches p c.loop-at.at (take (c.args.done + 1) t.falses) s.falses ended c.loop-at.invariant.touches)
