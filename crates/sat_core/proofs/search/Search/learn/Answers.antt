use Rattle.std.proofs.Common.{◌≤◌, ◌<◌, List, [], ◌∷◌, ◌++◌, length, map, ap, ◌∙◌, arith}
use Rattle.std.proofs.lemmas.List.{length_push}
use Rattle.cnf_core.specs.Literal.{Literal, negated}
use Rattle.sat_core.proofs.Settled.{IsNew-learn, Within-take}
use Rattle.sat_core.proofs.Steps.{Searched-learn}
use Rattle.sat_core.proofs.search.Search.learn.Goals as goal

pub returns-clause-searched : goal.returns-clause-searched
returns-clause-searched c =
    let there = c.requires.decision.there in
    let high = c.place_to_go_on-cut.ensures.high in
    let low = c.in_ok-explained.ensures.low in
    let inside : c.place_to_go_on-cut.result < length c.args.self.now.trail.falses = omega arith in
    let below : c.place_to_go_on-cut.result ≤ c.in_ok-explained.explained.to = omega arith in
    rw
    (c.cut.ensures, c.in_ok-number.ensures.ok)
    (Searched-learn
    c.args.self.now.clauses
    c.args.self.now.trail
    c.args.self.now.watches
    c.args.self.now.done
    c.args.assumptions.now
    c.explain.new.seen.falses
    c.deref.result.now
    c.place_to_go_on-cut.result
    c.in_ok-explained.explained.to
    c.requires.searched
    inside
    below
    c.place_to_go_on-cut.ensures.low
    c.place_to_go_on-cut.ensures.decided
    (c.deref.ensures.value ∙ c.in_ok-explained.ensures.lits)
    c.place_to_go_on-cut.ensures.many)

pub returns-clause-step : goal.returns-clause-step
returns-clause-step c =
    let below : c.args.decision ≤ c.in_ok-explained.explained.to = (let low = c.in_ok-explained.ensures.low in omega arith) in
    record {
      number = c.in_ok-number.ensures.number ∙ ap length c.in_ok-number.ensures.ok ∙ length_push c.args.self.now.clauses c.deref.result.now;
      shows = c.in_ok-explained.ensures.shown;
      clauses = c.in_ok-number.ensures.ok ∙ ap (λ (ls : List Literal). c.args.self.now.clauses ++ ls ∷ []) c.deref.ensures.value;
      fresh = λ once.
          IsNew-learn
          c.args.self.now.trail.vars
          c.args.self.now.clauses
          c.args.self.now.trail
          c.explain.new.seen.falses
          c.in_ok-explained.explained.shown.lits.items
          c.args.assumptions.now
          c.args.decision
          c.in_ok-explained.explained.to
          c.requires.searched.good.good_vars
          below
          c.in_ok-explained.ensures.lits
          c.in_ok-explained.ensures.one
          (Within-take c.args.self.now.trail.falses (map negated c.args.assumptions.now) (length c.args.assumptions.now) c.args.decision c.requires.decision.low c.requires.searched.assumed)
          (c.requires.searched.settled c.args.decision c.requires.decision.low c.requires.decision.there c.requires.decision.decided)
          once;
    }
