use Rattle.std.proofs.Common.{subst}
use Rattle.lk_rules.specs.declared.sequent.Sequent.{Sequent}
use Rattle.search_laws.specs.Search.{walk}
use Rattle.prop_search.specs.Deciding.{WalksTo}
use Rattle.prop_search.proofs.Walking.{tautology_found, false_found}
use Rattle.prop_search.proofs.deciding.decide_numbered.Goals as goal

pub decide_at-requires-clause-seen : goal.decide_at-requires-clause-seen
decide_at-requires-clause-seen c = c.new-seen.ensures c.args.numbering.now

pub returns-clause-tautology : goal.returns-clause-tautology
returns-clause-tautology c =
    let walks = subst (λ (s : Sequent). WalksTo c.decide_at.result c.args.budget c.decide_at.new.left (walk s)) c.requires.start c.decide_at.ensures.walk in
    tautology_found c.decide_at.result c.args.budget c.decide_at.new.left c.args.sequent.now walks (c.searches.ensures.found c.args.sequent.now c.requires.propositional)

pub returns-clause-falsified : goal.returns-clause-falsified
returns-clause-falsified c = λ a e.
    let walks = subst (λ (s : Sequent). WalksTo c.decide_at.result c.args.budget c.decide_at.new.left (walk s)) c.requires.start c.decide_at.ensures.walk in
    let at = false_found c.decide_at.result c.args.budget c.decide_at.new.left (walk c.args.sequent.now) a walks e in
    c.searches.ensures.refuted c.args.sequent.now at.0 a c.requires.propositional at.1

pub returns-clause-atoms : goal.returns-clause-atoms
returns-clause-atoms c = λ a e.
    let walks = subst (λ (s : Sequent). WalksTo c.decide_at.result c.args.budget c.decide_at.new.left (walk s)) c.requires.start c.decide_at.ensures.walk in
    let at = false_found c.decide_at.result c.args.budget c.decide_at.new.left (walk c.args.sequent.now) a walks e in
    c.searches.ensures.atoms c.args.sequent.now at.0 a c.requires.propositional at.1
