-- What the rounds come to holds of the problem's clauses.
use Rattle.std.proofs.Common.{◌≡◌, List, Err, sym, ap, ◌∙◌, subst}
use Rattle.std.specs.List.{All}
use Rattle.lk_rules.specs.declared.sequent.Sequent.{Sequent}
use Rattle.clause_laws.specs.Subsumption.{IsClause}
use Rattle.ground_laws.specs.Steps.{sequents_of}
use Rattle.res_prover.specs.Clauses.{clauses_of as sequents_of_clauses}
use Rattle.operations.proofs.Saturated.{are_clauses, unfinished_comes}
use Rattle.operations.proofs.saturating.saturate_clauses.Goals as goal

pub saturate-requires : goal.saturate-requires
saturate-requires c =
    let same : sequents_of_clauses c.deref.result.now ≡ sequents_of c.args.clauses.now = ap sequents_of_clauses c.deref.ensures.value ∙ c.in-Ok.ensures in
    subst (λ (ss : List Sequent). All IsClause ss) (sym same) (are_clauses c.args.clauses.now c.requires.known)

pub returns-in-Err-Rounds : goal.returns-in-Err-Rounds
returns-in-Err-Rounds c = λ g.
    let same : sequents_of_clauses c.deref.result.now ≡ sequents_of c.args.clauses.now = ap sequents_of_clauses c.deref.ensures.value ∙ c.in-Ok.ensures in
    unfinished_comes g c.args.clauses.now (sequents_of_clauses c.deref.result.now) c.args.rounds same (c.saturate.ensures.rounds (c.in-Err-Rounds.is ∙ ap Err c.in-Err-Rounds.field-0-is))
