-- A resolvent that is covered changes nothing, and another one comes to what is kept.
use Rattle.std.proofs.Common.{◌≡◌, ◌||◌, Bool, false, sym, ap, subst, ◌∙◌}
use Rattle.std.specs.List.{All, list_any}
use Rattle.lk_rules.specs.declared.sequent.Sequent.{Sequent}
use Rattle.proof_trees.proofs.Booleans.{or_first, or_second}
use Rattle.clause_laws.specs.Subsumption.{IsClause}
use Rattle.clause_laws.specs.Searching.{subsumes, is_tautology}
use Rattle.res_prover.specs.declared.kept.Kept.{Kept}
use Rattle.res_prover.specs.Kept.{kept_clauses, is_needless}
use Rattle.res_prover.specs.Working.{IsStageAfter}
use Rattle.res_prover.proofs.Adding.{is_clause, goes_without, goes_with}
use Rattle.res_prover.proofs.work.add.Goals as goal

pub returns-then-is_tautology : goal.returns-then-is_tautology
returns-then-is_tautology c = λ ks b next at.
    let r = c.args.made.clause in
    let old = c.args.work in
    goes_without ks b old r next at (or_first (is_tautology r) (list_any (λ (k : Kept). subsumes k.clause r) old.kept.items) (sym c.is_tautology.ensures ∙ c.if-is_tautology.true))

pub returns-then-branch : goal.returns-then-branch
returns-then-branch c = λ ks b next at.
    let r = c.args.made.clause in
    let old = c.args.work in
    let some : Sequent → Bool = λ d. list_any (λ (k : Kept). subsumes k.clause d) old.kept.items in
    let same : c.in_ok-one.one.clause ≡ r = c.in_ok-one.ensures.clause in
    let kept = c.as_slice.ensures.value in
    let subsumed = ap some (sym same) ∙ ap (list_any (λ (k : Kept). subsumes k.clause c.in_ok-one.one.clause)) (sym kept) ∙ sym (c.in_ok-is_subsumed.ensures (subst (λ js. All IsClause (kept_clauses js)) (sym kept) at.clauses)) ∙ c.if-branch.true in
    goes_without ks b old r next at (or_second (is_tautology r) (some r) subsumed)

pub returns : goal.returns
returns c = λ ks b next at.
    let r = c.args.made.clause in
    let old = c.args.work in
    let one = c.in_ok-one.one in
    let some : Sequent → Bool = λ d. list_any (λ (k : Kept). subsumes k.clause d) old.kept.items in
    let same : one.clause ≡ r = c.in_ok-one.ensures.clause in
    let clause = subst IsClause (sym same) (is_clause ks b old r next at) in
    let kept = c.as_slice.ensures.value in
    let none = ap some (sym same) ∙ ap (list_any (λ (k : Kept). subsumes k.clause one.clause)) (sym kept) ∙ sym (c.in_ok-is_subsumed.ensures (subst (λ js. All IsClause (kept_clauses js)) (sym kept) at.clauses)) ∙ c.if-branch.false in
    let needed : is_needless old.kept.items r ≡ false = ap (λ a. a || some r) (sym c.is_tautology.ensures ∙ c.if-is_tautology.false) ∙ none in
    goes_with ks b old r next at (record { kept = c.in_ok-kept.kept; stops = old.stops; stage = c.stage_after-stage.result }) one same c.in_ok-one.ensures.is_new
    (c.in_ok-kept.ensures clause) needed (λ i. old.stops) (subst (λ d. IsStageAfter d c.stage_after-stage.result) (c.clause-2.ensures ∙ same) c.stage_after-stage.ensures)
