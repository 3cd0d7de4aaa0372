-- The rule has the new name of its eigenvariable.
use Rattle.std.proofs.Common.{sym, ap, ◌∙◌}
use Rattle.lk_rules.specs.declared.rule.Rule.TheVariants.{AllR, ExL}
use Rattle.cut_laws.specs.Contraction.{moved_rule}
use Rattle.arena_cells.specs.Standing.{sequent_at}
use Rattle.arena_cells.proofs.Staying.{is_variable, formula_stays, formula_there}
use Rattle.arena_cells.proofs.Facts as facts
use Rattle.arena_subst.proofs.moved.moved_to.Goals as goal

pub returns-in_ok-name-in-AllR-clause-rule_there : goal.returns-in_ok-name-in-AllR-clause-rule_there
returns-in_ok-name-in-AllR-clause-rule_there c = (
  formula_there c.args.arena.now c.renamed.new.arena c.renamed.ensures.grown c.in-AllR.main c.in-AllR.ensures.parts.0,
  facts.variable_there c.renamed.new.arena c.in_ok-name-in-AllR.name _ c.in_ok-name-in-AllR.ensures.variable,
)

pub returns-in_ok-name-in-AllR-clause-rule : goal.returns-in_ok-name-in-AllR-clause-rule
returns-in_ok-name-in-AllR-clause-rule c =
    let formula = formula_stays c.args.arena.now c.renamed.new.arena c.renamed.ensures.grown c.in-AllR.main c.in-AllR.ensures.parts.0 in
    let name = is_variable c.renamed.new.arena c.in_ok-name-in-AllR.name _ c.in_ok-name-in-AllR.ensures.variable in
    (λ i. AllR (formula i) (name i)) ∙ ap (moved_rule (sequent_at c.args.arena.now c.args.end)) (sym c.in-AllR.ensures.rule)

pub returns-in_ok-name-in-ExL-clause-rule_there : goal.returns-in_ok-name-in-ExL-clause-rule_there
returns-in_ok-name-in-ExL-clause-rule_there c = (
  formula_there c.args.arena.now c.renamed-in-ExL.new.arena c.renamed-in-ExL.ensures.grown c.in-ExL.main c.in-ExL.ensures.parts.0,
  facts.variable_there c.renamed-in-ExL.new.arena c.in_ok-name-in-ExL.name _ c.in_ok-name-in-ExL.ensures.variable,
)

pub returns-in_ok-name-in-ExL-clause-rule : goal.returns-in_ok-name-in-ExL-clause-rule
returns-in_ok-name-in-ExL-clause-rule c =
    let formula = formula_stays c.args.arena.now c.renamed-in-ExL.new.arena c.renamed-in-ExL.ensures.grown c.in-ExL.main c.in-ExL.ensures.parts.0 in
    let name = is_variable c.renamed-in-ExL.new.arena c.in_ok-name-in-ExL.name _ c.in_ok-name-in-ExL.ensures.variable in
    (λ i. ExL (formula i) (name i)) ∙ ap (moved_rule (sequent_at c.args.arena.now c.args.end)) (sym c.in-ExL.ensures.rule)
