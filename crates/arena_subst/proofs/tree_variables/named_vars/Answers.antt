-- The variables of the formula and those of the term.
use Rattle.std.proofs.Common.{ℕ, ap, ◌∙◌}
use Rattle.std.specs.Prelude.{Some}
use Rattle.free_variables.specs.Union.{union_of}
use Rattle.lk_rules.specs.RuleOrder.{term_of}
use Rattle.arena_cells.specs.Items.{variables}
use Rattle.arena_cells.specs.Standing.{HasVariables}
use Rattle.arena_cells.specs.Meaning.{rule_at}
use Rattle.arena_cells.proofs.Reading.{if_ok}
use Rattle.arena_cells.proofs.Staying.{are_variables, rule_stays}
use Rattle.arena.specs.TreeVariables.{vars_named_term, vars_named}
use Rattle.arena_subst.proofs.tree_variables.named_vars.Goals as goal

pub returns-clause-set : goal.returns-clause-set
returns-clause-set c =
    let a = c.args.arena.now in
    let b = c.formula_vars.new.arena in
    let d = c.term_vars.new.arena in
    let first = are_variables d c.in_ok-formula.formula _ (c.term_vars.ensures.grown c.in_ok-formula.formula _ c.in_ok-formula.ensures.set) in
    let second = are_variables d c.in_ok-term.term _ c.in_ok-term.ensures.set ∙ ap (λ r. vars_named_term (term_of r)) (rule_stays a b c.formula_vars.ensures.grown c.args.rule c.requires) in
    if_ok c.union_variables.result _ (λ (n : ℕ). HasVariables c.union_variables.new.self n (vars_named (rule_at a c.args.rule)))
    (λ n s. s ∙ λ i. Some (variables (union_of (first i) (second i)))) c.union_variables.ensures.union
