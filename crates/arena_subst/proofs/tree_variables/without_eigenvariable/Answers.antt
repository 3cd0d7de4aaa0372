-- The set without the variable at the number that the rule names.
use Rattle.std.proofs.Common.{◌≡◌, ℕ, not, ◌&&◌, sym, ap, ◌∙◌}
use Rattle.std.specs.Prelude.{Some}
use Rattle.std.specs.Ordering.{eq_by_cmp}
use Rattle.fol.specs.declared.symbols.Var.{Var}
use Rattle.fol.specs.Order.{var_cmp}
use Rattle.finite.specs.Finite as set
use Rattle.arena_cells.specs.Items.{variables}
use Rattle.arena_cells.specs.Standing.{HasVariables, variables_at, variable_at}
use Rattle.arena_cells.specs.Meaning.{rule_at}
use Rattle.arena.specs.TreeVariables.{without_eigen}
use Rattle.arena_proofs.proofs.RuleParts.{named_eigen, no_eigen}
use Rattle.arena_subst.proofs.Members.{removed_set, same_set}
use Rattle.arena_subst.proofs.Answered.{if_ok_each}
use Rattle.arena_subst.proofs.tree_variables.without_eigenvariable.Goals as goal

pub without_variable-requires-clause-variable : goal.without_variable-requires-clause-variable
without_variable-requires-clause-variable c = (named_eigen c.args.arena.now c.args.rule c.in-Some.variable c.requires.rule (sym c.in-Some.ensures)).0

pub returns-in-Some-clause-set : goal.returns-in-Some-clause-set
returns-in-Some-clause-set c =
    let a = c.args.arena.now in
    let b = c.without_variable.new.self in
    let named = named_eigen a c.args.rule c.in-Some.variable c.requires.rule (sym c.in-Some.ensures) in
    if_ok_each c.without_variable.result _ (λ (v : Var) (n : ℕ). set.has (variables_at b n) v ≡ (not (eq_by_cmp var_cmp v (variable_at a c.in-Some.variable)) && set.has (variables_at a c.args.vars) v))
    (λ (n : ℕ). HasVariables b n (without_eigen (rule_at a c.args.rule) (variables_at a c.args.vars)))
    (λ n s members. s ∙ ap (λ x. Some (variables x)) (removed_set (rule_at a c.args.rule) (variables_at a c.args.vars) (variables_at b n) (variable_at a c.in-Some.variable) named.1 members))
    c.without_variable.ensures.set c.without_variable.ensures.members

pub returns-in-None-clause-set : goal.returns-in-None-clause-set
returns-in-None-clause-set c =
    let a = c.args.arena.now in
    c.requires.vars ∙ ap (λ x. Some (variables x)) (same_set (rule_at a c.args.rule) (variables_at a c.args.vars) (no_eigen a c.args.rule (sym c.in-None.ensures)))
