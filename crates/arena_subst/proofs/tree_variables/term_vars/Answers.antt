-- The term at the number that the rule names.
use Rattle.std.proofs.Common.{ℕ, sym, ap, ◌∙◌}
use Rattle.std.specs.Prelude.{Some}
use Rattle.lk_rules.specs.RuleOrder.{term_of}
use Rattle.arena_cells.specs.Items.{variables}
use Rattle.arena_cells.specs.Standing.{HasVariables}
use Rattle.arena_cells.specs.Meaning.{rule_at}
use Rattle.arena_cells.proofs.Reading.{if_ok}
use Rattle.arena.specs.TreeVariables.{vars_named_term}
use Rattle.arena_proofs.proofs.RuleParts.{named_term, no_term}
use Rattle.arena_subst.proofs.tree_variables.term_vars.Goals as goal

pub term_vars-requires : goal.term_vars-requires
term_vars-requires c = (named_term c.args.arena.now c.args.rule c.in-Some.term c.requires (sym c.in-Some.ensures)).0

pub returns-in-Some-clause-set : goal.returns-in-Some-clause-set
returns-in-Some-clause-set c =
    let named = named_term c.args.arena.now c.args.rule c.in-Some.term c.requires (sym c.in-Some.ensures) in
    if_ok c.term_vars.result _ (λ (n : ℕ). HasVariables c.term_vars.new.self n (vars_named_term (term_of (rule_at c.args.arena.now c.args.rule))))
    (λ n s. s ∙ ap (λ o. Some (variables (vars_named_term o))) (sym named.1)) c.term_vars.ensures.set

pub returns-in-None-clause-set : goal.returns-in-None-clause-set
returns-in-None-clause-set c =
    if_ok c.no_variable.result _ (λ (n : ℕ). HasVariables c.no_variable.new.self n (vars_named_term (term_of (rule_at c.args.arena.now c.args.rule))))
    (λ n s. s ∙ ap (λ o. Some (variables (vars_named_term o))) (sym (no_term c.args.arena.now c.args.rule (sym c.in-None.ensures)))) c.no_variable.ensures.set
