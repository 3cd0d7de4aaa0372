-- The variables of the conclusion and those of what the rule names.
use Rattle.std.proofs.Common.{ℕ, sym, ap, ◌∙◌}
use Rattle.std.specs.Prelude.{Some}
use Rattle.free_variables.specs.Union.{union_of}
use Rattle.lk_rules.specs.Sequents.{vars_sequent}
use Rattle.proof_trees.specs.Trees.{Tree, concl, rule_of}
use Rattle.arena_cells.specs.Items.{variables}
use Rattle.arena_cells.specs.Standing.{HasVariables, tree_at}
use Rattle.arena_cells.proofs.Reading.{if_ok}
use Rattle.arena_cells.proofs.Staying.{are_variables, is_sequent, tree_stays, tree_there}
use Rattle.arena.specs.TreeVariables.{vars_named}
use Rattle.arena_subst.proofs.tree_variables.root_vars.Goals as goal

pub end-requires : goal.end-requires
end-requires c = tree_there c.args.arena.now c.named_vars.new.arena c.named_vars.ensures.grown c.args.proof c.requires

pub returns-clause-set : goal.returns-clause-set
returns-clause-set c =
    let a = c.args.arena.now in
    let b = c.named_vars.new.arena in
    let d = c.sequent_vars.new.self in
    let t = tree_at a c.args.proof in
    let first = are_variables d c.in_ok-conclusion.conclusion _ c.in_ok-conclusion.ensures.set
    ∙ ap vars_sequent (is_sequent b c.end.result _ c.end.ensures) ∙ ap (λ (u : Tree). vars_sequent (concl u)) (tree_stays a b c.named_vars.ensures.grown c.args.proof c.requires) in
    let second = are_variables d c.in_ok-named.named _ (c.sequent_vars.ensures.grown c.in_ok-named.named _ c.in_ok-named.ensures.set) ∙ ap vars_named (sym c.rule.ensures.rule) in
    if_ok c.union_variables.result _ (λ (n : ℕ). HasVariables c.union_variables.new.self n (union_of (vars_sequent (concl t)) (vars_named (rule_of t))))
    (λ n s. s ∙ λ i. Some (variables (union_of (first i) (second i)))) c.union_variables.ensures.union
