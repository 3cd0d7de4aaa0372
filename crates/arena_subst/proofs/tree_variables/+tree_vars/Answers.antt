-- The variables of a tree are those of its root and of the trees below it.
use Rattle.std.proofs.Common.{◌≡◌, ℕ, sym, ap, subst, ◌∙◌}
use Rattle.std.specs.Prelude.{Some}
use Rattle.free_variables.specs.Sets.{VarSet}
use Rattle.free_variables.specs.Union.{union_of}
use Rattle.arena_cells.specs.Items.{variables}
use Rattle.arena_cells.specs.Standing.{HasVariables, tree_at}
use Rattle.arena_cells.specs.declared.key.Parts.{Parts}
use Rattle.arena_cells.specs.Meaning.{trees_at, HasPremises}
use Rattle.arena_cells.proofs.Reading.{if_ok}
use Rattle.arena_cells.proofs.Staying.{are_variables, tree_stays}
use Rattle.arena.specs.TreeVariables.{vars_tree, vars_trees}
use Rattle.arena_subst.proofs.Members.{one_tree, two_trees}
use Rattle.arena_subst.proofs.tree_variables.+tree_vars.Goals as goal

pub vars_below-returns-in-One-clause-set : goal.vars_below-returns-in-One-clause-set
vars_below-returns-in-One-clause-set t c =
    let a = c.args.arena.now in
    let only : vars_tree (tree_at a c.in-One.only) ≡ vars_trees (trees_at a c.args.premises) = one_tree (tree_at a c.in-One.only) ∙ ap (λ (ps : Parts). vars_trees (trees_at a ps)) (sym c.in-One.is) in
    if_ok c.tree_vars.result _ (λ (n : ℕ). HasVariables c.tree_vars.new.arena n (vars_trees (trees_at a c.args.premises))) (λ n s. s ∙ ap (λ (x : VarSet). Some (variables x)) only) c.tree_vars.ensures.set

pub vars_below-returns-in_ok-second-in-Two-clause-set : goal.vars_below-returns-in_ok-second-in-Two-clause-set
vars_below-returns-in_ok-second-in-Two-clause-set t c =
    let a = c.args.arena.now in
    let b = c.tree_vars-in-Two.new.arena in
    let d = c.tree_vars-in-Two-2.new.arena in
    let first = are_variables d c.in_ok-first-in-Two.first _ (c.tree_vars-in-Two-2.ensures.grown c.in_ok-first-in-Two.first _ c.in_ok-first-in-Two.ensures.set) in
    let second = are_variables d c.in_ok-second-in-Two.second _ c.in_ok-second-in-Two.ensures.set ∙ ap vars_tree (tree_stays a b c.tree_vars-in-Two.ensures.grown c.in-Two.second (subst (λ (ps : Parts). HasPremises a ps) c.in-Two.is c.requires.there).1) in
    let both : union_of (vars_tree (tree_at a c.in-Two.first)) (vars_tree (tree_at a c.in-Two.second)) ≡ vars_trees (trees_at a c.args.premises) =
    two_trees (tree_at a c.in-Two.first) (tree_at a c.in-Two.second) ∙ ap (λ (ps : Parts). vars_trees (trees_at a ps)) (sym c.in-Two.is) in
    if_ok c.union_variables.result _ (λ (n : ℕ). HasVariables c.union_variables.new.self n (vars_trees (trees_at a c.args.premises)))
    (λ n s. s ∙ (λ i. Some (variables (union_of (first i) (second i)))) ∙ ap (λ (x : VarSet). Some (variables x)) both) c.union_variables.ensures.union
