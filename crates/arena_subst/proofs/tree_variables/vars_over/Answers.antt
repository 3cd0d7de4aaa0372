-- The variables of the root, and those of the premises but for the eigenvariable.
use Rattle.std.proofs.Common.{ℕ, sym, ap, ◌∙◌}
use Rattle.std.specs.Prelude.{Some}
use Rattle.free_variables.specs.Sets.{VarSet}
use Rattle.free_variables.specs.Union.{union_of}
use Rattle.lk_rules.specs.Sequents.{vars_sequent}
use Rattle.proof_trees.specs.Trees.{Tree, concl, rule_of}
use Rattle.arena_cells.specs.Items.{variables}
use Rattle.arena_cells.specs.Standing.{HasVariables, tree_at}
use Rattle.arena_cells.proofs.Facts.{variables_there}
use Rattle.arena_cells.proofs.Reading.{if_ok}
use Rattle.arena_cells.proofs.Staying.{are_variables, tree_stays, tree_there}
use Rattle.arena.specs.TreeVariables.{vars_named, without_eigen, vars_tree}
use Rattle.arena_subst.proofs.Members.{root_variables}
use Rattle.arena_subst.proofs.tree_variables.vars_over.Goals as goal

pub without_eigenvariable-requires-clause-vars : goal.without_eigenvariable-requires-clause-vars
without_eigenvariable-requires-clause-vars c = variables_there c.args.arena.now c.args.below _ c.requires.below

pub root_vars-requires : goal.root_vars-requires
root_vars-requires c = tree_there c.args.arena.now c.without_eigenvariable.new.arena c.without_eigenvariable.ensures.grown c.args.proof c.requires.proof

pub returns-clause-set : goal.returns-clause-set
returns-clause-set c =
    let a = c.args.arena.now in
    let b = c.without_eigenvariable.new.arena in
    let d = c.root_vars.new.arena in
    let t = tree_at a c.args.proof in
    let root = are_variables d c.in_ok-root.root _ c.in_ok-root.ensures.set
    ∙ ap (λ (u : Tree). union_of (vars_sequent (concl u)) (vars_named (rule_of u))) (tree_stays a b c.without_eigenvariable.ensures.grown c.args.proof c.requires.proof) in
    let rest = are_variables d c.in_ok-below.below _ (c.root_vars.ensures.grown c.in_ok-below.below _ c.in_ok-below.ensures.set)
    ∙ (λ i. without_eigen (sym c.rule.ensures.rule i) (are_variables a c.args.below _ c.requires.below i)) in
    if_ok c.union_variables.result _ (λ (n : ℕ). HasVariables c.union_variables.new.self n (vars_tree t))
    (λ n s. s ∙ (λ i. Some (variables (union_of (root i) (rest i)))) ∙ ap (λ (x : VarSet). Some (variables x)) (root_variables t)) c.union_variables.ensures.union
