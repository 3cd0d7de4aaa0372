-- The second tree is that of a proof which stood before.
use Rattle.std.proofs.Common.{sym, ap, subst, ◌∙◌}
use Rattle.substitution.specs.Maps.{only}
use Rattle.proof_trees.specs.Trees.{none, more}
use Rattle.proof_trees.specs.Substitution.{sub, sub_all}
use Rattle.arena_cells.specs.declared.key.Parts.{Parts}
use Rattle.arena_cells.specs.Standing.{variable_at, term_at}
use Rattle.arena_cells.specs.Meaning.{trees_at, HasPremises}
use Rattle.arena_cells.proofs.Staying.{is_tree, tree_stays, variable_stays, term_stays}
use Rattle.arena_subst.proofs.moved.replace_in_all.Goals as goal

pub returns-in_ok-replace-in-Two-clause-trees : goal.returns-in_ok-replace-in-Two-clause-trees
returns-in_ok-replace-in-Two-clause-trees c =
    let a = c.args.arena.now in
    let b = c.replace-in-Two.new.arena in
    let d = c.replace-in-Two-2.new.arena in
    let grown = c.replace-in-Two.ensures.grown in
    let there = subst (λ (ps : Parts). HasPremises a ps) c.in-Two.is c.requires.proofs in
    let first = is_tree d c.in_ok-first-in-Two.first _ (c.replace-in-Two-2.ensures.grown _ _ c.in_ok-first-in-Two.ensures.tree) in
    let second = is_tree d c.in_ok-replace-in-Two.field-0 _ c.in_ok-replace-in-Two.ensures.tree
    ∙ (λ i. sub (tree_stays a b grown c.in-Two.second there.1 i) (only (variable_stays a b grown c.args.variable c.requires.variable i) (term_stays a b grown c.args.term c.requires.term i))) in
    (λ i. more (first i) (more (second i) none))
    ∙ ap (λ (ps : Parts). sub_all (trees_at a ps) (only (variable_at a c.args.variable) (term_at a c.args.term))) (sym c.in-Two.is)
