-- The second cut has the parts that stood before.
use Rattle.std.proofs.Common.{sym, ap, subst, ◌∙◌}
use Rattle.proof_trees.specs.Trees.{none, more}
use Rattle.cut_laws.specs.Contraction.{with_aux, opposite, premise_on, cut_on, cuts_on}
use Rattle.arena_cells.specs.declared.key.Parts.{Parts}
use Rattle.arena_cells.specs.Standing.{sequent_at, formula_at, tree_at}
use Rattle.arena_cells.specs.Meaning.{rule_at, trees_at, HasPremises}
use Rattle.arena_cells.proofs.Staying.{is_tree, sequent_stays, formula_stays, rule_stays, tree_stays, rule_parts_there}
use Rattle.arena_cuts.proofs.Stable.{larger, cut_there, premise_stays}
use Rattle.arena_cuts.proofs.above.cuts_above.Goals as goal

pub cut_premise-requires-in-Two-2-clause-cut : goal.cut_premise-requires-in-Two-2-clause-cut
cut_premise-requires-in-Two-2-clause-cut c = cut_there c.args.arena.now c.cut_premise-in-Two.new.arena c.cut_premise-in-Two.ensures.grown c.args.cut c.requires.cut

pub cut_premise-requires-in-Two-2-clause-rule : goal.cut_premise-requires-in-Two-2-clause-rule
cut_premise-requires-in-Two-2-clause-rule c = rule_parts_there c.args.arena.now c.cut_premise-in-Two.new.arena c.cut_premise-in-Two.ensures.grown c.args.rule c.requires.rule

pub returns-in_ok-cut_premise-in-Two-clause-trees :
    goal.returns-in_ok-cut_premise-in-Two-clause-trees
returns-in_ok-cut_premise-in-Two-clause-trees c =
    let a = c.args.arena.now in
    let b = c.cut_premise-in-Two.new.arena in
    let d = c.cut_premise-in-Two-2.new.arena in
    let cut = c.args.cut in
    let grown = c.cut_premise-in-Two.ensures.grown in
    let there = subst (λ (ps : Parts). HasPremises a ps) c.in-Two.is c.requires.proofs in
    let first = is_tree d c.in_ok-first-in-Two.first _ (c.cut_premise-in-Two-2.ensures.grown _ _ c.in_ok-first-in-Two.ensures.tree) in
    let second = is_tree d c.in_ok-cut_premise-in-Two.field-0 _ c.in_ok-cut_premise-in-Two.ensures.tree
    ∙ (λ i. cut_on c.args.side (with_aux (sequent_stays a b grown cut.end c.requires.cut.end i) (rule_stays a b grown c.args.rule c.requires.rule i) 1) (formula_stays a b grown cut.formula c.requires.cut.formula i)
    (tree_stays a b grown c.in-Two.second there.1 i) (premise_stays a b grown (opposite c.args.side) cut c.requires.cut i)) in
    (λ i. more (first i) (more (second i) none))
    ∙ ap (λ (ps : Parts). cuts_on c.args.side (sequent_at a cut.end) (formula_at a cut.formula) (rule_at a c.args.rule) 0 (trees_at a ps) (premise_on (opposite c.args.side) (tree_at a cut.left) (tree_at a cut.right))) (sym c.in-Two.is)

pub returns-in_ok-cut_premise-in-Two-clause-grown : goal.returns-in_ok-cut_premise-in-Two-clause-grown
returns-in_ok-cut_premise-in-Two-clause-grown c = larger _ _ _ c.cut_premise-in-Two.ensures.grown c.cut_premise-in-Two-2.ensures.grown
