-- The rule under the new conclusion stands over the cuts.
use Rattle.std.proofs.Common.{ap, ◌∙◌}
use Rattle.proof_trees.specs.Trees.{node}
use Rattle.cut_laws.specs.Contraction.{opposite, premise_on, cuts_on, above_on}
use Rattle.arena_cells.specs.Standing.{sequent_at, formula_at, tree_at}
use Rattle.arena_cells.proofs.Staying.{sequent_stays, formula_stays, rule_stays, sequent_there, rule_parts_there}
use Rattle.arena_cuts.proofs.Stable.{larger, cut_there, premise_stays, tree_made}
use Rattle.arena_cuts.proofs.above.above.Goals as goal

pub cuts_above-requires-clause-cut : goal.cuts_above-requires-clause-cut
cuts_above-requires-clause-cut c = cut_there c.args.arena.now c.moved_to.new.arena c.moved_to.ensures.grown c.args.cut c.requires.cut

pub inference-requires-clause-rule : goal.inference-requires-clause-rule
inference-requires-clause-rule c = rule_parts_there c.moved_to.new.arena c.cuts_above.new.arena c.cuts_above.ensures.grown c.in_ok-rule.field-0.rule c.in_ok-rule.ensures.rule_there

pub inference-requires-clause-end : goal.inference-requires-clause-end
inference-requires-clause-end c =
    sequent_there c.args.arena.now c.cuts_above.new.arena (larger _ _ _ c.moved_to.ensures.grown c.cuts_above.ensures.grown) c.args.end c.requires.end

pub returns-clause-tree : goal.returns-clause-tree
returns-clause-tree c =
    let a = c.args.arena.now in
    let b = c.moved_to.new.arena in
    let d = c.cuts_above.new.arena in
    let cut = c.args.cut in
    let h = c.requires.cut in
    let grown = c.moved_to.ensures.grown in
    let moved = c.in_ok-rule.ensures in
    let rule = rule_stays b d c.cuts_above.ensures.grown c.in_ok-rule.field-0.rule moved.rule_there ∙ moved.rule in
    let end = sequent_stays a d (larger _ _ _ grown c.cuts_above.ensures.grown) c.args.end c.requires.end in
    let cuts = c.in_ok-cuts.ensures.trees
    ∙ (λ i. cuts_on c.args.side (sequent_stays a b grown cut.end h.end i) (formula_stays a b grown cut.formula h.formula i) (moved.rule i) 0 (moved.trees i) (premise_stays a b grown (opposite c.args.side) cut h i)) in
    tree_made c.inference.result c.inference.new.arena _ _
    ((λ i. node (rule i) (end i) (cuts i))
    ∙ ap (λ t. above_on c.args.side (sequent_at a c.args.end) (sequent_at a cut.end) (formula_at a cut.formula) t (premise_on (opposite c.args.side) (tree_at a cut.left) (tree_at a cut.right))) c.premise_on-premise.ensures.tree)
    c.inference.ensures.tree

pub returns-clause-grown : goal.returns-clause-grown
returns-clause-grown c = larger _ _ _ (larger _ _ _ c.moved_to.ensures.grown c.cuts_above.ensures.grown) c.inference.ensures.grown
