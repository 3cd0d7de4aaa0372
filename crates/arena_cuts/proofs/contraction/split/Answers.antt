-- The upper proof has the cuts, and the lower cut the parts that stood before.
use Rattle.std.proofs.Common.{◌∙◌}
use Rattle.cut_laws.specs.Contraction.{opposite, cut_on, above_on}
use Rattle.arena_cells.specs.Standing.{Extends}
use Rattle.arena_cells.proofs.Staying.{is_sequent, is_tree, sequent_stays, formula_stays, sequent_there}
use Rattle.arena_cuts.proofs.Stable.{larger, cut_there, premise_stays, tree_made}
use Rattle.arena_cuts.proofs.contraction.split.Goals as goal

pub above-requires-clause-cut : goal.above-requires-clause-cut
above-requires-clause-cut c = cut_there c.args.arena.now c.sequent_with.new.self c.sequent_with.ensures.grown c.args.cut c.requires.cut

pub with_premise-requires-clause-cut : goal.with_premise-requires-clause-cut
with_premise-requires-clause-cut c = cut_there c.args.arena.now c.above.new.arena (larger _ _ _ c.sequent_with.ensures.grown c.above.ensures.grown) c.args.cut c.requires.cut

pub with_premise-requires-clause-end : goal.with_premise-requires-clause-end
with_premise-requires-clause-end c =
    sequent_there c.args.arena.now c.above.new.arena (larger _ _ _ c.sequent_with.ensures.grown c.above.ensures.grown) c.args.cut.end c.requires.cut.end

pub returns-clause-tree : goal.returns-clause-tree
returns-clause-tree c =
    let a = c.args.arena.now in
    let b = c.sequent_with.new.self in
    let d = c.above.new.arena in
    let cut = c.args.cut in
    let side = c.args.side in
    let h = c.requires.cut in
    let grown : Extends a b = c.sequent_with.ensures.grown in
    let whole : Extends a d = larger a b d grown c.above.ensures.grown in
    let end = is_sequent b c.in_ok-upper_end.upper_end _ c.in_ok-upper_end.ensures.sequent in
    let upper = is_tree d c.in_ok-upper.upper _ c.in_ok-upper.ensures.tree
    ∙ (λ i. above_on side (end i) (sequent_stays a b grown cut.end h.end i) (formula_stays a b grown cut.formula h.formula i) (premise_stays a b grown side cut h i) (premise_stays a b grown (opposite side) cut h i)) in
    tree_made c.with_premise.result c.with_premise.new.arena _ _
    (λ i. cut_on side (sequent_stays a d whole cut.end h.end i) (formula_stays a d whole cut.formula h.formula i) (upper i) (premise_stays a d whole (opposite side) cut h i)) c.with_premise.ensures.tree

pub returns-clause-grown : goal.returns-clause-grown
returns-clause-grown c = larger _ _ _ (larger _ _ _ c.sequent_with.ensures.grown c.above.ensures.grown) c.with_premise.ensures.grown
