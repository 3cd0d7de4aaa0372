-- The cut has the parts that stood before.
use Rattle.cut_laws.specs.Contraction.{opposite, cut_on}
use Rattle.arena_cells.proofs.Staying.{is_sequent, formula_stays, tree_stays}
use Rattle.arena_cuts.proofs.Stable.{cut_there, premise_stays, tree_made}
use Rattle.arena_cuts.proofs.above.cut_premise.Goals as goal

pub with_premise-requires-clause-cut : goal.with_premise-requires-clause-cut
with_premise-requires-clause-cut c = cut_there c.args.arena.now c.with_aux.new.arena c.with_aux.ensures.grown c.args.cut c.requires.cut

pub returns-clause-tree : goal.returns-clause-tree
returns-clause-tree c =
    let a = c.args.arena.now in
    let b = c.with_aux.new.arena in
    let grown = c.with_aux.ensures.grown in
    tree_made c.with_premise.result c.with_premise.new.arena _ _
    (λ i. cut_on c.args.side (is_sequent b c.in_ok-end.end _ c.in_ok-end.ensures.sequent i) (formula_stays a b grown c.args.cut.formula c.requires.cut.formula i)
    (tree_stays a b grown c.args.proof c.requires.proof i) (premise_stays a b grown (opposite c.args.side) c.args.cut c.requires.cut i)) c.with_premise.ensures.tree
