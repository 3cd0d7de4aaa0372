-- The contraction is what takes the place of the cut in its case.
use Rattle.std.proofs.Common.{ap}
use Rattle.cut_laws.specs.Contraction.{by_case, con}
use Rattle.arena_cells.specs.Standing.{sequent_at, formula_at, tree_at}
use Rattle.arena_cuts.proofs.Stable.{tree_made}
use Rattle.arena_cuts.proofs.contraction.contract_in.Goals as goal

pub returns-clause-tree : goal.returns-clause-tree
unfolding con
returns-clause-tree g c =
    let a = c.args.arena.now in
    tree_made c.by_case.result c.by_case.new.arena _ _
    (ap (λ k. by_case k (sequent_at a c.args.end) (formula_at a c.args.formula) (tree_at a c.args.left) (tree_at a c.args.right)) c.case_at-case.ensures) c.by_case.ensures.tree
