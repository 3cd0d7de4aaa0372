-- What rightly built trees stand for has no quantifier.
use Rattle.expansion_laws.specs.Building.{is_built}
use Rattle.exp_tree.specs.Reads.{expansion_of}
use Rattle.exp_tree.proofs.Arranged.{each_passes}
use Rattle.exp_tree.proofs.sequent_formulas.deep_sequent.Goals as goal

pub returns-clause-unquantified : goal.returns-clause-unquantified
returns-clause-unquantified c =
    let e = c.args.exps.now in
    let law = c.deep_formulas.ensures.trees (expansion_of e) (each_passes is_built e.left c.as_slice.ensures.arranged.built) (each_passes is_built e.right c.as_slice-2.ensures.arranged.built) in
    record { left = rw c.in_ok-left.ensures (rw c.as_slice.ensures.trees law.left); right = rw c.in_ok-right.ensures (rw c.as_slice-2.ensures.trees law.right) }
