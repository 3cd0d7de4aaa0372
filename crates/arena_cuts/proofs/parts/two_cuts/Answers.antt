-- The upper cut has the formula in its conclusion, and both have the parts that stood before.
use Rattle.std.proofs.Common.{◌∙◌}
use Rattle.cut_laws.specs.Contraction.{cut, cut_on}
use Rattle.arena_cells.specs.Standing.{Extends}
use Rattle.arena_cells.proofs.Staying.{is_sequent, is_tree, sequent_stays, formula_stays, tree_stays, sequent_there, formula_there, tree_there}
use Rattle.arena_cells.proofs.Facts as facts
use Rattle.arena_cuts.proofs.Stable.{larger, tree_made}
use Rattle.arena_cuts.proofs.parts.two_cuts.Goals as goal

pub put_cut-requires : goal.put_cut-requires
put_cut-requires c =
    let a = c.args.arena.now in
    let b = c.sequent_with.new.self in
    let u = c.args.upper in
    let h = c.requires.upper in
    record {
      end = facts.sequent_there b c.in_ok-upper_end.upper_end _ c.in_ok-upper_end.ensures.sequent;
      formula = formula_there a b c.sequent_with.ensures.grown u.formula h.formula;
      left = tree_there a b c.sequent_with.ensures.grown u.left h.left;
      right = tree_there a b c.sequent_with.ensures.grown u.right h.right;
    }

pub cut_on-requires-clause-other : goal.cut_on-requires-clause-other
cut_on-requires-clause-other c =
    tree_there c.args.arena.now c.put_cut.new.arena (larger _ _ _ c.sequent_with.ensures.grown c.put_cut.ensures.grown) c.args.other c.requires.other

pub returns-clause-tree : goal.returns-clause-tree
returns-clause-tree c =
    let a = c.args.arena.now in
    let b = c.sequent_with.new.self in
    let d = c.put_cut.new.arena in
    let u = c.args.upper in
    let h = c.requires.upper in
    let grown : Extends a b = c.sequent_with.ensures.grown in
    let whole : Extends a d = larger a b d grown c.put_cut.ensures.grown in
    let end = is_sequent b c.in_ok-upper_end.upper_end _ c.in_ok-upper_end.ensures.sequent in
    let upper = is_tree d c.in_ok-proof.proof _ c.in_ok-proof.ensures.tree
    ∙ (λ i. cut (end i) (formula_stays a b grown u.formula h.formula i) (tree_stays a b grown u.left h.left i) (tree_stays a b grown u.right h.right i)) in
    tree_made c.cut_on.result c.cut_on.new.arena _ _
    (λ i. cut_on c.args.side (sequent_stays a d whole c.args.end c.requires.end i) (formula_stays a d whole c.args.formula c.requires.formula i) (upper i) (tree_stays a d whole c.args.other c.requires.other i)) c.cut_on.ensures.tree

pub returns-clause-grown : goal.returns-clause-grown
returns-clause-grown c = larger _ _ _ (larger _ _ _ c.sequent_with.ensures.grown c.put_cut.ensures.grown) c.cut_on.ensures.grown

pub cut_on-requires-clause-end : goal.cut_on-requires-clause-end
cut_on-requires-clause-end c = sequent_there c.args.arena.now c.put_cut.new.arena (larger _ _ _ c.sequent_with.ensures.grown c.put_cut.ensures.grown) c.args.end c.requires.end

pub cut_on-requires-clause-formula : goal.cut_on-requires-clause-formula
cut_on-requires-clause-formula c = formula_there c.args.arena.now c.put_cut.new.arena (larger _ _ _ c.sequent_with.ensures.grown c.put_cut.ensures.grown) c.args.formula c.requires.formula
