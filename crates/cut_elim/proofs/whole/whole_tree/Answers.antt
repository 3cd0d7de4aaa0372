-- The arena of the pass has only become larger, and what its tree comes to has the same end sequent.
use Rattle.std.proofs.Common.{ℕ, List, sym, ap, subst, ◌∙◌}
use Rattle.lk_rules.specs.declared.sequent.Sequent.{Sequent}
use Rattle.proof_trees.specs.Trees.{concl}
use Rattle.proof_trees.specs.Conclusions.{IsFormedSequent, HasFormedEnd}
use Rattle.proof_subst.proofs.Passes.{pass_stays}
use Rattle.arena_cells.specs.Items.{Item}
use Rattle.arena_cells.specs.Standing.{HasTree, tree_at}
use Rattle.arena_cells.proofs.Staying.{is_tree}
use Rattle.arena_cuts.specs.Whole.{ReducesTo}
use Rattle.arena_cuts.proofs.WholeSteps.{made_then, reduced_end}
use Rattle.cut_elim.proofs.whole.whole_tree.Goals as goal

pub returns-clause-pass_stays : goal.returns-clause-pass_stays
returns-clause-pass_stays g c =
    pass_stays c.args.bench.now c.number_of.new.pass c.eliminate_whole_in.new.arena c.number_of.ensures.pass_stays
    (λ n t h. c.eliminate_whole_in.ensures.grown n t (cc (c.arena-arena.ensures.value, h)))

pub returns-clause-formed : goal.returns-clause-formed
returns-clause-formed g c =
    let t = c.args.proof.now.tree in
    let a = c.arena-arena.result.now in
    let d = c.eliminate_whole_in.new.arena in
    let number = c.in-Ok.number in
    let there : HasTree a number t = subst (λ (x : List Item). HasTree x number t) (sym c.arena-arena.ensures.value) c.in-Ok.ensures.tree in
    made_then c.eliminate_whole_in.result (λ (n : ℕ). ReducesTo (tree_at a number) (tree_at d n)) (λ (n : ℕ). HasFormedEnd (tree_at d n))
    (λ n x. subst (λ (s : Sequent). IsFormedSequent s) (sym (reduced_end (tree_at a number) (tree_at d n) x ∙ ap concl (is_tree a number t there))) c.in-Ok.ensures.formed)
    c.eliminate_whole_in.ensures.reduced
