-- The cut has both proofs above it.
use Rattle.std.proofs.Common.{◌≡◌, ℕ, ◌∙◌}
use Rattle.std.specs.Prelude.{Some}
use Rattle.std.specs.FinMap as fin
use Rattle.substitution.specs.Image.{image}
use Rattle.lk_rules.specs.declared.rule.Rule.TheVariants.{Cut}
use Rattle.lk_rules.specs.Sequents.{union_sequent, image_sequent}
use Rattle.proof_trees.specs.Trees.{node, none, more}
use Rattle.arena_cells.specs.Items.{tree}
use Rattle.arena_cells.specs.Standing.{Extends, HasTree, map_at, sequent_at, formula_at, tree_at}
use Rattle.arena_cells.proofs.Staying.{is_formula, is_sequent, formula_stays, tree_stays, tree_there}
use Rattle.arena_cells.proofs.Reading.{if_ok}
use Rattle.arena.proofs.Results.{map_stays}
use Rattle.arena_refutations.proofs.proving.prove_resolvent.Goals as goal

pub inference-requires-clause-premises : goal.inference-requires-clause-premises
inference-requires-clause-premises c =
    let whole : Extends c.args.arena.now c.image.new.self = λ n x h. c.image.ensures.grown n x (c.image_end.ensures.grown n x h) in
    (tree_there _ _ whole c.args.premises.0 c.requires.first, tree_there _ _ whole c.args.premises.1 c.requires.second)

pub returns-clause-tree : goal.returns-clause-tree
returns-clause-tree c =
    let a = c.args.arena.now in
    let b = c.image_end.new.arena in
    let d = c.image.new.self in
    let atom = image (fin.get (map_at a c.args.map)) (formula_at a c.args.planned.named) in
    let end = union_sequent (sequent_at a c.args.closures) (image_sequent (fin.get (map_at a c.args.map)) (sequent_at a c.args.planned.clause)) in
    let grown : Extends a b = c.image_end.ensures.grown in
    let whole : Extends a d = λ n x h. c.image.ensures.grown n x (grown n x h) in
    let cut : formula_at d c.in_ok-image.field-0 ≡ atom = is_formula d _ _ c.in_ok-image.ensures.formula
    ∙ (λ i. image (fin.get (map_stays a b grown c.args.map c.requires.map i)) (formula_stays a b grown c.args.planned.named c.requires.atom i)) in
    let below : sequent_at d c.in_ok-end.end ≡ end = is_sequent d _ _ (c.image.ensures.grown _ _ c.in_ok-end.ensures.end) in
    if_ok c.inference.result _ (λ (n : ℕ). HasTree c.inference.new.arena n (node (Cut atom) end (more (tree_at a c.args.premises.0) (more (tree_at a c.args.premises.1) none))))
    (λ n h. h ∙ (λ i. Some (tree (node (Cut (cut i)) (below i) (more (tree_stays a d whole c.args.premises.0 c.requires.first i) (more (tree_stays a d whole c.args.premises.1 c.requires.second i) none))))))
    c.inference.ensures.tree

pub returns-clause-grown : goal.returns-clause-grown
returns-clause-grown c = λ n x h. c.inference.ensures.grown n x (c.image.ensures.grown n x (c.image_end.ensures.grown n x h))
