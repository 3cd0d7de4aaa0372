-- The proof over a disjunction has those over both parts above it.
use Rattle.std.proofs.Common.{◌≡◌, ℕ, sym, ap, subst, ◌∙◌}
use Rattle.std.specs.Prelude.{Some}
use Rattle.fol.specs.Syntax.{or}
use Rattle.lk_rules.specs.declared.sequent.Side.TheVariants.{Left}
use Rattle.lk_rules.specs.declared.rule.Rule.TheVariants.{OrL}
use Rattle.lk_rules.specs.Sequents.{adds_to}
use Rattle.proof_trees.specs.Trees.{node, none, more}
use Rattle.arena_cells.specs.declared.key.Key.{Key}
use Rattle.arena_cells.specs.Items.{tree}
use Rattle.arena_cells.specs.Standing.{Extends, HasTree, sequent_at, formula_at, tree_at}
use Rattle.arena_cells.specs.Meaning.{HasParts}
use Rattle.arena_cells.proofs.Staying.{is_tree, sequent_stays, formula_stays}
use Rattle.arena_cells.proofs.Reading.{if_ok}
use Rattle.refutations.specs.Refutations.{over_literals}
use Rattle.arena_refutations.proofs.KeyShapes.{shape, shape_at}
use Rattle.arena_refutations.proofs.input_trees.+over_literals.Goals as goal

pub over_literals-returns-in-Or-clause-tree : goal.over_literals-returns-in-Or-clause-tree
over_literals-returns-in-Or-clause-tree t c =
    let a = c.args.arena.now in
    let b = c.over_part.new.arena in
    let d = c.over_part-in-Or.new.arena in
    let s = sequent_at a c.args.end in
    let f = formula_at a c.in-Or.first in
    let g = formula_at a c.in-Or.second in
    let grown : Extends a b = c.over_part.ensures.grown in
    let further : Extends b d = c.over_part-in-Or.ensures.grown in
    let whole : Extends a d = λ n x h. further n x (grown n x h) in
    let is_key = sym c.in_ok-key.ensures ∙ c.in-Or.is in
    let is : formula_at a c.args.matrix ≡ or f g = shape_at a c.args.matrix c.key.result.now c.key.ensures ∙ ap (shape a) is_key in
    let parts = subst (λ (k : Key). HasParts a k) is_key c.key.ensures.parts in
    let left : tree_at d c.in_ok-left-in-Or.left ≡ over_literals (adds_to s Left f) f = is_tree d _ _ (further _ _ c.in_ok-left-in-Or.ensures.tree) in
    let right : tree_at d c.in_ok-right-in-Or.right ≡ over_literals (adds_to s Left g) g = is_tree d _ _ c.in_ok-right-in-Or.ensures.tree
    ∙ (λ i. over_literals (adds_to (sequent_stays a b grown c.args.end c.requires.end i) Left (formula_stays a b grown c.in-Or.second parts.1 i)) (formula_stays a b grown c.in-Or.second parts.1 i)) in
    let made = (λ i. node (OrL ((formula_stays a d whole c.args.matrix c.requires.matrix ∙ is) i)) (sequent_stays a d whole c.args.end c.requires.end i) (more (left i) (more (right i) none)))
    ∙ ap (over_literals s) (sym is) in
    if_ok c.inference.result _ (λ (n : ℕ). HasTree c.inference.new.arena n (over_literals s (formula_at a c.args.matrix))) (λ n h. h ∙ ap (λ u. Some (tree u)) made) c.inference.ensures.tree
