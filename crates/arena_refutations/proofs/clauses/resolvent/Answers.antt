-- The resolvent has the sides of the two clauses, without the atom on one of them.
use Rattle.std.proofs.Common.{◌≡◌, ℕ, ap, ◌∙◌}
use Rattle.std.specs.Prelude.{Some}
use Rattle.lk_rules.specs.Sequents.{union_sequent}
use Rattle.arena_cells.specs.Items.{sequent}
use Rattle.arena_cells.specs.Standing.{HasSequent, side_at, sequent_at, formula_at}
use Rattle.arena_cells.proofs.Staying.{is_side, is_sequent, side_stays, formula_stays}
use Rattle.arena_cells.proofs.Reading.{if_ok}
use Rattle.arena_cells.proofs.Facts as facts
use Rattle.proof_trees.specs.FormulaSets.{without}
use Rattle.refutations.specs.Refutations.{resolvent}
use Rattle.arena_refutations.proofs.Resolvents.{without_is}
use Rattle.arena_refutations.proofs.clauses.resolvent.Goals as goal

pub put_sequent-requires-2-clause-right : goal.put_sequent-requires-2-clause-right
put_sequent-requires-2-clause-right c =
    facts.side_there c.put_sequent.new.self _ _ (c.put_sequent.ensures.grown _ _ (c.side_without-2.ensures.grown _ _ (c.side_without.ensures.grown _ _ c.sides-second_left.ensures.right)))

pub returns-clause-resolvent : goal.returns-clause-resolvent
returns-clause-resolvent c =
    let a = c.args.arena.now in
    let b = c.side_without.new.self in
    let d = c.side_without-2.new.self in
    let e = c.put_sequent.new.self in
    let f = c.put_sequent-2.new.self in
    let p = sequent_at a c.args.positive in
    let n = sequent_at a c.args.negative in
    let atom = formula_at a c.args.atom in
    let first_left : side_at d c.sides-first_left.result.0 ≡ p.left = is_side d _ _ (c.side_without-2.ensures.grown _ _ (c.side_without.ensures.grown _ _ c.sides-first_left.ensures.left)) in
    let kept_right : side_at d c.in_ok-kept_right.kept_right ≡ without p.right atom =
    side_stays b d c.side_without-2.ensures.grown _ c.in_ok-kept_right.ensures.side
    ∙ without_is (side_at a c.sides-first_left.result.1) _ atom c.in_ok-kept_right.ensures.members
    ∙ ap (λ s. without s atom) (is_side a _ _ c.sides-first_left.ensures.right) in
    let kept_left : side_at e c.in_ok-kept_left.kept_left ≡ without n.left atom =
    side_stays d e c.put_sequent.ensures.grown _ c.in_ok-kept_left.ensures.side
    ∙ without_is (side_at b c.sides-second_left.result.0) _ (formula_at b c.args.atom) c.in_ok-kept_left.ensures.members
    ∙ (λ i. without (is_side b _ _ (c.side_without.ensures.grown _ _ c.sides-second_left.ensures.left) i) (formula_stays a b c.side_without.ensures.grown c.args.atom c.requires.atom i)) in
    let second_right : side_at e c.sides-second_left.result.1 ≡ n.right =
    is_side e _ _ (c.put_sequent.ensures.grown _ _ (c.side_without-2.ensures.grown _ _ (c.side_without.ensures.grown _ _ c.sides-second_left.ensures.right))) in
    let first = is_sequent f c.in_ok-first.first _ (c.put_sequent-2.ensures.grown _ _ c.in_ok-first.ensures.sequent) ∙ (λ i. record { left = first_left i; right = kept_right i }) in
    let second = is_sequent f c.in_ok-second.second _ c.in_ok-second.ensures.sequent ∙ (λ i. record { left = kept_left i; right = second_right i }) in
    if_ok c.union_sequents.result _ (λ (k : ℕ). HasSequent c.union_sequents.new.self k (resolvent p n atom)) (λ k s. s ∙ (λ i. Some (sequent (union_sequent (first i) (second i))))) c.union_sequents.ensures.union
