-- The sequent of the unions of the sides.
use Rattle.std.proofs.Common.{ℕ, ◌∙◌}
use Rattle.std.specs.Prelude.{Some}
use Rattle.free_variables.specs.Union.{union_of}
use Rattle.lk_rules.specs.Sequents.{union_sequent}
use Rattle.arena_cells.specs.Items.{sequent}
use Rattle.arena_cells.specs.Standing.{HasSequent, sequent_at}
use Rattle.arena_cells.proofs.Staying.{is_side}
use Rattle.arena_cells.proofs.Reading.{if_ok}
use Rattle.arena.proofs.arena.Arena.union_sequents.Goals as goal

pub returns-clause-union : goal.returns-clause-union
returns-clause-union c =
    let a = c.args.self.now in
    let s = c.union_sides.new.self in
    let t = c.union_sides-2.new.self in
    let first = is_side t c.in_ok-left.left _ (c.union_sides-2.ensures.grown c.in_ok-left.left _ c.in_ok-left.ensures.union)
    ∙ (λ i. union_of (is_side a c.sides-left.result.0 _ c.sides-left.ensures.left i) (is_side a c.sides-other_left.result.0 _ c.sides-other_left.ensures.left i)) in
    let second = is_side t c.in_ok-right.right _ c.in_ok-right.ensures.union
    ∙ (λ i. union_of (is_side s c.sides-left.result.1 _ (c.union_sides.ensures.grown c.sides-left.result.1 _ c.sides-left.ensures.right) i) (is_side s c.sides-other_left.result.1 _ (c.union_sides.ensures.grown c.sides-other_left.result.1 _ c.sides-other_left.ensures.right) i)) in
    if_ok c.put_sequent.result _ (λ (n : ℕ). HasSequent c.put_sequent.new.self n (union_sequent (sequent_at a c.args.first) (sequent_at a c.args.second)))
    (λ n h. h ∙ (λ i. Some (sequent (record { left = first i; right = second i })))) c.put_sequent.ensures.sequent
