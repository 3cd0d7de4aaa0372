-- The variables and the map stand where they are found.
use Rattle.std.proofs.Common.{map as each, sym, ap, ◌∙◌}
use Rattle.std.specs.FinMap as fin
use Rattle.std.specs.List.{list_any}
use Rattle.std.specs.Ordering.{eq_by_cmp}
use Rattle.fol.specs.Syntax.{free}
use Rattle.fol.specs.Order.{var_cmp}
use Rattle.fol.specs.OrderLaws.{var_total}
use Rattle.fol.proofs.OrderTies.{var_ties}
use Rattle.finite.specs.Finite as set
use Rattle.free_variables.specs.Occurrence.{is_free_in_term}
use Rattle.substitution.specs.Image.{image_term}
use Rattle.arena_cells.specs.Standing.{variable_at}
use Rattle.arena_cells.proofs.Staying.{is_map, variables_stay}
use Rattle.arena.proofs.SetLaws.{has-list}
use Rattle.arena_refutations.proofs.planning.plan_image.Goals as goal

pub returns-clause-has : goal.returns-clause-has
returns-clause-has c v w member h =
    let a = c.args.arena.now in
    let b = c.import_map.new.self in
    let numbers = c.variable_numbers.result.now in
    let same = ap (each (variable_at b)) (c.deref.ensures.value ∙ c.in_ok-vars.ensures.items) ∙ variables_stay a b c.import_map.ensures.grown numbers c.variable_numbers.ensures.rising.members in
    c.in_ok-set.ensures.has v w
    (ap (list_any (eq_by_cmp var_cmp w)) same ∙ sym (has-list var_total var_ties (each (variable_at a) numbers) w) ∙ ap (λ s. set.has s w) (sym c.variable_numbers.ensures.shown) ∙ member)
    (ap (λ m. is_free_in_term v (image_term (fin.get m) (free w))) (is_map b _ _ c.in_ok-named.ensures.map) ∙ h)
