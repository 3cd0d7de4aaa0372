-- Where no tree has parts, the step is at an instance.
use Rattle.std.proofs.Common.{◌≡◌, List, sym, subst, ◌∙◌}
use Rattle.std.specs.Prelude.{None, is_some}
use Rattle.std.specs.List.{position}
use Rattle.finite.specs.Finite as set
use Rattle.building_laws.specs.Lists.{Placed, strongs_in_list}
use Rattle.building_laws.specs.Building.{parts, instance_at, first_step}
use Rattle.arena_building.specs.Choosing.{ready_in, IsAsReady}
use Rattle.arena_building.specs.Numbered.{Numbered, trees}
use Rattle.arena_building.proofs.Chosen.{position_alike}
use Rattle.arena_building.proofs.Places.{no_step_there}
use Rattle.arena_building.proofs.Takings.{position_of_tree}
use Rattle.arena_building.proofs.steps.take_step.Goals as goal

pub returns-in-Some-first_with_instance-clause-step : goal.returns-in-Some-first_with_instance-clause-step
returns-in-Some-first_with_instance-clause-step c =
    let l = c.args.list.items in
    let whole : first_step parts (trees l) ≡ None =
    no_step_there parts (trees l) (position_of_tree (λ (p : Placed). is_some (parts p)) l
    ∙ ((λ i. position (λ (q : Numbered). is_some (parts q.placed)) (sym c.deref.ensures.value i)) ∙ (sym c.first_compound.ensures ∙ c.in_default.is))) in
    c.taken.ensures.instance (trees l) c.requires.open_leaves whole ∙ c.in_ok-take_instance-in-Some-first_with_instance.ensures.step

pub returns-clause-step : goal.returns-clause-step
returns-clause-step c =
    let l = c.args.list.items in
    let vs = strongs_in_list (trees l) in
    let whole : first_step parts (trees l) ≡ None =
    no_step_there parts (trees l) (position_of_tree (λ (p : Placed). is_some (parts p)) l
    ∙ ((λ i. position (λ (q : Numbered). is_some (parts q.placed)) (sym c.deref.ensures.value i)) ∙ (sym c.first_compound.ensures ∙ c.in_default.is))) in
    let unready : position (λ (p : Placed). is_some (ready_in c.in_ok-vars.vars p.tree)) (trees l) ≡ None =
    position_of_tree (λ (p : Placed). is_some (ready_in c.in_ok-vars.vars p.tree)) l
    ∙ ((λ i. position (λ (q : Numbered). is_some (ready_in c.in_ok-vars.vars q.placed.tree)) (sym c.deref-3.ensures.value i)) ∙ (sym c.first_with_instance.ensures ∙ c.in-None.is)) in
    let alike = subst (λ (qs : List Numbered). IsAsReady c.in_ok-vars.vars (set.of_list (strongs_in_list (trees qs))) (trees qs)) c.deref-2.ensures.value c.in_ok-vars.ensures in
    c.taken.ensures.instance (trees l) c.requires.open_leaves whole ∙ no_step_there (instance_at vs) (trees l) (position_alike vs (trees l) ∙ (sym alike.place ∙ unready))
