-- The proof of a list is by its step and the proofs of the premises. It has one inference more than those.
use Rattle.std.proofs.Common.{◌≡◌, ◌+◌, List, [], ◌∷◌, Some, refl, sym, ap, ◌∙◌}
use Rattle.std.specs.Prelude.{option_map}
use Rattle.std.specs.List.{All}
use Rattle.std.proofs.lemmas.List.Elements.{All-head, All-tail}
use Rattle.proof_trees.specs.Trees.{Tree, Trees, node, none, more, concl, IsValid, IsCutFree}
use Rattle.building_laws.specs.Lists.{Placed, conclusion}
use Rattle.building_laws.specs.Building.{Step, with_first, build_each, by_step, step_at, build, size_of, visits}
use Rattle.building_laws.specs.Buildable.{IsBuildable}
use Rattle.arena_building.specs.Building.{sizes, visits_each}

pub by_its_step : (l : List Placed) (t : Step) → build l ≡ by_step build l (step_at l) → step_at l ≡ Some t → build l ≡ option_map (node t.rule (conclusion l)) (build_each build t.premises)
by_its_step l t e h = e ∙ ap (by_step build l) h

module _ (built : (m : List Placed) → IsBuildable m → (t : Tree) × (build m ≡ Some t) × (concl t ≡ conclusion m) × IsValid t × IsCutFree t) where
  each_counted : (ms : List (List Placed)) → All IsBuildable ms → (ts : Trees) × (build_each build ms ≡ Some ts) × (sizes ts ≡ visits_each ms)
  each_counted [] h = (none, refl, refl)
  each_counted (m ∷ ms) h =
      let one = built m (All-head IsBuildable m ms h) in
      let others = each_counted ms (All-tail IsBuildable m ms h) in
      (more one.0 others.0, (λ i. with_first (one.1 i) (others.1 i)), (λ i. sym (ap size_of one.1) i + others.2 i))

  pub visits_by_step : (l : List Placed) (t : Step) → build l ≡ by_step build l (step_at l) → step_at l ≡ Some t → All IsBuildable t.premises → visits l ≡ 1 + visits_each t.premises
  visits_by_step l t e step h =
      let each = each_counted t.premises h in
      ap size_of (by_its_step l t e step ∙ ap (option_map (node t.rule (conclusion l))) each.1) ∙ ap (λ n. 1 + n) each.2
