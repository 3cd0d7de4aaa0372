-- The step at a list, and the proof by it, case by case.
use Rattle.std.proofs.Common.{◌≡◌, suc, ◌+◌, ◌<◌, List, [], ◌∷◌, ◌++◌, map, Option, Some, None, refl, ap, ◌∙◌, arith}
use Rattle.std.specs.Prelude.{option_map}
use Rattle.std.specs.List.{All, AllByRecursion}
use Rattle.std.proofs.lemmas.List.Elements.{All-from_recursion, recursion_from_All}
use Rattle.lk_rules.specs.declared.rule.Rule.{Rule}
use Rattle.proof_trees.specs.Trees.{Tree, node, none, more, size}
use Rattle.building_laws.specs.Lists.{Placed, conclusion, leaf_sequent, strongs_in_list, weight_of}
use Rattle.building_laws.specs.Building.{Step, or_else, closing_rule, closing, parts, instance_at, within, first_step, step_at, with_first, by_step, build, size_of, visits}
use Rattle.building_laws.proofs.Lower.{step_lighter}
use Rattle.building_laws.proofs.Unrolled.{build-unrolled}

-- the step that is taken

pub step_closes : (l : List Placed) (r : Rule) → closing_rule (leaf_sequent l) ≡ Some r → step_at l ≡ Some (closing r)
unfolding step_at
step_closes l r e = ap (λ o. or_else (option_map closing o) (or_else (first_step parts l) (first_step (instance_at (strongs_in_list l)) l))) e

pub step_parts : (l : List Placed) (t : Step) → closing_rule (leaf_sequent l) ≡ None → first_step parts l ≡ Some t → step_at l ≡ Some t
unfolding step_at
step_parts l t e h = λ i. or_else (option_map closing (e i)) (or_else (h i) (first_step (instance_at (strongs_in_list l)) l))

pub step_instance : (l : List Placed) → closing_rule (leaf_sequent l) ≡ None → first_step parts l ≡ None → step_at l ≡ first_step (instance_at (strongs_in_list l)) l
unfolding step_at
step_instance l e h = λ i. or_else (option_map closing (e i)) (or_else (h i) (first_step (instance_at (strongs_in_list l)) l))

module _ (at : Placed → Option Step) where
  after_first : (l front : List Placed) (p : Placed) (o u : Option Step) → at p ≡ None → o ≡ u
      → or_else (option_map (within (λ ps. ps ++ l)) (at p)) (option_map (within (λ ps. p ∷ ps)) o) ≡ option_map (within (λ ps. p ∷ ps)) u
  after_first l front p o u out same = λ i. or_else (option_map (within (λ ps. ps ++ l)) (out i)) (option_map (within (λ ps. p ∷ ps)) (same i))

  map_map : (f g h : List Placed → List Placed) → ((ps : List Placed) → f (g ps) ≡ h ps) → (pss : List (List Placed)) → map f (map g pss) ≡ map h pss
  map_map f g h same [] = refl
  map_map f g h same (ps ∷ pss) = λ i. same ps i ∷ map_map f g h same pss i

  step_first : (before : List Placed) (p : Placed) (after : List Placed) (t : Step) → AllByRecursion (λ q. at q ≡ None) before → at p ≡ Some t
      → first_step at (before ++ p ∷ after) ≡ Some (within (λ ps. before ++ (ps ++ after)) t)
  step_first [] p after t out e = ap (λ o. or_else (option_map (within (λ ps. ps ++ after)) o) (option_map (within (λ ps. p ∷ ps)) (first_step at after))) e
  step_first (q ∷ before) p after t out e =
      after_first (before ++ p ∷ after) before q (first_step at (before ++ p ∷ after)) (Some (within (λ ps. before ++ (ps ++ after)) t)) out.0 (step_first before p after t out.1 e)
      ∙ λ i. Some (record { rule = t.rule; premises = map_map (λ ps. q ∷ ps) (λ ps. before ++ (ps ++ after)) (λ ps. q ∷ (before ++ (ps ++ after))) (λ ps. refl) t.premises i })

  pub first_of : (before : List Placed) (p : Placed) (after : List Placed) (t : Step) → All (λ q. at q ≡ None) before → at p ≡ Some t
      → first_step at (before ++ p ∷ after) ≡ Some (within (λ ps. before ++ (ps ++ after)) t)
  first_of before p after t out e = step_first before p after t (recursion_from_All (λ q. at q ≡ None) before out) e

  no_first : (l : List Placed) → AllByRecursion (λ q. at q ≡ None) l → first_step at l ≡ None
  no_first [] out = refl
  no_first (p ∷ l) out = after_first l [] p (first_step at l) None out.0 (no_first l out.1)

  pub none_of : (l : List Placed) → All (λ q. at q ≡ None) l → first_step at l ≡ None
  none_of l out = no_first l (recursion_from_All (λ q. at q ≡ None) l out)

pub lighter : (l : List Placed) (t : Step) → step_at l ≡ Some t → All (λ m. weight_of m < weight_of l) t.premises
lighter l t e = All-from_recursion (λ m. weight_of m < weight_of l) t.premises (step_lighter l t e)

-- the proof by the step

by_that : (l : List Placed) (o : Option Step) → step_at l ≡ o → build l ≡ by_step build l o
by_that l o e = build-unrolled l ∙ ap (by_step build l) e

-- with its size
sized : (l : List Placed) (t : Tree) → build l ≡ Some t → (build l ≡ Some t) × (visits l ≡ size t)
sized l t e = (e, ap size_of e)

pub leaf_built : (l : List Placed) (r : Rule) → step_at l ≡ Some (closing r) → (build l ≡ Some (node r (conclusion l) none)) × (visits l ≡ 1)
leaf_built l r e = sized l (node r (conclusion l) none) (by_that l (Some (closing r)) e)

pub one_built : (l m : List Placed) (r : Rule) (t : Tree) → step_at l ≡ Some (record { rule = r; premises = m ∷ [] }) → build m ≡ Some t
    → (build l ≡ Some (node r (conclusion l) (more t none))) × (visits l ≡ suc (visits m))
one_built l m r t e h =
    let all : build l ≡ Some (node r (conclusion l) (more t none)) =
    by_that l (Some (record { rule = r; premises = m ∷ [] })) e ∙ ap (λ o. option_map (node r (conclusion l)) (with_first o (Some none))) h in
    let whole = (sized l (node r (conclusion l) (more t none)) all).1 in
    let part = (sized m t h).1 in
    (all, omega arith)

pub two_built : (l m k : List Placed) (r : Rule) (t u : Tree) → step_at l ≡ Some (record { rule = r; premises = m ∷ k ∷ [] }) → build m ≡ Some t → build k ≡ Some u
    → (build l ≡ Some (node r (conclusion l) (more t (more u none)))) × (visits l ≡ suc (visits m + visits k))
two_built l m k r t u e h g =
    let all : build l ≡ Some (node r (conclusion l) (more t (more u none))) =
    by_that l (Some (record { rule = r; premises = m ∷ k ∷ [] })) e ∙ λ i. option_map (node r (conclusion l)) (with_first (h i) (with_first (g i) (Some none))) in
    let whole = (sized l (node r (conclusion l) (more t (more u none))) all).1 in
    let first = (sized m t h).1 in
    let second = (sized k u g).1 in
    (all, omega arith)

pub not_built : (l : List Placed) → step_at l ≡ None → build l ≡ None
not_built l e = by_that l None e
