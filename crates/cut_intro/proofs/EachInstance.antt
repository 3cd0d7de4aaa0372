-- The instances of one more item.
use Rattle.std.proofs.Common.{◌≡◌, ℕ, ◌+◌, ◌<◌, List, [], ◌∷◌, ◌++◌, map, length, take, get_or, append-nil, append_assoc, sym, ap, ◌∙◌, arith}
use Rattle.std.proofs.lemmas.List.{length-take-le, length-map}
use Rattle.fol.specs.Syntax.{Term, Terms, Formula}
use Rattle.lk_rules.specs.declared.sequent.Side.{Side}
use Rattle.herbrand_laws.specs.Herbrand.{Item}
use Rattle.herbrand_laws.specs.Patterns.{put}
use Rattle.herbrand_laws.specs.Introduction.{by_tuple, instances_by}
use Rattle.cut_intro.specs.declared.instance.Instance.{Instance}
use Rattle.cut_intro.specs.Instances.{of_tuple, meant, instances_of_each}
use Rattle.cut_intro.proofs.Steps.{take_one, map_one, flat_map_one, meant_more}

pub each_more : (items : List Item) (usss : List (List Terms)) (i : Item) (uss : List Terms) → length items ≡ length usss → instances_of_each (items ++ i ∷ []) (usss ++ uss ∷ []) ≡ instances_of_each items usss ++ map (by_tuple i) uss
each_more [] [] i uss e = append-nil (map (by_tuple i) uss)
each_more [] (vss ∷ usss) i uss e = absurd (omega arith)
each_more (j ∷ items) [] i uss e = absurd (omega arith)
each_more (j ∷ items) (vss ∷ usss) i uss e =
    let here = map (by_tuple j) vss in
    let later : length items ≡ length usss = omega arith in
    ap (λ js. here ++ js) (each_more items usss i uss later) ∙ sym (append_assoc here (instances_of_each items usss) (map (by_tuple i) uss))

-- the instances by patterns with a term, for one more item
module _ (items : List Item) (pss : List (List Terms)) (i : ℕ) (item : Item) (ps : List Terms) (in_items : i < length items) (is_item : item ≡ get_or items i item) (in_patterns : i < length pss) (is_ps : ps ≡ get_or pss i ps) (t : Term) where
  abbrev filled : List Terms → List Terms
  filled qs = map (λ p. put p t) qs

  as_many : length (take i items) ≡ length (map filled (take i pss))
  as_many =
      let first : length (take i items) ≡ i = length-take-le i items (omega arith) in
      let second : length (take i pss) ≡ i = length-take-le i pss (omega arith) in
      let mapped = length-map (take i pss) filled in
      omega arith

  pub each_one : (js new : List Instance) (side : Side) (f : Formula) (uss : List Terms) → map meant js ≡ instances_of_each (take i items) (map filled (take i pss)) → item.side ≡ side → item.formula ≡ f → uss ≡ filled ps
      → new ≡ js ++ map (of_tuple side f) uss → map meant new ≡ instances_of_each (take (i + 1) items) (map filled (take (i + 1) pss))
  each_one js new side f uss so_far is_side is_formula is_uss is =
      meant_more js new side f uss item is_side is_formula is
      ∙ ((λ k. so_far k ++ map (by_tuple item) (is_uss k))
      ∙ (sym (each_more (take i items) (map filled (take i pss)) item (filled ps) as_many)
      ∙ λ k. instances_of_each (sym (take_one items i item in_items is_item) k) (sym (map_one pss i ps in_patterns is_ps filled) k)))

-- and those by its tuples
pub by_tuples_one : (items : List Item) (i : ℕ) (item : Item) → i < length items → item ≡ get_or items i item → (js new : List Instance) (side : Side) (f : Formula) (uss : List Terms)
    → map meant js ≡ instances_by (λ j. j.tuples) (take i items) → item.side ≡ side → item.formula ≡ f → uss ≡ item.tuples → new ≡ js ++ map (of_tuple side f) uss → map meant new ≡ instances_by (λ j. j.tuples) (take (i + 1) items)
by_tuples_one items i item within is_item js new side f uss so_far is_side is_formula is_uss is =
    meant_more js new side f uss item is_side is_formula is
    ∙ ((λ k. so_far k ++ map (by_tuple item) (is_uss k))
    ∙ flat_map_one items i item within is_item (λ j. map (by_tuple j) j.tuples) [])
