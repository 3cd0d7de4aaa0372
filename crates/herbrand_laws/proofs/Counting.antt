-- How many rules there are for instances.
use Rattle.std.proofs.Common.{◌≡◌, ℕ, ◌+◌, ◌*◌, List, [], ◌∷◌, map, length, refl, sym, ap, ◌∙◌, arith}
use Rattle.std.specs.List.{All, sum_by}
use Rattle.std.proofs.lemmas.List.{length-map}
use Rattle.std.proofs.lemmas.List.Concat.{length-flat_map}
use Rattle.std.proofs.lemmas.List.Elements.{All-head, All-tail}
use Rattle.std.proofs.lemmas.List.Sums.{sum_by-cons, sum_by-append}
use Rattle.fol.specs.Syntax.{Term, Terms}
use Rattle.finite.specs.Finite as set
use Rattle.lk_rules.specs.declared.sequent.Sequent.{Sequent}
use Rattle.herbrand_laws.specs.Herbrand.{prefix, Item, quantifiers}
use Rattle.herbrand_laws.specs.Patterns.{put, TermSet}
use Rattle.herbrand_laws.specs.Candidates.{patterns, rest, cost}
use Rattle.herbrand_laws.specs.Introduction.{Instance, by_tuple, instances_by, instances_at, rules_by, rules_for}
use Rattle.herbrand_laws.proofs.Instances.{IsInstance, rules_counted}

-- how many quantifiers an instance's formula has
abbrev prefix_of : Instance → ℕ
prefix_of j = prefix j.side j.formula

-- there is a rule for each quantifier of each instance
rules_total : (s : Sequent) (js : List Instance) → All (IsInstance s) js → length (rules_for js) ≡ sum_by prefix_of js
rules_total s js h = length-flat_map (λ j. rules_by j.side j.formula j.tuple) js ∙ each s js h
  where
    each : (s : Sequent) (js : List Instance) → All (IsInstance s) js → sum_by (λ j. length (rules_by j.side j.formula j.tuple)) js ≡ sum_by prefix_of js
    each s [] h = refl
    each s (j ∷ js) h =
        sum_by-cons (λ j. length (rules_by j.side j.formula j.tuple)) j js
        ∙ ((λ i. (rules_counted j.side j.tuple j.formula ∙ (All-head (IsInstance s) j js h).counted) i + each s js (All-tail (IsInstance s) j js h) i)
        ∙ sym (sum_by-cons prefix_of j js))

-- as many for each tuple of an item as its formula has quantifiers
item_total : (i : Item) (uss : List Terms) → sum_by prefix_of (map (by_tuple i) uss) ≡ quantifiers i * length uss
item_total i [] = omega arith
item_total i (us ∷ uss) =
    let one = sum_by-cons prefix_of (by_tuple i us) (map (by_tuple i) uss) in
    let later = item_total i uss in
    omega arith

items_total : (pick : Item → List Terms) (items : List Item) → sum_by prefix_of (instances_by pick items) ≡ sum_by (λ i. quantifiers i * length (pick i)) items
items_total pick [] = refl
items_total pick (i ∷ items) =
    sum_by-append prefix_of (map (by_tuple i) (pick i)) (instances_by pick items)
    ∙ ((λ k. item_total i (pick i) k + items_total pick items k)
    ∙ sym (sum_by-cons (λ j. quantifiers j * length (pick j)) i items))

-- a sum of sums
parts_total : (f a b : Item → ℕ) (items : List Item) → sum_by (λ i. f i * (a i + b i)) items ≡ sum_by (λ i. f i * a i) items + sum_by (λ i. f i * b i) items
parts_total f a b [] = omega arith
parts_total f a b (i ∷ items) =
    let whole = sum_by-cons (λ j. f j * (a j + b j)) i items in
    let first = sum_by-cons (λ j. f j * a j) i items in
    let second = sum_by-cons (λ j. f j * b j) i items in
    let later = parts_total f a b items in
    omega arith

same_sums : (f g : Item → ℕ) → ((i : Item) → f i ≡ g i) → (items : List Item) → sum_by f items ≡ sum_by g items
same_sums f g h items = λ k. sum_by (λ i. h i k) items

-- the rules for the patterns and for the rest, and the values and the variable, are as many as the cost says
pub rules_cost : (s : Sequent) (width : ℕ) (items : List Item) (w : TermSet) (t : Term) → All (IsInstance s) (instances_at width items w t) → All (IsInstance s) (instances_by (rest width w) items)
    → 1 + length (set.listing w) + (length (rules_for (instances_at width items w t)) + length (rules_for (instances_by (rest width w) items))) ≡ cost width items w
rules_cost s width items w t h g =
    let left = rules_total s (instances_at width items w t) h ∙ (items_total (λ i. map (λ p. put p t) (patterns width w i)) items
    ∙ same_sums (λ i. quantifiers i * length (map (λ p. put p t) (patterns width w i))) (λ i. quantifiers i * length (patterns width w i)) (λ i. ap (λ n. quantifiers i * n) (length-map (patterns width w i) (λ p. put p t))) items) in
    let right = rules_total s (instances_by (rest width w) items) g ∙ items_total (rest width w) items in
    let both = parts_total quantifiers (λ i. length (patterns width w i)) (λ i. length (rest width w i)) items in
    (λ k. 1 + length (set.listing w) + (left k + right k)) ∙ ap (λ n. 1 + length (set.listing w) + n) (sym both)
