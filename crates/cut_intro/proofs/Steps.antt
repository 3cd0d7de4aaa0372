-- One more element of a list, in the lists that are made of it.
use Rattle.std.proofs.Common.{◌≡◌, ℕ, ◌+◌, ◌<◌, List, [], ◌∷◌, ◌++◌, map, take, drop, length, get_or, refl, sym, ap, ◌∙◌}
use Rattle.std.specs.List.{flat_map}
use Rattle.std.proofs.lemmas.List.{flat_map_more, take_more, drop_more, map_more, map-append, append_assoc, take-append-drop}
use Rattle.fol.specs.Syntax.{Terms, Formula}
use Rattle.lk_rules.specs.declared.rule.Rule.{Rule}
use Rattle.lk_rules.specs.declared.sequent.Side.{Side}
use Rattle.herbrand_laws.specs.Herbrand.{Item}
use Rattle.herbrand_laws.specs.Introduction as introduction
use Rattle.herbrand_laws.specs.Introduction.{by_tuple, rules_by, rules_for, chained, instances_by}
use Rattle.cut_intro.specs.declared.instance.Instance.{Instance}
use Rattle.cut_intro.specs.Instances.{of_tuple, meant, claim}

module _ {X : Type 0} (xs : List X) (i : ℕ) (x : X) (within : i < length xs) (is : x ≡ get_or xs i x) where
  -- the elements up to one, and the whole around it
  pub take_one : take (i + 1) xs ≡ take i xs ++ x ∷ []
  take_one = take_more xs i x within ∙ ap (λ y. take i xs ++ y ∷ []) (sym is)

  pub drop_one : drop i xs ≡ x ∷ drop (i + 1) xs
  drop_one = drop_more xs i x within ∙ ap (λ y. y ∷ drop (i + 1) xs) (sym is)

  pub around_one : xs ≡ take i xs ++ (x ∷ drop (i + 1) xs)
  around_one = sym (take-append-drop i xs) ∙ ap (λ ys. take i xs ++ ys) drop_one

  -- what is made of each
  pub flat_map_one : {Y : Type 0} (f : X → List Y) (start : List Y) → (start ++ flat_map f (take i xs)) ++ f x ≡ start ++ flat_map f (take (i + 1) xs)
  flat_map_one f start = flat_map_more f start (take i xs) x ∙ ap (λ ys. start ++ flat_map f ys) (sym take_one)

  pub map_one : {Y : Type 0} (f : X → Y) → map f (take (i + 1) xs) ≡ map f (take i xs) ++ f x ∷ []
  map_one f = ap (map f) take_one ∙ map-append f (take i xs) (x ∷ [])

-- the rules for one more instance
pub rules_one : (js : List Instance) (i : ℕ) (j : Instance) → i < length js → j ≡ get_or js i j → (start rules : List Rule) → rules ≡ start ++ rules_for (map meant (take i js))
    → rules ++ rules_by j.side j.formula j.tuple ≡ start ++ rules_for (map meant (take (i + 1) js))
rules_one js i j within is start rules so_far =
    ap (λ rs. rs ++ rules_by j.side j.formula j.tuple) so_far
    ∙ (flat_map_more (λ (k : introduction.Instance). rules_by k.side k.formula k.tuple) start (map meant (take i js)) (meant j)
    ∙ ap (λ ks. start ++ rules_for ks) (sym (map_one js i j within is meant)))

-- what one more instance says
pub claim_one : (js : List Instance) (i : ℕ) (j : Instance) → i < length js → j ≡ get_or js i j → (front : Formula) → chained front (map claim (drop i js)) ≡ chained front (claim j ∷ map claim (drop (i + 1) js))
claim_one js i j within is front = ap (λ ks. chained front (map claim ks)) (drop_one js i j within is)

-- the instances of a formula by tuples
meant_each : (side : Side) (f : Formula) (uss : List Terms) (i : Item) → i.side ≡ side → i.formula ≡ f → map meant (map (of_tuple side f) uss) ≡ map (by_tuple i) uss
meant_each side f [] i s e = refl
meant_each side f (us ∷ uss) i s e = λ k. record { side = sym s k; formula = sym e k; tuple = us } ∷ meant_each side f uss i s e k

pub meant_more : (js new : List Instance) (side : Side) (f : Formula) (uss : List Terms) (i : Item) → i.side ≡ side → i.formula ≡ f → new ≡ js ++ map (of_tuple side f) uss → map meant new ≡ map meant js ++ map (by_tuple i) uss
meant_more js new side f uss i s e is =
    ap (map meant) is ∙ (map-append meant js (map (of_tuple side f) uss) ∙ ap (λ ks. map meant js ++ ks) (meant_each side f uss i s e))
