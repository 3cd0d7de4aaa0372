-- Trees that stand in a list, and their places.
use Rattle.std.proofs.Common.{◌≡◌, ℕ, ◌+◌, ◌<◌, zero, suc, Bool, true, false, ◌⊎◌, List, [], ◌∷◌, ◌++◌, map, length, cond, refl, sym, ap, ◌∙◌, subst, inl, inr, arith}
use Rattle.std.specs.Prelude.{Some, slice_get, slice_index, not}
use Rattle.std.specs.List.{All}
use Rattle.std.proofs.lemmas.List.{get_or_append_left}
use Rattle.std.proofs.lemmas.List.Elements.{All-nil, All-cons}
use Rattle.std.proofs.lemmas.Option.{slice_get_within, slice_get-get_or}
use Rattle.proof_trees.specs.Trees.{Tree, node, Trees, none, more, rule_of, concl, below}
use Rattle.proof_graph.specs.declared.node.Node.{Node}
use Rattle.step_laws.specs.Subtrees.{same_tree}
use Rattle.step_laws.specs.Places.{place, places, step_in}
use Rattle.proof_steps.specs.Listed.{IsIn, AllIn, ArePlaces, AreDistinct, key_in}
use Rattle.step_laws.proofs.SameTrees.{equal_of, same_itself}

pub some_same : {X : Type 0} (x y : X) → Some x ≡ Some y → x ≡ y
some_same x y h = cc

-- what stands in a list stands in a longer one at the same place
pub get_left : {X : Type 0} (xs ys : List X) (k : ℕ) (x : X) → slice_get xs k ≡ Some x → slice_get (xs ++ ys) k ≡ Some x
get_left [] ys k x h = cc
get_left (y ∷ xs) ys zero x h = h
get_left (y ∷ xs) ys (suc k) x h = get_left xs ys k x h

pub get_last : {X : Type 0} (xs : List X) (x : X) → slice_get (xs ++ x ∷ []) (length xs) ≡ Some x
get_last [] x = refl
get_last (y ∷ xs) x = get_last xs x

-- what stands in a list with one more at its end stood there or is the new one
pub get_cases : {X : Type 0} (xs : List X) (x : X) (k : ℕ) (y : X) → slice_get (xs ++ x ∷ []) k ≡ Some y → (slice_get xs k ≡ Some y) ⊎ ((k ≡ length xs) × (x ≡ y))
get_cases [] x zero y h = inr (refl, some_same x y h)
get_cases [] x (suc k) y h = cc
get_cases (z ∷ xs) x zero y h = inl h
get_cases (z ∷ xs) x (suc k) y h = elim (get_cases xs x k y h) [
  | inl before ↦ inl before
  | inr new ↦ inr (ap suc new.0, new.1)
]

pub in_left : (xs ys : List Tree) (t : Tree) → IsIn xs t → IsIn (xs ++ ys) t
in_left xs ys t h = (h.0, get_left xs ys h.0 t h.1)

pub all_in_left : (xs ys : List Tree) (ts : Trees) → AllIn xs ts → AllIn (xs ++ ys) ts
all_in_left xs ys none h = tt
all_in_left xs ys (more t ts) h = (in_left xs ys t h.0, all_in_left xs ys ts h.1)

place_is : (x : Tree) (xs : List Tree) (t : Tree) (b : Bool) → same_tree t x ≡ b → place (x ∷ xs) t ≡ cond (not b) (1 + place xs t) 0
place_is x xs t b is = ap (λ c. cond (not c) (1 + place xs t) 0) is

-- a tree that stands in a list stands at its place
pub place_there : (xs : List Tree) (t : Tree) (i : ℕ) → slice_get xs i ≡ Some t → slice_get xs (place xs t) ≡ Some t
place_there [] t i h = cc
place_there (x ∷ xs) t i h = by_test (same_tree t x) refl i h (place_there xs t)
  where
    by_test : (b : Bool) → same_tree t x ≡ b → (i : ℕ) → slice_get (x ∷ xs) i ≡ Some t → ((j : ℕ) → slice_get xs j ≡ Some t → slice_get xs (place xs t) ≡ Some t)
        → slice_get (x ∷ xs) (place (x ∷ xs) t) ≡ Some t
    by_test true is i h later = ap (slice_get (x ∷ xs)) (place_is x xs t true is) ∙ ap Some (sym (equal_of t x is))
    by_test false is zero h later =
        let same : x ≡ t = some_same x t h in
        let yes : same_tree t x ≡ true = subst (λ (u : Tree). same_tree t u ≡ true) (sym same) (same_itself t) in
        absurd (cc)
    by_test false is (suc i) h later =
        let next : 1 + place xs t ≡ suc (place xs t) = omega arith in
        ap (slice_get (x ∷ xs)) (place_is x xs t false is ∙ next) ∙ later i h

-- where trees are distinct, it stands nowhere else
pub place_of : (xs : List Tree) (t : Tree) (i : ℕ) → AreDistinct xs → slice_get xs i ≡ Some t → i ≡ place xs t
place_of xs t i distinct h = distinct i (place xs t) t h (place_there xs t i h)

-- a longer list has the tree at the same place
pub place_left : (xs ys : List Tree) (t : Tree) (i : ℕ) → slice_get xs i ≡ Some t → place (xs ++ ys) t ≡ place xs t
place_left [] ys t i h = cc
place_left (x ∷ xs) ys t i h = by_test (same_tree t x) refl i h (place_left xs ys t)
  where
    by_test : (b : Bool) → same_tree t x ≡ b → (i : ℕ) → slice_get (x ∷ xs) i ≡ Some t → ((j : ℕ) → slice_get xs j ≡ Some t → place (xs ++ ys) t ≡ place xs t)
        → place ((x ∷ xs) ++ ys) t ≡ place (x ∷ xs) t
    by_test true is i h later = place_is x (xs ++ ys) t true is ∙ sym (place_is x xs t true is)
    by_test false is zero h later =
        let same : x ≡ t = some_same x t h in
        let yes : same_tree t x ≡ true = subst (λ (u : Tree). same_tree t u ≡ true) (sym same) (same_itself t) in
        absurd (cc)
    by_test false is (suc i) h later = place_is x (xs ++ ys) t false is ∙ ap (λ n. 1 + n) (later i h) ∙ sym (place_is x xs t false is)

pub places_left : (xs ys : List Tree) (ts : Trees) → AllIn xs ts → places (xs ++ ys) ts ≡ places xs ts
places_left xs ys none h = refl
places_left xs ys (more t ts) h = λ i. place_left xs ys t h.0.0 h.0.1 i ∷ places_left xs ys ts h.1 i

pub step_left : (xs ys : List Tree) (t : Tree) → AllIn xs (below t) → step_in (xs ++ ys) t ≡ step_in xs t
step_left xs ys t h = λ i. record { rule = rule_of t; premises = places_left xs ys (below t) h i; end = concl t }

-- trees with the same places are the same
place_back : (xs : List Tree) (t u : Tree) → IsIn xs t → IsIn xs u → place xs t ≡ place xs u → t ≡ u
place_back xs t u in_t in_u same =
    some_same t u (sym (place_there xs t in_t.0 in_t.1) ∙ ap (slice_get xs) same ∙ place_there xs u in_u.0 in_u.1)

head_same : (m n : ℕ) (ms ns : List ℕ) → ◌≡◌ {A = List ℕ} (m ∷ ms) (n ∷ ns) → m ≡ n
head_same m n ms ns h = cc

tail_same : (m n : ℕ) (ms ns : List ℕ) → ◌≡◌ {A = List ℕ} (m ∷ ms) (n ∷ ns) → ms ≡ ns
tail_same m n ms ns h = cc

tree_parts : (t : Tree) → node (rule_of t) (concl t) (below t) ≡ t
tree_parts (node r s ts) = refl

-- trees, and the numbers of the references that stand for them
module _ (xs : List Tree) (ns : List ℕ) (many : length ns ≡ length xs) where
  within : (t : Tree) → IsIn xs t → place xs t < length ns
  within t h = let below_all = slice_get_within xs (place xs t) t (place_there xs t h.0 h.1) in omega (arith, below_all, many)

  -- longer lists have the same number for a tree
  numbers_left : (ys : List Tree) (ms : List ℕ) (ts : Trees) → AllIn xs ts → map (slice_index (ns ++ ms)) (places (xs ++ ys) ts) ≡ map (slice_index ns) (places xs ts)
  numbers_left ys ms none h = refl
  numbers_left ys ms (more t ts) h =
      let here : slice_index (ns ++ ms) (place (xs ++ ys) t) ≡ slice_index ns (place xs t) =
      ap (slice_index (ns ++ ms)) (place_left xs ys t h.0.0 h.0.1) ∙ get_or_append_left ns ms 0 (place xs t) (within t h.0) in
      λ i. here i ∷ numbers_left ys ms ts h.1 i

  pub key_left : (ys : List Tree) (ms : List ℕ) (t : Tree) → AllIn xs (below t) → key_in (xs ++ ys) (ns ++ ms) t ≡ key_in xs ns t
  key_left ys ms t h = λ i. record { rule = rule_of t; end = concl t; premises = numbers_left ys ms (below t) h i }

  module _ (distinct : AreDistinct ns) where
    -- trees with the same number are the same
    number_back : (t u : Tree) → IsIn xs t → IsIn xs u → slice_index ns (place xs t) ≡ slice_index ns (place xs u) → t ≡ u
    number_back t u in_t in_u same =
        let at_t = slice_get-get_or ns (place xs t) 0 (within t in_t) in
        let at_u = slice_get-get_or ns (place xs u) 0 (within u in_u) in
        place_back xs t u in_t in_u (distinct (place xs t) (place xs u) (slice_index ns (place xs t)) at_t (at_u ∙ ap Some (sym same)))

    numbers_back : (ts us : Trees) → AllIn xs ts → AllIn xs us → map (slice_index ns) (places xs ts) ≡ map (slice_index ns) (places xs us) → ts ≡ us
    numbers_back none none in_ts in_us h = refl
    numbers_back none (more u us) in_ts in_us h = cc
    numbers_back (more t ts) none in_ts in_us h = cc
    numbers_back (more t ts) (more u us) in_ts in_us h =
        let first = number_back t u in_ts.0 in_us.0 (head_same _ _ (map (slice_index ns) (places xs ts)) (map (slice_index ns) (places xs us)) h) in
        let later = numbers_back ts us in_ts.1 in_us.1 (tail_same (slice_index ns (place xs t)) (slice_index ns (place xs u)) _ _ h) in
        λ i. more (first i) (later i)

    -- trees with the same key are the same, where those of their premises stand in the list
    pub key_back : (t u : Tree) → AllIn xs (below t) → AllIn xs (below u) → key_in xs ns t ≡ key_in xs ns u → t ≡ u
    key_back t u in_t in_u same =
        let premises = numbers_back (below t) (below u) in_t in_u (ap (λ (n : Node). n.premises) same) in
        sym (tree_parts t) ∙ (λ i. node (same i).rule (same i).end (premises i)) ∙ tree_parts u

-- the places of trees are those at which they stand
pub places_are : (xs : List Tree) → AreDistinct xs → (is : List ℕ) (ts : Trees) → ArePlaces xs is ts → is ≡ places xs ts
places_are xs distinct [] none h = refl
places_are xs distinct [] (more t ts) h = absurd h
places_are xs distinct (i ∷ is) none h = absurd h
places_are xs distinct (i ∷ is) (more t ts) h = λ j. place_of xs t i distinct h.0 j ∷ places_are xs distinct is ts h.1 j

pub all_in_places : (xs : List Tree) (is : List ℕ) (ts : Trees) → ArePlaces xs is ts → AllIn xs ts
all_in_places xs [] none h = tt
all_in_places xs [] (more t ts) h = absurd h
all_in_places xs (i ∷ is) none h = absurd h
all_in_places xs (i ∷ is) (more t ts) h = ((i, h.0), all_in_places xs is ts h.1)

pub places_within : (xs : List Tree) (is : List ℕ) (ts : Trees) → ArePlaces xs is ts → All (λ i. i < length xs) is
places_within xs [] ts h = All-nil (λ i. i < length xs)
places_within xs (i ∷ is) none h = absurd h
places_within xs (i ∷ is) (more t ts) h = All-cons (λ i. i < length xs) i is (slice_get_within xs i t h.0) (places_within xs is ts h.1)
