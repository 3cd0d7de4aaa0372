-- The trees of the steps that a step names, against their end sequents.
use Rattle.std.proofs.Common.{◌≡◌, ℕ, ◌<◌, ◌≤◌, zero, suc, List, [], ◌∷◌, map, take, length, refl, sym, ap, ◌∙◌, subst, inl, inr, arith}
use Rattle.std.specs.Prelude.{Option, Some, None, option_map, slice_get, Result, Ok, Err, IsOk}
use Rattle.std.specs.List.{All, filter_map, cons_option}
use Rattle.std.proofs.lemmas.List.{length-map, length-take-le}
use Rattle.std.proofs.lemmas.List.Elements.{All-nil, All-cons, All-head, All-tail}
use Rattle.std.proofs.lemmas.Option.{slice_get-map, slice_get_cases}
use Rattle.lk_rules.specs.declared.sequent.Sequent.{Sequent}
use Rattle.lk_rules.specs.declared.rule.Step.{Step}
use Rattle.lk_rules.specs.declared.inference.RuleFault.{RuleFault}
use Rattle.lk_rules.specs.Rules.{IsFormedRule, verdict_of}
use Rattle.lk_rules.proofs.Rows.{row_back}
use Rattle.proof_trees.specs.Trees.{Tree, concl, below, count, first_end, second_end, IsInference}
use Rattle.proof_trees.specs.TreeLists.{trees}
use Rattle.step_laws.specs.Checking.{premise_end, IsRight}

cons_map : {X Y : Type 0} (f : X → Y) (o : Option X) (xs : List X) → map f (cons_option o xs) ≡ cons_option (option_map f o) (map f xs)
cons_map f None xs = refl
cons_map f (Some x) xs = refl

-- the images of what is picked are picked from the images
pub map-picked : {X Y : Type 0} (f : X → Y) (xs : List X) (ps : List ℕ) → map f (filter_map (slice_get xs) ps) ≡ filter_map (slice_get (map f xs)) ps
map-picked f xs [] = refl
map-picked f xs (p ∷ ps) = cons_map f (slice_get xs p) (filter_map (slice_get xs) ps) ∙ (λ i. cons_option (sym (slice_get-map f xs p) i) (map-picked f xs ps i))

there : {X : Type 0} (xs : List X) (p : ℕ) → p < length xs → (x : X) × (slice_get xs p ≡ Some x)
there xs p within = elim (slice_get_cases xs p).1 [
  | inl found ↦ (found.0, found.2)
  | inr past ↦ absurd (omega (arith, past.0))
]

-- as many are picked as there are places
length-picked : {X : Type 0} (xs : List X) (ps : List ℕ) → All (λ p. p < length xs) ps → length (filter_map (slice_get xs) ps) ≡ length ps
length-picked xs [] all = refl
length-picked xs (p ∷ ps) all =
    let found = there xs p (All-head (λ q. q < length xs) p ps all) in
    ap (λ o. length (cons_option o (filter_map (slice_get xs) ps))) found.1 ∙ ap suc (length-picked xs ps (All-tail (λ q. q < length xs) p ps all))

count-trees : (ts : List Tree) → count (trees ts) ≡ length ts
count-trees [] = refl
count-trees (t ∷ ts) = ap suc (count-trees ts)

first_end-trees : (ts : List Tree) → first_end (trees ts) ≡ option_map concl (slice_get ts 0)
first_end-trees [] = refl
first_end-trees (t ∷ ts) = refl

second_end-trees : (ts : List Tree) → second_end (trees ts) ≡ option_map concl (slice_get ts 1)
second_end-trees [] = refl
second_end-trees (t ∷ ts) = first_end-trees ts

slice_get-take : {X : Type 0} (xs : List X) (i p : ℕ) → p < i → slice_get (take i xs) p ≡ slice_get xs p
slice_get-take [] zero p h = absurd (omega arith)
slice_get-take [] (suc i) p h = refl
slice_get-take (x ∷ xs) zero p h = absurd (omega arith)
slice_get-take (x ∷ xs) (suc i) zero h = refl
slice_get-take (x ∷ xs) (suc i) (suc p) h = slice_get-take xs i p (omega arith)

module _ (steps : List Step) (i : ℕ) (within : i ≤ length steps) (ts : List Tree) (ends : map concl ts ≡ map (λ (s : Step). s.end) (take i steps)) where
  as_many : length ts ≡ i
  as_many = sym (length-map ts concl) ∙ ap length ends ∙ length-map (take i steps) (λ (s : Step). s.end) ∙ length-take-le i steps within

  end_at : (p : ℕ) → p < i → option_map concl (slice_get ts p) ≡ option_map (λ (s : Step). s.end) (slice_get steps p)
  end_at p below =
      sym (slice_get-map concl ts p) ∙ ap (λ (es : List Sequent). slice_get es p) ends ∙ slice_get-map (λ (s : Step). s.end) (take i steps) p
      ∙ ap (option_map (λ (s : Step). s.end)) (slice_get-take steps i p below)

  -- the end sequents of what is picked are those of the steps that are named
  picked_end : (ps : List ℕ) → All (λ p. p < i) ps → (k : ℕ) → option_map concl (slice_get (filter_map (slice_get ts) ps) k) ≡ premise_end steps ps k
  picked_end [] all k = refl
  picked_end (p ∷ ps) all zero =
      let below = All-head (λ q. q < i) p ps all in
      let found = there ts p (let many = as_many in omega arith) in
      ap (λ o. option_map concl (slice_get (cons_option o (filter_map (slice_get ts) ps)) 0)) found.1 ∙ sym (ap (option_map concl) found.1) ∙ end_at p below
  picked_end (p ∷ ps) all (suc k) =
      let below = All-head (λ q. q < i) p ps all in
      let found = there ts p (let many = as_many in omega arith) in
      ap (λ o. option_map concl (slice_get (cons_option o (filter_map (slice_get ts) ps)) (suc k))) found.1 ∙ picked_end ps (All-tail (λ q. q < i) p ps all) k

  ok_is : (v : Result (Unit {0}) RuleFault) → IsOk v → v ≡ Ok tt
  ok_is (Ok u) h = refl
  ok_is (Err e) h = cc

  -- a right step is a right inference over the trees that it names
  pub right_inference : (step : Step) → IsRight steps i step → IsFormedRule step.rule → IsInference step.rule step.end (trees (filter_map (slice_get ts) step.premises))
  right_inference step right formed =
      let picked = filter_map (slice_get ts) step.premises in
      let all : All (λ p. p < length ts) step.premises = subst (λ (n : ℕ). All (λ p. p < n) step.premises) (sym as_many) right.earlier in
      let many : count (trees picked) ≡ length step.premises = count-trees picked ∙ length-picked ts step.premises all in
      let first : first_end (trees picked) ≡ premise_end steps step.premises 0 = first_end-trees picked ∙ picked_end step.premises right.earlier 0 in
      let second : second_end (trees picked) ≡ premise_end steps step.premises 1 = second_end-trees picked ∙ picked_end step.premises right.earlier 1 in
      record {
        right = (λ j. verdict_of step.rule step.end (many j) (first j) (second j)) ∙ ok_is _ (row_back step.rule step.end (length step.premises) (premise_end steps step.premises 0) (premise_end steps step.premises 1) right.row);
        formed = formed;
      }

-- what holds of all holds of what is picked
pub all_picked : {X : Type 0} (P : X → Type 0) (xs : List X) (ps : List ℕ) → All P xs → All P (filter_map (slice_get xs) ps)
all_picked P xs [] all = All-nil P
all_picked P xs (p ∷ ps) all = elim (slice_get_cases xs p).1 [
  | inl found ↦
      subst (λ o. All P (cons_option o (filter_map (slice_get xs) ps))) (sym found.2)
      (All-cons P found.0 (filter_map (slice_get xs) ps) (subst P found.3 (all p found.0 found.1)) (all_picked P xs ps all))
  | inr past ↦ subst (λ o. All P (cons_option o (filter_map (slice_get xs) ps))) (sym past.1) (all_picked P xs ps all)
]
