-- The steps of a valid tree are a proof.
use Rattle.std.proofs.Common.{◌≡◌, ℕ, zero, suc, ◌<◌, ◌≤◌, List, [], ◌∷◌, ◌++◌, map, take, drop, length, refl, sym, ap, ◌∙◌, subst, inl, inr, arith, take-append-drop}
use Rattle.std.specs.Prelude.{Option, Some, None, option_map, slice_get, Result, Ok, IsOk}
use Rattle.std.specs.List.{All}
use Rattle.std.proofs.lemmas.List.Elements.{All-nil, All-cons}
use Rattle.std.proofs.lemmas.Option.{slice_get-map, slice_get_within}
use Rattle.lk_rules.specs.declared.rule.Step.{Step}
use Rattle.lk_rules.specs.declared.inference.RuleFault.{RuleFault}
use Rattle.lk_rules.specs.Rules.{verdict_of}
use Rattle.lk_rules.proofs.Rows.{row_of}
use Rattle.proof_trees.specs.Trees.{Tree, node, Trees, none, more, concl, count, first_end, second_end, IsValid, AllValid}
use Rattle.step_laws.specs.Checking.{premise_end, IsRight, IsProof}
use Rattle.step_laws.specs.Subtrees.{subtrees, subtrees_all, appended, appended_each, distinct_subtrees}
use Rattle.step_laws.specs.Places.{place, places, step_in, steps_of}
use Rattle.proof_steps.specs.Listed.{IsIn, AllIn}
use Rattle.proof_steps.proofs.Standing.{some_same, get_cases, all_in_left, place_there, place_left}
use Rattle.proof_steps.proofs.Appending.{each-append, subtrees_root}
use Rattle.proof_steps.proofs.RoundTrip.{by_appended, IsOrdered, ordered_subtrees}

-- each tree of a list is valid
abbrev AreValid : List Tree → Type 0
AreValid xs = (i : ℕ) (u : Tree) → slice_get xs i ≡ Some u → IsValid u

valid_appended : (xs : List Tree) (t : Tree) → AreValid xs → IsValid t → AreValid (appended xs t)
valid_appended xs t valid here =
    by_appended AreValid xs t (λ there. valid) (λ new i u there. elim (get_cases xs t i u there) [
      | inl old ↦ valid i u old
      | inr last ↦ subst IsValid last.1 here
    ])

mutual
  valid_subtrees : (xs : List Tree) (t : Tree) → AreValid xs → IsValid t → AreValid (appended_each xs (subtrees t))
  valid_subtrees xs (node r s ts) valid here =
      subst AreValid (sym (subtrees_root xs (node r s ts)))
      (valid_appended (appended_each xs (subtrees_all ts)) (node r s ts) (valid_all xs ts valid here.1) here)

  valid_all : (xs : List Tree) (ts : Trees) → AreValid xs → AllValid ts → AreValid (appended_each xs (subtrees_all ts))
  valid_all xs none valid here = valid
  valid_all xs (more t ts) valid here =
      subst AreValid (sym (each-append xs (subtrees t) (subtrees_all ts)))
      (valid_all (appended_each xs (subtrees t)) ts (valid_subtrees xs t valid here.0) here.1)

length-places : (xs : List Tree) (ts : Trees) → length (places xs ts) ≡ count ts
length-places xs none = refl
length-places xs (more t ts) = ap suc (length-places xs ts)

-- the places of trees that stand among the first are below
place_below : (xs : List Tree) (i : ℕ) (t : Tree) → IsIn (take i xs) t → place xs t < length (take i xs)
place_below xs i t there =
    let same : place (take i xs ++ drop i xs) t ≡ place (take i xs) t = place_left (take i xs) (drop i xs) t there.0 there.1 in
    let whole : take i xs ++ drop i xs ≡ xs = take-append-drop i xs in
    let here : place xs t ≡ place (take i xs) t = ap (λ (ys : List Tree). place ys t) (sym whole) ∙ same in
    let within = slice_get_within (take i xs) (place (take i xs) t) t (place_there (take i xs) t there.0 there.1) in
    omega arith

length-take-most : {X : Type 0} (i : ℕ) (xs : List X) → length (take i xs) ≤ i
length-take-most zero xs = omega arith
length-take-most (suc i) [] = omega arith
length-take-most (suc i) (x ∷ xs) = let rest = length-take-most i xs in omega arith

places_below : (xs : List Tree) (i : ℕ) (ts : Trees) → AllIn (take i xs) ts → All (λ p. p < i) (places xs ts)
places_below xs i none h = All-nil (λ p. p < i)
places_below xs i (more t ts) h =
    let first = place_below xs i t h.0 in
    let most = length-take-most i xs in
    All-cons (λ p. p < i) (place xs t) (places xs ts) (omega arith) (places_below xs i ts h.1)

-- the end sequents of the steps that are named are those of the trees
end_there : (xs : List Tree) (t : Tree) → IsIn xs t → option_map (λ (s : Step). s.end) (slice_get (map (step_in xs) xs) (place xs t)) ≡ Some (concl t)
end_there xs t there =
    ap (option_map (λ (s : Step). s.end)) (slice_get-map (step_in xs) xs (place xs t) ∙ ap (option_map (step_in xs)) (place_there xs t there.0 there.1))

first_there : (xs : List Tree) (ts : Trees) → AllIn xs ts → premise_end (map (step_in xs) xs) (places xs ts) 0 ≡ first_end ts
first_there xs none h = refl
first_there xs (more t ts) h = end_there xs t h.0

second_there : (xs : List Tree) (ts : Trees) → AllIn xs ts → premise_end (map (step_in xs) xs) (places xs ts) 1 ≡ second_end ts
second_there xs none h = refl
second_there xs (more t none) h = refl
second_there xs (more t (more u us)) h = end_there xs u h.1.0

ok_of : (v : Result (Unit {0}) RuleFault) → v ≡ Ok tt → IsOk v
ok_of v is = subst (λ (w : Result (Unit {0}) RuleFault). IsOk w) (sym is) refl

in_whole : (xs : List Tree) (i : ℕ) (ts : Trees) → AllIn (take i xs) ts → AllIn xs ts
in_whole xs i ts h = subst (λ (ys : List Tree). AllIn ys ts) (take-append-drop i xs) (all_in_left (take i xs) (drop i xs) ts h)

right_at : (xs : List Tree) (i : ℕ) (t : Tree) → IsOrdered xs → AreValid xs → slice_get xs i ≡ Some t → IsRight (map (step_in xs) xs) i (step_in xs t)
right_at xs i (node r s ts) ordered valid there =
    let front = ordered i (node r s ts) there in
    let whole = in_whole xs i ts front in
    let inference = (valid i (node r s ts) there).0 in
    let verdict : verdict_of r s (length (places xs ts)) (premise_end (map (step_in xs) xs) (places xs ts) 0) (premise_end (map (step_in xs) xs) (places xs ts) 1) ≡ Ok tt =
    (λ j. verdict_of r s (length-places xs ts j) (first_there xs ts whole j) (second_there xs ts whole j)) ∙ inference.right in
    record {
      earlier = places_below xs i ts front;
      row = row_of r s (length (places xs ts)) (premise_end (map (step_in xs) xs) (places xs ts) 0) (premise_end (map (step_in xs) xs) (places xs ts) 1) (ok_of _ verdict);
    }

tree_there : (xs : List Tree) (i : ℕ) (step : Step) (o : Option Tree) → slice_get xs i ≡ o → option_map (step_in xs) o ≡ Some step → (t : Tree) × (slice_get xs i ≡ Some t) × (step_in xs t ≡ step)
tree_there xs i step None is h = cc
tree_there xs i step (Some t) is h = (t, is, some_same (step_in xs t) step h)

pub proof_again : (t : Tree) → IsValid t → IsProof (steps_of t)
proof_again t valid i step there =
    let xs = distinct_subtrees t in
    let found = tree_there xs i step (slice_get xs i) refl (sym (slice_get-map (step_in xs) xs i) ∙ there) in
    let right = right_at xs i found.0 (ordered_subtrees [] t (λ j u none. cc)) (valid_subtrees [] t (λ j u none. cc) valid) found.1 in
    subst (λ (s : Step). IsRight (steps_of t) i s) found.2 right
