-- Bounds on the height that are high enough all give one proof, which so is by the step that is taken and the proofs of the premises.
use Rattle.std.proofs.Common.{◌≡◌, ℕ, zero, suc, ◌<◌, ◌≤◌, List, [], ◌∷◌, Option, Some, None, refl, sym, ap, ◌∙◌, arith}
use Rattle.std.specs.Prelude.{find, option_map}
use Rattle.fol.specs.Syntax.{top, bot}
use Rattle.fol.specs.Order.{formula_cmp}
use Rattle.finite.specs.Finite as set
use Rattle.finite.proofs.Finite.{has-empty}
use Rattle.expansion_laws.specs.Expansions.{Exp, wk, leaf, neg, conj, disj, impl, weak, strong}
use Rattle.proof_trees.specs.Trees.{Tree, node}
use Rattle.building_laws.specs.Lists.{Placed, conclusion, leaf_sequent, weight, weight_of}
use Rattle.building_laws.specs.Building.{or_else, axiom_or, closing_rule, closing, with_first, build_each, by_step, step_at, build_within, build}
use Rattle.building_laws.proofs.Conclusions.{none_listed}
use Rattle.building_laws.proofs.Lower.{AreLighter, step_lighter}

-- no tree weighs nothing
pub weighs : (e : Exp) → 0 < weight e
weighs (wk f) = omega arith
weighs (leaf f) = omega arith
weighs (neg e) = omega arith
weighs (conj d e) = omega arith
weighs (disj d e) = omega arith
weighs (impl d e) = omega arith
weighs (weak f is) = omega arith
weighs (strong f y e) = omega arith

-- two ways to build that agree on lists that weigh less than n
abbrev AgreeBelow : (List Placed → Option Tree) → (List Placed → Option Tree) → ℕ → Type 0
AgreeBelow look other n = (l : List Placed) → weight_of l < n → look l ≡ other l

each_same : (look other : List Placed → Option Tree) (n : ℕ) (ls : List (List Placed)) → AgreeBelow look other n → AreLighter n ls → build_each look ls ≡ build_each other ls
each_same look other n [] same less = refl
each_same look other n (l ∷ ls) same less = λ i. with_first (same l less.0 i) (each_same look other n ls same less.1 i)

step_same : (look other : List Placed → Option Tree) (l : List Placed) → AgreeBelow look other (weight_of l) → by_step look l (step_at l) ≡ by_step other l (step_at l)
step_same look other l same =
    elim (step_at l) as (λ o. step_at l ≡ o → by_step look l o ≡ by_step other l o) [
      | None ↦ λ _. refl
      | Some t ↦ λ e. ap (option_map (node t.rule (conclusion l))) (each_same look other (weight_of l) t.premises same (step_lighter l t e))
    ] refl

-- nothing is built for the empty list
no_leaves : closing_rule (leaf_sequent []) ≡ None
no_leaves = λ i. axiom_or (find (set.has (set.empty {R = formula_cmp})) (none_listed i)) (has-empty formula_cmp top i) (has-empty formula_cmp bot i)

none_built : (look : List Placed → Option Tree) → by_step look [] (step_at []) ≡ None
unfolding step_at
none_built look = ap (λ o. by_step look [] (or_else (option_map closing o) None)) no_leaves

-- any two bounds that are high enough give the same
same_within : (n m : ℕ) (l : List Placed) → weight_of l ≤ n → weight_of l ≤ m → build_within n l ≡ build_within m l
unfolding build_within
same_within zero zero l low also = refl
same_within zero (suc m) [] low also = sym (none_built (build_within m))
same_within zero (suc m) (p ∷ l) low also = let some = weighs p.tree in absurd (omega arith)
same_within (suc n) zero [] low also = none_built (build_within n)
same_within (suc n) zero (p ∷ l) low also = let some = weighs p.tree in absurd (omega arith)
same_within (suc n) (suc m) l low also = step_same (build_within n) (build_within m) l (λ k lower. same_within n m k (omega arith) (omega arith))

within_suc : (n : ℕ) (l : List Placed) → build_within (suc n) l ≡ by_step (build_within n) l (step_at l)
unfolding build_within
within_suc n l = refl

-- any bound that is high enough gives the proof
pub built_within : (n : ℕ) (l : List Placed) → weight_of l ≤ n → build l ≡ build_within n l
unfolding build
built_within n l low = same_within (weight_of l) n l (omega arith) low

-- the proof is by the step that is taken
pub build-unrolled : (l : List Placed) → build l ≡ by_step build l (step_at l)
build-unrolled l =
    built_within (suc (weight_of l)) l (omega arith)
    ∙ (within_suc (weight_of l) l
    ∙ step_same (build_within (weight_of l)) build l (λ k lower. sym (built_within (weight_of l) k (omega arith))))
