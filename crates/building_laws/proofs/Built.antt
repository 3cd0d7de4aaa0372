-- What is built is a valid proof of the list's conclusion without cuts.
use Rattle.std.proofs.Common.{◌≡◌, ℕ, zero, suc, ◌<◌, ◌≤◌, true, false, not, length, List, [], ◌∷◌, Option, Some, None, IfSome, refl, sym, ap, subst, ◌∙◌, arith}
use Rattle.std.specs.Prelude.{option_map}
use Rattle.std.specs.List.{AllByRecursion}
use Rattle.fol.specs.declared.symbols.Var.{Var}
use Rattle.finite.specs.Finite as set
use Rattle.lk_rules.specs.declared.sequent.Sequent.{Sequent}
use Rattle.lk_rules.specs.declared.rule.Rule.{Rule}
use Rattle.lk_rules.specs.Rules.{IsWithin}
use Rattle.lk_rules.proofs.Rows.{main_of}
use Rattle.lk_rules.proofs.Subsequents.{and_both}
use Rattle.proof_trees.specs.Trees.{Tree, node, Trees, none, more, concl, count, first_end, second_end, IsValid, AllValid, cut_free, cut_free_all}
use Rattle.proof_trees.proofs.Verdicts.{verdict_of_row}
use Rattle.building_laws.specs.Lists.{Placed, conclusion, weight_of}
use Rattle.building_laws.specs.Building.{Step, with_first, build_each, by_step, step_at, build_within, build}
use Rattle.building_laws.proofs.Invariant.{IsProvable, IsStep, IsKept, AreWithin, step_kept}
use Rattle.building_laws.proofs.Lower.{AreLighter, step_lighter}
use Rattle.building_laws.proofs.Stuck.{never_stuck}
use Rattle.building_laws.proofs.Unrolled.{weighs}

-- t is a valid proof of the list's conclusion without cuts
pub record Proves (l : List Placed) (t : Tree) : Type 0 where
  pub end : concl t ≡ conclusion l
  pub valid : IsValid t
  pub without_cuts : cut_free t ≡ true

abbrev AllProve : List (List Placed) → Trees → Type 0
AllProve [] none = Unit {0}
AllProve [] (more t ts) = ⊥
AllProve (m ∷ ms) none = ⊥
AllProve (m ∷ ms) (more t ts) = Proves m t × AllProve ms ts

as_many : (ms : List (List Placed)) (ts : Trees) → AllProve ms ts → count ts ≡ length ms
as_many [] none h = refl
as_many [] (more t ts) h = absurd h
as_many (m ∷ ms) none h = absurd h
as_many (m ∷ ms) (more t ts) h = let rest = as_many ms ts h.1 in omega arith

all_cut_free : (ms : List (List Placed)) (ts : Trees) → AllProve ms ts → cut_free_all ts ≡ true
all_cut_free [] none h = refl
all_cut_free [] (more t ts) h = absurd h
all_cut_free (m ∷ ms) none h = absurd h
all_cut_free (m ∷ ms) (more t ts) h = and_both _ _ h.0.without_cuts (all_cut_free ms ts h.1)

all_valid : (ms : List (List Placed)) (ts : Trees) → AllProve ms ts → AllValid ts
all_valid [] none h = tt
all_valid [] (more t ts) h = absurd h
all_valid (m ∷ ms) none h = absurd h
all_valid (m ∷ ms) (more t ts) h = (h.0.valid, all_valid ms ts h.1)

first_within : (r : Rule) (e : Sequent) (i : ℕ) (ms : List (List Placed)) (ts : Trees) → AllProve ms ts → AreWithin r e i ms → IfSome (first_end ts) (IsWithin r e i)
first_within r e i [] none h k = tt
first_within r e i [] (more t ts) h k = absurd h
first_within r e i (m ∷ ms) none h k = absurd h
first_within r e i (m ∷ ms) (more t ts) h k = subst (IsWithin r e i) (sym h.0.end) k.0

second_within : (r : Rule) (e : Sequent) (i : ℕ) (ms : List (List Placed)) (ts : Trees) → AllProve ms ts → AreWithin r e i ms → IfSome (second_end ts) (IsWithin r e (suc i))
second_within r e i [] none h k = tt
second_within r e i [] (more t ts) h k = absurd h
second_within r e i (m ∷ ms) none h k = absurd h
second_within r e i (m ∷ ms) (more t ts) h k = first_within r e (suc i) ms ts h.1 k.1

-- an inference by a right step
inferred : (l : List Placed) (r : Rule) (ms : List (List Placed)) (ts : Trees) → IsStep l r ms → AllProve ms ts → Proves l (node r (conclusion l) ts)
inferred l r ms ts k h = record {
  end = refl;
  valid = (
    record {
      right = verdict_of_row r (conclusion l) (count ts) (first_end ts) (second_end ts) (record {
        premises = as_many ms ts h ∙ k.number;
        shape = k.shape;
        main_formula = main_of r (conclusion l) k.stand;
        eigenvariable = k.eigenvariable;
        first_premise = first_within r (conclusion l) 0 ms ts h k.within;
        second_premise = second_within r (conclusion l) 0 ms ts h k.within;
      });
      formed = k.formed;
    },
    all_valid ms ts h,
  );
  without_cuts = and_both _ _ (ap not k.uncut) (all_cut_free ms ts h);
}

-- there is a tree, and it is such a proof
abbrev pub IsBuilt : List Placed → Option Tree → Type 0
IsBuilt l None = ⊥
IsBuilt l (Some t) = Proves l t

abbrev AreBuilt : List (List Placed) → Option Trees → Type 0
AreBuilt ms None = ⊥
AreBuilt ms (Some ts) = AllProve ms ts

first_built : (m : List Placed) (ms : List (List Placed)) (o : Option Tree) (os : Option Trees) → IsBuilt m o → AreBuilt ms os → AreBuilt (m ∷ ms) (with_first o os)
first_built m ms None os h k = absurd h
first_built m ms (Some t) None h k = absurd k
first_built m ms (Some t) (Some ts) h k = (h, k)

step_built : (l : List Placed) (t : Step) (os : Option Trees) → IsStep l t.rule t.premises → AreBuilt t.premises os → IsBuilt l (option_map (node t.rule (conclusion l)) os)
step_built l t None k h = absurd h
step_built l t (Some ts) k h = inferred l t.rule t.premises ts k h

module _ (rank : Var → ℕ) where
  each_built : (look : List Placed → Option Tree) (n : ℕ) (ms : List (List Placed)) → ((m : List Placed) → weight_of m < n → IsProvable rank m → IsBuilt m (look m)) → AreLighter n ms → AllByRecursion (IsProvable rank) ms
      → AreBuilt ms (build_each look ms)
  each_built look n [] each less h = tt
  each_built look n (m ∷ ms) each less h = first_built m ms (look m) (build_each look ms) (each m less.0 h.0) (each_built look n ms each less.1 h.1)

  list_built : (look : List Placed → Option Tree) (l : List Placed) → ((m : List Placed) → weight_of m < weight_of l → IsProvable rank m → IsBuilt m (look m)) → IsProvable rank l → IsBuilt l (by_step look l (step_at l))
  list_built look l each h =
      elim (step_at l) as (λ o. step_at l ≡ o → IsBuilt l (by_step look l o)) [
        | None ↦ λ e. never_stuck rank l h e
        | Some t ↦ λ e.
            let k : IsKept rank l t = step_kept rank l h t e in
            step_built l t (build_each look t.premises) k.step (each_built look (weight_of l) t.premises each (step_lighter l t e) k.premises)
      ] refl

  within_built : (n : ℕ) (l : List Placed) → weight_of l ≤ n → IsProvable rank l → IsBuilt l (build_within n l)
  unfolding build_within
  within_built zero [] low h = let nothing : false ≡ true = h.helps set.empty in cc
  within_built zero (p ∷ l) low h = let some = weighs p.tree in absurd (omega arith)
  within_built (suc n) l low h = list_built (build_within n) l (λ m lower k. within_built n m (omega arith) k) h

  pub built : (l : List Placed) → IsProvable rank l → IsBuilt l (build l)
  unfolding build
  built l h = within_built (weight_of l) l (omega arith) h
