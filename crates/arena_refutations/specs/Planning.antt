-- The plan of a proof: what the steps of a refutation derive and name, by numbers.
--     IsPlanned, ArePlanned      a step, and all of them
--     IsMade, AreMade      the trees of proofs under maps, so far as they were made
use Rattle.std.specs.Prelude.{◌≡◌, ℕ, true, List, Some, slice_get, IfSome}
use Rattle.std.specs.Ordering.{nat_cmp, ordering_then}
use Rattle.std.specs.declared.cmp.Ordering.{Ordering}
use Rattle.std.specs.BTreeMap as ordered
use Rattle.std.specs.BTreeMap.{BTreeMap}
use Rattle.fol.specs.declared.symbols.Var.{Var}
use Rattle.finite.specs.Finite as set
use Rattle.proof_trees.specs.FreeVariables.{is_free_in_tree}
use Rattle.proof_trees.specs.Substitution.{sub}
use Rattle.arena_cells.specs.Items.{Item}
use Rattle.arena_cells.specs.Standing.{HasFormula, HasSequent, HasMap, HasTree, variables_at, map_at, IsMapAt, AreVariablesAt}
use Rattle.refutations.specs.declared.clause.Clause.{Clause}
use Rattle.refutations.specs.declared.step.ResStep.{ResStep}
use Rattle.refutations.specs.declared.step.ResStep.TheVariants.{Input, Subst, Resolve}
use Rattle.refutations.specs.Refutations.{Derived}
use Rattle.image_laws.specs.Steps.{all_derived}
use Rattle.arena_refutations.specs.declared.planning.Planned.{Planned}

-- the map or the atom that a step names stands at the number
abbrev pub HasNamed : List Item → ℕ → ResStep → Type 0
HasNamed a n (Input i) = Unit {0}
HasNamed a n (Subst k m) = HasMap a n m
HasNamed a n (Resolve p q f) = HasFormula a n f

-- a step that derives d
pub record IsPlanned (a : List Item) (step : ResStep) (d : Derived) (p : Planned) : Type 0 where
  pub clause : HasSequent a p.clause d.clause
  pub variables : AreVariablesAt a p.set
  pub covers : (v : Var) → is_free_in_tree v d.tree ≡ true → set.has (variables_at a p.set) v ≡ true
  pub named : HasNamed a p.named step

-- the first steps
pub record ArePlanned (a : List Item) (cs : List Clause) (steps : List ResStep) (ps : List Planned) : Type 0 where
  pub each : (k : ℕ) (step : ResStep) (d : Derived) (p : Planned) → slice_get steps k ≡ Some step → slice_get (all_derived cs steps) k ≡ Some d → slice_get ps k ≡ Some p → IsPlanned a step d p

-- the proof of the step at that place, under a map
pub record IsMade (a : List Item) (cs : List Clause) (steps : List ResStep) (place m n : ℕ) : Type 0 where
  pub tree : (d : Derived) → slice_get (all_derived cs steps) place ≡ Some d → HasTree a n (sub d.tree (map_at a m))

-- the order of pairs of numbers
abbrev pub pair_cmp : ℕ × ℕ → ℕ × ℕ → Ordering
pair_cmp x y = ordering_then (nat_cmp x.0 y.0) (nat_cmp x.1 y.1)

-- each entry of the table is one, under a map of the arena
abbrev pub AreMade : List Item → List Clause → List ResStep → BTreeMap (ℕ × ℕ) ℕ → Type 0
AreMade a cs steps table = (place m : ℕ) → IfSome (ordered.get pair_cmp table (place, m)) (λ n. IsMapAt a m × IsMade a cs steps place m n)
