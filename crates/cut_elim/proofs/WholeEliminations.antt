-- What is said of an elimination without a budget.
use Rattle.std.proofs.Common.{◌≡◌, ℕ, ◌-◌, ◌^◌, ◌<◌, ◌≤◌, min, Some, None, refl, subst, arith}
use Rattle.proof_trees.specs.Trees.{Tree, concl, IsCutFree, IsValid}
use Rattle.proof_graph.specs.declared.graph.Graph.{Graph}
use Rattle.proof_graph.specs.References.{Reference}
use Rattle.proof_graph.specs.Graphs.{IsOf}
use Rattle.cut_laws.specs.Elimination.{Reaches, elimination}
use Rattle.cut_laws.proofs.Reached.{least_reached}
use Rattle.arena_cuts.specs.Whole.{ReducesTo}
use Rattle.arena_cuts.proofs.WholeSteps.{reduced_free, reduced_end, reduced_valid, beyond}
use Rattle.cut_elim.specs.declared.known.Reduced.{Reduced}
use Rattle.cut_elim.specs.Eliminations.{IsReduced}
use Rattle.cut_elim.specs.Whole.{IsWhole}

-- where the greatest budget doesn't suffice, there are too many replacements for a number of the program
pub far_beyond : (t : Tree) (n : ℕ) → 2 ^ 64 - 1 ≤ n → elimination t n ≡ None → (k : ℕ) (u : Tree) → Reaches t k u → 2 ^ 64 ≤ k
far_beyond t n greatest short k u reaches = let more : n < k = beyond t u n k short reaches in omega (arith, greatest, more)

-- a tree without cuts is no such
pub not_far : (t : Tree) → IsCutFree t → ((k : ℕ) (u : Tree) → Reaches t k u → 2 ^ 64 ≤ k) → ⊥
not_far t free far =
    let none : 2 ^ 64 ≤ 0 = far 0 t (record { is = refl; done = free; least = λ j less. absurd (omega arith) }) in
    omega (arith, none)

module _ (g : Graph) (p : Reference) (made : Reduced) where
  -- by the elimination within a budget
  pub within_whole : (n : ℕ) → n < 2 ^ 64 → IsOf g made.proof → elimination p.tree n ≡ Some (made.proof.tree, made.reductions) → IsWhole g p made
  within_whole n less of found =
      let reached = (least_reached p.tree n made.proof.tree made.reductions).0 found in
      let few : made.reductions ≤ n = reached.1 in
      record { of = of; contractions = made.reductions; reaches = reached.0; count = omega (arith, less, few) }

  -- by what is known
  pub known_whole : made.reductions < 2 ^ 64 → IsReduced g p made → IsWhole g p made
  known_whole less h = within_whole made.reductions less h.of h.is

  -- past the greatest budget
  pub past_whole : ((k : ℕ) (u : Tree) → Reaches p.tree k u → 2 ^ 64 ≤ k) → IsOf g made.proof → ReducesTo p.tree made.proof.tree → made.reductions ≡ 2 ^ 64 - 1 → IsWhole g p made
  past_whole far of x greatest =
      let more : 2 ^ 64 ≤ x.reductions = far x.reductions made.proof.tree x.reaches in
      record { of = of; contractions = x.reductions; reaches = x.reaches; count = omega (arith, greatest, more) }

  module _ (h : IsWhole g p made) where
    pub whole_reached : (k : ℕ) × Reaches p.tree k made.proof.tree × (made.reductions ≡ min k (2 ^ 64 - 1))
    whole_reached = (h.contractions, h.reaches, h.count)

    pub whole_exact : made.reductions < 2 ^ 64 - 1 → elimination p.tree made.reductions ≡ Some (made.proof.tree, made.reductions)
    whole_exact less =
        let is : h.contractions ≡ made.reductions = omega (arith, h.count, less) in
        (least_reached p.tree made.reductions made.proof.tree made.reductions).1 (subst (λ (k : ℕ). Reaches p.tree k made.proof.tree) is h.reaches, omega arith)

    comes_to : ReducesTo p.tree made.proof.tree
    comes_to = record { reductions = h.contractions; reaches = h.reaches }

    pub whole_free : IsCutFree made.proof.tree
    whole_free = reduced_free p.tree made.proof.tree comes_to

    pub whole_end : concl made.proof.tree ≡ concl p.tree
    whole_end = reduced_end p.tree made.proof.tree comes_to

    pub whole_valid : IsValid p.tree → IsValid made.proof.tree
    whole_valid valid = reduced_valid p.tree made.proof.tree valid comes_to
