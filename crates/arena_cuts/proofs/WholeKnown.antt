-- What a table of proofs without cuts says stays in a larger arena.
use Rattle.std.proofs.Common.{ℕ, List, nat_eq, sym, subst}
use Rattle.std.proofs.lemmas.Option.{IfSome_then}
use Rattle.std.specs.HashMap as hash
use Rattle.std.specs.HashMap.{HashMap}
use Rattle.proof_trees.specs.Trees.{Tree}
use Rattle.arena_cells.specs.Items.{Item}
use Rattle.arena_cells.specs.Standing.{Extends}
use Rattle.arena_cells.proofs.Staying.{tree_stays, tree_there}
use Rattle.arena_cuts.specs.Whole.{ReducesTo, IsReducedTo, AreReduced}

module _ (a b : List Item) (grown : Extends a b) where
  reduced_there : (n m : ℕ) → IsReducedTo a n m → IsReducedTo b n m
  reduced_there n m h = record {
    tree = tree_there a b grown n h.tree;
    result_there = tree_there a b grown m h.result_there;
    reduces = subst (λ (x : Tree × Tree). ReducesTo x.0 x.1) (λ i. (sym (tree_stays a b grown n h.tree) i, sym (tree_stays a b grown m h.result_there) i)) h.reduces;
  }

  pub whole_known_there : {S : Type 0} (table : HashMap ℕ ℕ S) → AreReduced a table → AreReduced b table
  whole_known_there table h n = IfSome_then (hash.get nat_eq table n) (h n) (λ m k. reduced_there n m k)
