-- What a table says stays in a larger arena.
use Rattle.std.proofs.Common.{ℕ, List, nat_eq, Some, sym, ap, ◌∙◌}
use Rattle.std.proofs.lemmas.Option.{IfSome_then}
use Rattle.std.specs.HashMap as hash
use Rattle.std.specs.HashMap.{HashMap}
use Rattle.proof_trees.specs.Trees.{Tree}
use Rattle.cut_laws.specs.Elimination.{elimination}
use Rattle.arena_cells.specs.Items.{Item}
use Rattle.arena_cells.specs.Standing.{Extends}
use Rattle.arena_cells.proofs.Staying.{tree_stays, tree_there}
use Rattle.arena_cuts.specs.declared.table.Reduced.{Reduced}
use Rattle.arena_cuts.specs.Tables.{IsEliminated, AreEliminated}

module _ (a b : List Item) (grown : Extends a b) where
  entry_there : (n : ℕ) (e : Reduced) → IsEliminated a n e → IsEliminated b n e
  entry_there n e h = record {
    tree = tree_there a b grown n h.tree;
    result_there = tree_there a b grown e.proof h.result_there;
    is = ap (λ (t : Tree). elimination t e.reductions) (tree_stays a b grown n h.tree) ∙ h.is ∙ ap (λ (t : Tree). Some (t, e.reductions)) (sym (tree_stays a b grown e.proof h.result_there));
  }

  pub known_there : {S : Type 0} (table : HashMap ℕ Reduced S) → AreEliminated a table → AreEliminated b table
  known_there table h n = IfSome_then (hash.get nat_eq table n) (h n) (λ e k. entry_there n e k)
