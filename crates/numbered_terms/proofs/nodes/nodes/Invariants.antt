-- The nodes so far are those of the terms so far.
use Rattle.std.proofs.Common.{◌≡◌, ℕ, length}
use Rattle.std.specs.Prelude.{Some, slice_get}
use Rattle.arena_cells.specs.Standing.{IsTermAt}
use Rattle.numbered_terms.specs.declared.nodes.Node.{Node}
use Rattle.numbered_terms.specs.Nodes.{IsNode}
use Rattle.numbered_terms.proofs.nodes.nodes.Given as goal

abbrev pub invariant-loop-number : goal.invariant-loop-number
invariant-loop-number l = record {
  so_many : length l.nodes.items ≡ l.number;
  each : (n : ℕ) (d : Node) → slice_get l.nodes.items n ≡ Some d → IsTermAt l.cells n → IsNode l.cells n d;
}
