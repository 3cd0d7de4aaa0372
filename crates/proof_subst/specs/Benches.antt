-- The parts of a bench, which passes belong to it, and what calls do to a pass.
use Rattle.std.specs.Prelude.{ℕ, List}
use mathlib.Core.List.{IsPrefix}
use Rattle.substitution.specs.Maps.{Map}
use Rattle.turn_log.specs.Passes.{seen}
use Rattle.memo_table.specs.declared.rows.Pair.{Pair}
use Rattle.memo_table.specs.Pairs.{IsIn}
use Rattle.memo_table.specs.Memos as memo
use Rattle.proof_graph.specs.declared.graph.Graph.{Graph}
use Rattle.proof_graph.specs.declared.graph.GraphPass.{GraphPass}
use Rattle.proof_graph.specs.Graphs.{IsPassOf, history}
use Rattle.arena_cells.specs.Items.{Item}
use Rattle.arena_graph.specs.ProofNumbers.{AreNumbersOf}
use Rattle.proof_subst.specs.declared.bench.Bench.{Bench}
use Rattle.proof_subst.specs.declared.bench.BenchPass.{BenchPass}
use Rattle.proof_subst.specs.declared.known.ImageKey.{ImageKey}
use Rattle.proof_subst.specs.declared.known.Image.{Image}
use Rattle.proof_subst.specs.ImageKeys.{image_key_cmp}

-- the graph of a bench
abbrev pub graph_of : Bench → Graph
graph_of b = b.graph

-- the pass of the graph
abbrev pub pass_in : BenchPass → GraphPass
pass_in p = p.graph

-- the images that the pass has seen in the bench's table, the oldest first
abbrev pub images_in : BenchPass → List (Pair ImageKey Image)
images_in p = seen p.images

-- the proof with the number and the map stand there as a key
abbrev pub HasImage : BenchPass → ℕ → Map → Type 0
HasImage p n m = IsIn image_key_cmp (images_in p) (record { proof = n; map = m })

-- what stands in the arena
abbrev pub arena_in : BenchPass → List Item
arena_in p = p.arena

-- the pass is of the bench's graph and of its table, and what it knows of the numbers in its arena is right
pub record IsBenchPassOf (b : Bench) (p : BenchPass) : Type 0 where
  pub graph : IsPassOf (graph_of b) (pass_in p)
  pub images : memo.IsPassOf b.images p.images
  pub numbers : AreNumbersOf (graph_of b) (arena_in p) p.numbers

-- what a call does to a pass of the bench: it is one after the call, and has seen at least what it had seen of the graph's history
abbrev pub Extends : Bench → BenchPass → BenchPass → Type 0
Extends b old new = IsBenchPassOf b new × IsPrefix (history (pass_in old)) (history (pass_in new))
