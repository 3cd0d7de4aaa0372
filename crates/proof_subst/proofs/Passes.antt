-- A pass stays right where its arena gets larger.
use Rattle.std.specs.Prelude.{List}
use Rattle.arena_cells.specs.Items.{Item}
use Rattle.arena_cells.specs.Standing.{Extends}
use Rattle.arena_graph.proofs.Larger.{numbers_stay}
use Rattle.proof_subst.specs.declared.bench.Bench.{Bench}
use Rattle.proof_subst.specs.declared.bench.BenchPass.{BenchPass}
use Rattle.proof_subst.specs.Benches.{graph_of, arena_in, IsBenchPassOf}
use Rattle.proof_subst.specs.Lending.{with_arena}

pub pass_stays : (b : Bench) (p : BenchPass) (a : List Item) → IsBenchPassOf b p → Extends (arena_in p) a → IsBenchPassOf b (with_arena p a)
pass_stays b p a h grown = record { graph = h.graph; images = h.images; numbers = numbers_stay (graph_of b) (arena_in p) a p.numbers h.numbers grown }
