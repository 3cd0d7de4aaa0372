-- What becomes of a bench's pass of which a part is lent.
use Rattle.std.specs.Prelude.{List}
use Rattle.std.specs.Borrow.{Lends, MutBor, Fml}
use Rattle.proof_graph.specs.declared.graph.GraphPass.{GraphPass}
use Rattle.proof_graph.specs.contracts.graph.GraphPass as graph
use Rattle.arena_cells.specs.Items.{Item}
use Rattle.arena.specs.contracts.arena.Arena as arena
use Rattle.proof_subst.specs.declared.bench.BenchPass.{BenchPass}
use Rattle.proof_subst.specs.contracts.bench.BenchPass as bench

-- the pass with another pass of the graph
abbrev pub with_graph_pass : BenchPass → GraphPass → BenchPass
with_graph_pass p g = record p { graph = g }

-- p ends with what r leaves as the pass of the graph
abbrev pub LendsGraphPass : MutBor BenchPass → MutBor GraphPass → Fml
LendsGraphPass p r = Lends bench.the_row graph.the_row p r (with_graph_pass p.now)

-- the pass with another arena
abbrev pub with_arena : BenchPass → List Item → BenchPass
with_arena p a = record p { arena = a }

-- p ends with what r leaves as the arena
abbrev pub LendsArena : MutBor BenchPass → MutBor (List Item) → Fml
LendsArena p r = Lends bench.the_row arena.the_row p r (with_arena p.now)
