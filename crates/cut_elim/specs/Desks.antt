-- The parts of a desk, which passes belong to it, and what calls do to a pass.
use Rattle.std.specs.Prelude.{ℕ, List}
use Rattle.std.specs.Ordering.{nat_cmp}
use mathlib.Core.List.{IsPrefix}
use Rattle.turn_log.specs.Passes.{seen}
use Rattle.memo_table.specs.declared.rows.Pair.{Pair}
use Rattle.memo_table.specs.Pairs.{IsIn}
use Rattle.memo_table.specs.Memos as memo
use Rattle.proof_graph.specs.References.{Reference}
use Rattle.proof_graph.specs.Graphs.{history}
use Rattle.proof_subst.specs.declared.bench.Bench.{Bench}
use Rattle.proof_subst.specs.declared.bench.BenchPass.{BenchPass}
use Rattle.proof_subst.specs.Benches.{pass_in as graph_pass_in, IsBenchPassOf}
use Rattle.cut_elim.specs.declared.desk.Desk.{Desk}
use Rattle.cut_elim.specs.declared.desk.DeskPass.{DeskPass}
use Rattle.cut_elim.specs.declared.known.Elimination.{Elimination}

-- the bench of a desk
abbrev pub bench_of : Desk → Bench
bench_of d = d.bench

-- the pass of the bench
abbrev pub pass_in : DeskPass → BenchPass
pass_in p = p.bench

-- the history of the graph that the pass has seen
abbrev pub history_in : DeskPass → List Reference
history_in p = history (graph_pass_in (pass_in p))

-- the eliminations that the pass has seen in the desk's table, the oldest first
abbrev pub eliminations_in : DeskPass → List (Pair ℕ Elimination)
eliminations_in p = seen p.eliminations

-- the proof with the number stands there as a key
abbrev pub HasElimination : DeskPass → ℕ → Type 0
HasElimination p n = IsIn nat_cmp (eliminations_in p) n

-- the pass is of the desk's bench and of its table
pub record IsDeskPassOf (d : Desk) (p : DeskPass) : Type 0 where
  pub bench : IsBenchPassOf (bench_of d) (pass_in p)
  pub eliminations : memo.IsPassOf d.eliminations p.eliminations

-- what a call does to a pass of the desk: it is one after the call, and has seen at least what it had seen of the graph's history
abbrev pub Extends : Desk → DeskPass → DeskPass → Type 0
Extends d old new = IsDeskPassOf d new × IsPrefix (history_in old) (history_in new)
