-- What becomes of a desk's pass whose bench's pass is lent.
use Rattle.std.specs.Borrow.{Lends, MutBor, Fml}
use Rattle.proof_subst.specs.declared.bench.BenchPass.{BenchPass}
use Rattle.proof_subst.specs.contracts.bench.BenchPass as bench
use Rattle.cut_elim.specs.declared.desk.DeskPass.{DeskPass}
use Rattle.cut_elim.specs.contracts.desk.DeskPass as desk

-- the pass with another pass of the bench
abbrev pub with_bench_pass : DeskPass → BenchPass → DeskPass
with_bench_pass p b = record p { bench = b }

-- p ends with what r leaves as the pass of the bench
abbrev pub LendsBenchPass : MutBor DeskPass → MutBor BenchPass → Fml
LendsBenchPass p r = Lends desk.the_row bench.the_row p r (with_bench_pass p.now)
