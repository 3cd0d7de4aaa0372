-- What shows that an elimination of cuts is noted.
use Rattle.std.proofs.Common.{◌≡◌, List}
use Rattle.cut_elim.specs.declared.desk.DeskPass.{DeskPass}
use Rattle.job_lang.specs.declared.jobs.Op.{Op}
use Rattle.job_lang.specs.declared.jobs.Op.TheVariants as ops
use Rattle.held_values.specs.declared.held.Held.{Held}
use Rattle.operations.specs.Means.{a_graph, a_bench, needs}
use Rattle.operations.specs.Noted.{IsNoted}

-- an operation that is run without a desk has nothing to note
pub noted_in_graph : (op : Op) (given : List Held) (p : DeskPass) → needs op ≡ a_graph → IsNoted op given p
noted_in_graph (ops.Lk steps using) given p e = cc
noted_in_graph (ops.Problem problem) given p e = tt
noted_in_graph (ops.Proves of goal) given p e = tt
noted_in_graph (ops.Show of) given p e = tt
noted_in_graph (ops.Measure of) given p e = tt
noted_in_graph (ops.Subst of m) given p e = cc
noted_in_graph (ops.Cutelim of n) given p e = cc
noted_in_graph (ops.Eliminate of) given p e = cc
noted_in_graph (ops.Define symbol vars body using) given p e = tt
noted_in_graph (ops.Unfold of) given p e = cc
noted_in_graph (ops.Sat of) given p e = tt
noted_in_graph (ops.Prove of n) given p e = tt
noted_in_graph (ops.Resolution of steps) given p e = cc
noted_in_graph (ops.Tautology s n) given p e = cc
noted_in_graph (ops.Expansion flat n) given p e = tt
noted_in_graph (ops.Expand of n) given p e = tt
noted_in_graph (ops.Fromexp of n) given p e = cc
noted_in_graph (ops.Interpolate of one two n) given p e = cc
noted_in_graph (ops.Herbrand of n) given p e = tt
noted_in_graph (ops.Cutintro of width n) given p e = cc

pub noted_at_bench : (op : Op) (given : List Held) (p : DeskPass) → needs op ≡ a_bench → IsNoted op given p
noted_at_bench (ops.Lk steps using) given p e = tt
noted_at_bench (ops.Problem problem) given p e = cc
noted_at_bench (ops.Proves of goal) given p e = cc
noted_at_bench (ops.Show of) given p e = cc
noted_at_bench (ops.Measure of) given p e = cc
noted_at_bench (ops.Subst of m) given p e = tt
noted_at_bench (ops.Cutelim of n) given p e = cc
noted_at_bench (ops.Eliminate of) given p e = cc
noted_at_bench (ops.Define symbol vars body using) given p e = cc
noted_at_bench (ops.Unfold of) given p e = tt
noted_at_bench (ops.Sat of) given p e = cc
noted_at_bench (ops.Prove of n) given p e = cc
noted_at_bench (ops.Resolution of steps) given p e = tt
noted_at_bench (ops.Tautology s n) given p e = tt
noted_at_bench (ops.Expansion flat n) given p e = cc
noted_at_bench (ops.Expand of n) given p e = cc
noted_at_bench (ops.Fromexp of n) given p e = tt
noted_at_bench (ops.Interpolate of one two n) given p e = tt
noted_at_bench (ops.Herbrand of n) given p e = cc
noted_at_bench (ops.Cutintro of width n) given p e = tt
