-- The values fit the graph, and an elimination of cuts notes the proof that it is given.
use Rattle.std.proofs.Common.{rules, sym, ap, ◌∙◌, subst}
use Rattle.std.specs.List.{All}
use Rattle.std.specs.Option.{IsSomeAnd}
use Rattle.proof_graph.specs.declared.graph.Graph.{Graph}
use Rattle.proof_subst.specs.Benches.{graph_of}
use Rattle.cut_elim.specs.Desks.{bench_of, HasElimination}
use Rattle.job_lang.specs.declared.jobs.Op.{Op}
use Rattle.held_values.specs.declared.held.Held.{Held}
use Rattle.held_values.specs.Means.{Fits}
use Rattle.operations.specs.Noted.{proof_in, IsNoted}
use Rattle.operations.proofs.Noted.{noted_in_graph, noted_at_bench}
use Rattle.operations.proofs.answering.run_given.Goals as goal

pub run_reading-requires-clause-fits : goal.run_reading-requires-clause-fits
run_reading-requires-clause-fits g c = subst (λ (h : Graph). All (Fits h) c.args.given.now) (sym (c.graph-graph.ensures ∙ ap graph_of c.bench-bench.ensures)) c.requires.fits

pub run_making-requires-clause-fits : goal.run_making-requires-clause-fits
run_making-requires-clause-fits g c κs within = subst (λ (h : Graph). All (Fits h) c.args.given.now) (sym (ap graph_of c.bench-bench.ensures)) c.requires.fits

pub eliminate_in-requires-clause-fits : goal.eliminate_in-requires-clause-fits
eliminate_in-requires-clause-fits g c κs within = c.first.ensures.fits (graph_of (bench_of c.args.desk.now)) c.requires.fits

pub eliminate_all_in-requires-clause-fits : goal.eliminate_all_in-requires-clause-fits
eliminate_all_in-requires-clause-fits g c κs within = c.first-in-Eliminate.ensures.fits (graph_of (bench_of c.args.desk.now)) c.requires.fits

pub returns-in-Problem-clause-noted : goal.returns-in-Problem-clause-noted
returns-in-Problem-clause-noted g c = λ done. noted_in_graph c.args.op.now c.args.given.now c.args.pass.now (search rules)

pub returns-in-Lk-clause-noted : goal.returns-in-Lk-clause-noted
returns-in-Lk-clause-noted g c = λ done. noted_at_bench c.args.op.now c.args.given.now _ (search rules)

pub returns-in-Cutelim-clause-noted : goal.returns-in-Cutelim-clause-noted
returns-in-Cutelim-clause-noted g c = λ done.
    let first = subst (λ (h : Held). IsSomeAnd (proof_in c.in-Cutelim.proof h) (λ r. HasElimination c.eliminate_in.new.pass r.number)) c.first.ensures.first (c.eliminate_in.ensures.noted done) in
    subst (λ (op : Op). IsNoted op c.args.given.now c.eliminate_in.new.pass) (sym c.in-Cutelim.is) first
