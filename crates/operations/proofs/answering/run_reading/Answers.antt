-- The first value fits the graph, as all values do.
use Rattle.std.proofs.Common.{Option, map, sym, subst}
use Rattle.job_lang.specs.declared.jobs.Op.{Op}
use Rattle.operation_laws.specs.Values.{Value}
use Rattle.operation_laws.specs.Given.{problem_given, first_of}
use Rattle.operation_laws.specs.Running.{to_solve, to_saturate, run}
use Rattle.held_values.specs.Means.{sense}
use Rattle.operations.specs.Means.{ComesTo}
use Rattle.operations.proofs.answering.run_reading.Goals as goal

pub prove-requires : goal.prove-requires
prove-requires c = c.first.ensures.fits c.args.graph.now c.requires.fits

pub show-requires : goal.show-requires
show-requires c = c.first-in-Show.ensures.fits c.args.graph.now c.requires.fits

pub measure-requires : goal.measure-requires
measure-requires c = c.first-in-Measure.ensures.fits c.args.graph.now c.requires.fits

pub extract_of-requires : goal.extract_of-requires
extract_of-requires c = c.first-in-Expand.ensures.fits c.args.graph.now c.requires.fits

pub herbrand_in-requires : goal.herbrand_in-requires
herbrand_in-requires c = c.first-in-Herbrand.ensures.fits c.args.graph.now c.requires.fits

pub satisfy-requires : goal.satisfy-requires
satisfy-requires c = (c.args.graph.now, c.first-in-Sat.ensures.fits c.args.graph.now c.requires.fits)

pub prove_in-requires : goal.prove_in-requires
prove_in-requires c = (c.args.graph.now, c.first-in-Prove.ensures.fits c.args.graph.now c.requires.fits)

pub returns-in-Sat : goal.returns-in-Sat
returns-in-Sat c =
    let g = c.args.graph.now in
    subst (λ (op : Op). ComesTo g c.satisfy.result (run op (map sense c.args.given.now))) (sym c.in-Sat.is)
    (subst (λ (v : Option Value). ComesTo g c.satisfy.result (to_solve (problem_given c.in-Sat.problem v))) c.first-in-Sat.ensures.value (c.satisfy.ensures g))

pub returns-in-Prove : goal.returns-in-Prove
returns-in-Prove c =
    let g = c.args.graph.now in
    subst (λ (op : Op). ComesTo g c.prove_in.result (run op (map sense c.args.given.now))) (sym c.in-Prove.is)
    (subst (λ n. ComesTo g c.prove_in.result (to_saturate n (problem_given c.in-Prove.problem (first_of (map sense c.args.given.now))))) c.get.ensures.value
    (subst (λ (v : Option Value). ComesTo g c.prove_in.result (to_saturate c.get.result (problem_given c.in-Prove.problem v))) c.first-in-Prove.ensures.value (c.prove_in.ensures g)))
