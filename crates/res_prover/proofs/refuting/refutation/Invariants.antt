-- The steps so far have no fault.
use Rattle.res_prover.specs.Deriving.{AreDerived}
use Rattle.res_prover.proofs.refuting.refutation.Given as goal

abbrev pub invariant-loop-step : goal.invariant-loop-step
invariant-loop-step l = AreDerived l.clauses l.steps.items l.derived.items
