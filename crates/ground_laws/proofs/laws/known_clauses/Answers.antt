-- The laws are lemmas.
use Rattle.std.proofs.Common.{Ok, refl, ap}
use Rattle.ground_laws.specs.Steps.{referred}
use Rattle.ground_laws.proofs.Derived.{inputs_known, known_step, cut}
use Rattle.ground_laws.proofs.Decided.{resolves}
use Rattle.ground_laws.proofs.laws.known_clauses.Goals as goal

pub returns-clause-nothing : goal.returns-clause-nothing
returns-clause-nothing c cs = refl

pub returns-clause-inputs : goal.returns-clause-inputs
returns-clause-inputs c = inputs_known

pub returns-clause-step : goal.returns-clause-step
returns-clause-step c = known_step

pub returns-clause-input : goal.returns-clause-input
returns-clause-input c cs ds i d at = ap (λ o. referred o (λ e. Ok e)) at

pub returns-clause-resolution : goal.returns-clause-resolution
returns-clause-resolution c = resolves

pub returns-clause-refutation : goal.returns-clause-refutation
returns-clause-refutation c = cut
