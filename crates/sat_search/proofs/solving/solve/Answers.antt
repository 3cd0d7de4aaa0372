-- No clauses have both a model and a refutation.
use Rattle.sat_search.specs.Grounds.{clauses_of}
use Rattle.ground_laws.proofs.Reached.{never_both}
use Rattle.sat_search.proofs.solving.solve.Goals as goal

pub returns-in-Satisfied-clause-refutable : goal.returns-in-Satisfied-clause-refutable
returns-in-Satisfied-clause-refutable c = λ steps refuted. absurd (never_both _ (clauses_of c.args.clauses.now) steps c.in_ok-model-in-Satisfied.ensures refuted)

pub returns-clause-satisfiable : goal.returns-clause-satisfiable
returns-clause-satisfiable c = λ atoms model. absurd (never_both atoms (clauses_of c.args.clauses.now) _ model c.in_ok-steps-in-Refuted.ensures)
