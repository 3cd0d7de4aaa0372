-- The laws are lemmas.
use Rattle.herbrand_laws.proofs.Herbrand.{tuples_counted}
use Rattle.herbrand_laws.proofs.RisingTuples.{tuples_rise}
use Rattle.herbrand_laws.proofs.laws.tuples_of_trees.Goals as goal

pub returns-clause-counted : goal.returns-clause-counted
returns-clause-counted c = tuples_counted

pub returns-clause-rising : goal.returns-clause-rising
returns-clause-rising c = tuples_rise
