-- The laws are lemmas.
use Rattle.herbrand_laws.proofs.NewProof.{left_found, right_found, introduced_found, introduced_with_cut}
use Rattle.herbrand_laws.proofs.laws.introductions.Goals as goal

pub returns-clause-left : goal.returns-clause-left
returns-clause-left c width x s w h o = left_found x s h width w o

pub returns-clause-right : goal.returns-clause-right
returns-clause-right c width x s w h o = right_found x s h width w o

pub returns-clause-found : goal.returns-clause-found
returns-clause-found c width x s w h o = introduced_found x s h width w o

pub returns-clause-proofs : goal.returns-clause-proofs
returns-clause-proofs c width x s w t h o e = introduced_with_cut x s h width w o t e
