-- The law is a lemma.
use Rattle.herbrand_laws.proofs.Herbrand.{prenex_without_bodies}
use Rattle.herbrand_laws.proofs.laws.prenex_sequents.Goals as goal

pub returns : goal.returns
returns c = prenex_without_bodies
