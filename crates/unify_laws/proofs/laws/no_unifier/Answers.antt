-- The law is a lemma.
use Rattle.unify_laws.proofs.EachSide.{unifies-solves}
use Rattle.unify_laws.proofs.Unified.{none_there, none_found}
use Rattle.unify_laws.proofs.laws.no_unifier.Goals as goal

pub returns : goal.returns
returns c es = (λ is h all. none_there es is h ((unifies-solves h es).0 all), λ none. none_found es (λ h all. none h ((unifies-solves h es).1 all)))
