-- The laws are lemmas.
use Rattle.std.proofs.Common.{ap, ◌∙◌}
use Rattle.finite.specs.Finite as set
use Rattle.finite.proofs.Finite.{listing_rises}
use Rattle.extraction_laws.specs.States.{nth_outside, terms_of}
use Rattle.extraction_laws.proofs.Helping.{terms-marked}
use Rattle.extraction_laws.proofs.Marks.{own_place, place_outside}
use Rattle.extraction_laws.proofs.laws.marks.Goals as goal

pub returns-clause-new_variable : goal.returns-clause-new_variable
returns-clause-new_variable c vs x a new = ap (nth_outside vs) (own_place a x.names ∙ place_outside a x.names new)

pub returns-clause-old_variable : goal.returns-clause-old_variable
returns-clause-old_variable c vs x y a h there = ap (nth_outside vs) (h.places a there)

pub returns-clause-terms : goal.returns-clause-terms
returns-clause-terms c = terms-marked

pub returns-clause-rise : goal.returns-clause-rise
returns-clause-rise c x a = listing_rises (set.of_list (terms_of a (set.listing x.instances)))
