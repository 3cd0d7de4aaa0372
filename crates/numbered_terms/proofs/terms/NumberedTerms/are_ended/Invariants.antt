-- The rest answers for the whole.
use Rattle.std.proofs.Common.{◌≡◌, drop, map}
use Rattle.herbrand_laws.specs.Patterns.{are_empty}
use Rattle.numbered_terms.specs.Numbered.{tuple_at}
use Rattle.numbered_terms.specs.Walks.{terms_from}
use Rattle.numbered_terms.proofs.terms.NumberedTerms.are_ended.Given as goal

abbrev pub invariant-loop-term : goal.invariant-loop-term
invariant-loop-term l = are_empty (map (λ n. terms_from l.place (tuple_at l.self n)) (drop l.term-index l.terms)) ≡ are_empty (map (λ n. terms_from l.place (tuple_at l.self n)) l.terms)
