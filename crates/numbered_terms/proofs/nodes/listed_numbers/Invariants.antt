-- The terms so far are followed by those of the rest.
use Rattle.std.proofs.Common.{◌≡◌, ◌<◌, ◌≤◌, map}
use Rattle.std.specs.List.{All}
use Rattle.arena_cells.specs.Standing.{term_at, terms_at, IsTermAt, IsTermsAt}
use Rattle.numbered_terms.specs.Nodes.{followed}
use Rattle.numbered_terms.proofs.nodes.listed_numbers.Given as goal

abbrev pub invariant-loop-term : goal.invariant-loop-term
invariant-loop-term l = record {
  there : IsTermsAt l.cells l.rest;
  within : l.rest ≤ l.list;
  terms : All (IsTermAt l.cells) l.numbers.items;
  below : All (λ n. n < l.list) l.numbers.items;
  followed : followed (map (term_at l.cells) l.numbers.items) (terms_at l.cells l.rest) ≡ terms_at l.cells l.list;
}

abbrev pub decreases-loop-term : goal.decreases-loop-term
decreases-loop-term l = l.rest
