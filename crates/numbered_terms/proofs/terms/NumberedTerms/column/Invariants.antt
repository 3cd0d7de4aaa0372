-- The arguments so far go on with those of the rest.
use Rattle.std.proofs.Common.{◌≡◌, ◌≤◌, ◌++◌, drop, map, length, option_map}
use Rattle.std.specs.List.{All}
use Rattle.arena_cells.specs.Standing.{term_at, IsTermAt}
use Rattle.numbered_terms.specs.Walks.{column_of}
use Rattle.numbered_terms.proofs.terms.NumberedTerms.column.Given as goal

abbrev pub invariant-loop-term : goal.invariant-loop-term
invariant-loop-term l = record {
  few : length l.numbers.items ≤ l.term-index;
  terms : All (IsTermAt l.self) l.numbers.items;
  column : option_map (λ rest. map (term_at l.self) l.numbers.items ++ rest) (column_of l.self l.place (drop l.term-index l.terms)) ≡ column_of l.self l.place l.terms;
}
