-- The rows so far go on with those of the later first tuples.
use Rattle.std.proofs.Common.{◌≡◌, ◌++◌, [], map, drop}
use Rattle.std.specs.List.{All}
use Rattle.numbered_terms.specs.Numbered.{tuples_at, IsTermSet}
use Rattle.delta_table.specs.FoundRows.{founds_after, founds, row_at}
use Rattle.delta_table.proofs.founds.founds.Given as goal

abbrev pub invariant-loop-at : goal.invariant-loop-at
invariant-loop-at l = record {
  so_far : map (row_at l.terms) l.rows.items ++ founds_after l.width [] 0 l.at (drop l.at (tuples_at l.terms l.tuples)) ≡ founds l.width (tuples_at l.terms l.tuples);
  sets : All (λ f. IsTermSet l.terms f.values) l.rows.items;
}
