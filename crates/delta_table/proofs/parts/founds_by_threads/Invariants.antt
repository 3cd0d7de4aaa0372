-- The rows so far go on with those of the later first tuples, which the other parts have.
use Rattle.std.proofs.Common.{◌≡◌, ℕ, ◌+◌, ◌<◌, ◌++◌, List, [], map, length, drop, get_or, Result, IfOk}
use Rattle.std.specs.List.{All}
use Rattle.std.specs.declared.alloc.AllocError.{AllocError}
use Rattle.numbered_terms.specs.Numbered.{tuples_at, IsTermSet}
use Rattle.delta_table.specs.declared.founds.Found.{Found}
use Rattle.delta_table.specs.FoundRows.{founds_after, founds_from, founds, row_at, AreRows}
use Rattle.delta_table.proofs.parts.founds_by_threads.Given as goal

abbrev pub invariant-loop-at : goal.invariant-loop-at
invariant-loop-at g l = record {
  so_far : map (row_at l.terms) l.rows.items ++ founds_after l.width [] 0 l._at (drop l._at (tuples_at l.terms l.tuples)) ≡ founds l.width (tuples_at l.terms l.tuples);
  sets : All (λ f. IsTermSet l.terms f.values) l.rows.items;
  left : l._at + length l.parts.items ≡ length l.tuples;
  each : (k : ℕ) (d : Result (List Found) AllocError) → k < length l.parts.items → IfOk (get_or l.parts.items k d) (λ rows. AreRows l.terms rows (founds_from l.width (tuples_at l.terms l.tuples) (l._at + k)));
}
