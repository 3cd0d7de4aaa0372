-- Each mark so far is new.
use Rattle.std.proofs.Common.{◌≡◌, ℕ, length}
use Rattle.std.specs.Prelude.{Some, slice_get}
use Rattle.fol_unify.specs.declared.values.Mark.{Mark}
use Rattle.fol_unify.specs.declared.values.Mark.TheVariants.{New}
use Rattle.fol_unify.proofs.values.new_marks.Given as goal

abbrev pub invariant-loop : goal.invariant-loop
invariant-loop l = record {
  so_many : length l.marks.items ≡ l.counter;
  each : (r : ℕ) (m : Mark) → slice_get l.marks.items r ≡ Some m → m ≡ New;
}
