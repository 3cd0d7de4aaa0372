-- The variables so far are in the set.
use Rattle.std.proofs.Common.{◌≡◌, ℕ, ◌<◌, ◌≤◌, true}
use Rattle.fol.specs.declared.symbols.Var.TheVariants.{Num}
use Rattle.finite.specs.Finite as set
use Rattle.free_variables.specs.Fresh.{is_among}
use Rattle.exp_extract.proofs.names.next_number.Given as goal

abbrev pub invariant-loop-last : goal.invariant-loop-last
invariant-loop-last l = (j : ℕ) → l.number < j → j ≤ l.last → is_among (Num j) (set.listing l.outside) ≡ true
