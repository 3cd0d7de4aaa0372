-- The keys before `low` are below the variable, and those from `high` on are above it.
use Rattle.std.proofs.Common.{◌≡◌, ℕ, ◌-◌, ◌<◌, ◌≤◌, length, get_or}
use Rattle.std.specs.declared.cmp.Ordering.TheVariants.{Less, Greater}
use Rattle.fol.specs.declared.symbols.Var.{Var}
use Rattle.fol.specs.Order.{var_cmp}
use Rattle.substitution.proofs.Places.{keys}
use Rattle.substitution.proofs.bindings.search.Given as goal

abbrev pub invariant-loop-low : goal.invariant-loop-low
invariant-loop-low l = record {
  within : l.low ≤ l.high;
  in_range : l.high ≤ length l.items;
  below : (j : ℕ) (d : Var) → j < l.low → var_cmp (get_or (keys l.items) j d) l.var ≡ Less;
  above : (j : ℕ) (d : Var) → l.high ≤ j → j < length l.items → var_cmp (get_or (keys l.items) j d) l.var ≡ Greater;
}

abbrev pub decreases-loop-low : goal.decreases-loop-low
decreases-loop-low l = l.high - l.low
