-- The numbers so far lead to the roots so far.
use Rattle.std.proofs.Common.{◌≡◌, ℕ, ◌<◌, length, get_or}
use Rattle.fol_unify.specs.Classes.{Leads}
use Rattle.fol_unify.proofs.joining.roots_of.Given as goal

abbrev pub invariant-loop-number : goal.invariant-loop-number
invariant-loop-number l = record {
  so_many : length l.roots.items ≡ l.number;
  leads : (n : ℕ) → n < l.number → Leads l.classes n (get_or l.roots.items n 0);
}
