-- Where the number at hand leads, the first one leads. Heights rise.
use Rattle.std.proofs.Common.{ℕ, ◌<◌, ◌-◌, ◌^◌, length, get_or}
use Rattle.fol_unify.specs.Classes.{Leads}
use Rattle.fol_unify.proofs.classes.root_of.Given as goal

abbrev pub invariant-loop-at : goal.invariant-loop-at
invariant-loop-at l = record {
  below : l.at < length l.links;
  leads : (r : ℕ) → Leads l.links l.at r → Leads l.links l.number r;
}

abbrev pub decreases-loop-at : goal.decreases-loop-at
decreases-loop-at l = 2 ^ 32 - get_or l.heights l.at 0
