-- No bindings show the map with none.
use Rattle.fol.specs.Order.{var_cmp}
use Rattle.substitution.proofs.Places.{from_sorted-empty}
use Rattle.substitution.proofs.maps.Subst.new.Goals as goal

pub returns : goal.returns
returns c = rw c.new.ensures.items (from_sorted-empty var_cmp)
