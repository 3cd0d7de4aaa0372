-- The sides of an equivalence.
use Rattle.std.proofs.Common.{◌≡◌, Bool, true}
use Rattle.std.specs.Ordering.{eq_by_cmp}
use Rattle.fol.specs.Syntax.{Formula, and, imp}
use Rattle.fol.specs.Order.{formula_cmp}
use Rattle.fol.proofs.OrderTies.{formula_equality_same}
use Rattle.substitution.specs.Sharing.{equivalence}

-- two implications are an equivalence where each has the sides of the other, turned round
pub turned_round : (f forth back a b c d : Formula) (p q : Bool) → and forth back ≡ f → imp a b ≡ forth → imp c d ≡ back
    → p ≡ eq_by_cmp formula_cmp a d → p ≡ true → q ≡ eq_by_cmp formula_cmp b c → q ≡ true → f ≡ equivalence a b
turned_round f forth back a b c d p q is to from outer p_is inner q_is =
    let first : a ≡ d = (formula_equality_same a d p outer).0 p_is in
    let second : b ≡ c = (formula_equality_same b c q inner).0 q_is in
    cc
