-- What stands in the way of a transformation of a proof, in order.
--     Placed, on_sides      a formula with its side; what is found on the left, else what is found on the right
--     first_defined      the first formula of a sequent in which a predicate symbol has a body
--     or_fault      the first fault, or what there is without one
use Rattle.std.specs.Prelude.{Option, Some, None, Result, Err}
use Rattle.std.specs.List.{find}
use Rattle.fol.specs.Syntax.{Formula}
use Rattle.fol.specs.Facts.{has_body}
use Rattle.finite.specs.Finite as set
use Rattle.lk_rules.specs.declared.sequent.Sequent.{Sequent}
use Rattle.lk_rules.specs.declared.sequent.Side.{Side}
use Rattle.lk_rules.specs.declared.sequent.Side.TheVariants.{Left, Right}

-- a formula with the side of a sequent on which it stands
abbrev pub Placed : Type 0
Placed = Formula × Side

-- what is found on the left, else what is found on the right
abbrev pub on_sides : Option Formula → Option Formula → Option Placed
on_sides (Some f) right = Some (f, Left)
on_sides None (Some f) = Some (f, Right)
on_sides None None = None

-- the first formula of the sequent in which a predicate symbol has a body
abbrev pub first_defined : Sequent → Option Placed
first_defined s = on_sides (find has_body (set.listing s.left)) (find has_body (set.listing s.right))

-- what is found is the fault; where there is nothing, the rest says what is answered
abbrev pub or_fault : {A X F : Type 0} → (A → F) → Option A → Result X F → Result X F
or_fault fault None rest = rest
or_fault fault (Some a) rest = Err (fault a)
