-- How trees on sides are coded as trees of numbers, so that a proof can tell them apart.
use Rattle.std.specs.Coded.{Coded}
use base.Stored.{coded×, coded_via}
use Rattle.lk_rules.specs.contracts.sequent.Side as sides
use Rattle.exp_tree.specs.Codes.{coded_exp}
use Rattle.building_laws.specs.Lists.{Placed}

abbrev pub coded_placed : Coded Placed
coded_placed = coded_via (coded× sides.the_row.coded coded_exp) (λ (p : Placed). (p.side, p.tree)) (λ x y e i. record { side = (e i).0; tree = (e i).1 })
