-- Only equal maps tie.
use Rattle.std.proofs.Common.{rules}
use Rattle.substitution.proofs.MapLaws.{map_order_same}
use Rattle.substitution.proofs.maps.SubstOrd.cmp.Goals as goal

pub returns-clause-ties : goal.returns-clause-ties
returns-clause-ties c = map_order_same c.args.self.now c.args.other.now c.cmp.result (search rules)
