use Rattle.std.proofs.Common.{arith, ap, ◌∙◌}
use Rattle.turn_log.proofs.Keeps.{joins, looks}
use Rattle.turn_log.proofs.log.TurnLog.join.Goals as goal

pub join_seat-requires : goal.join_seat-requires
join_seat-requires g c = (
  c.requires.of.0.0,
  c.requires.of.1.0,
  c.args.other.holds.0 c.requires.rest.1,
  omega (arith, c.args.self.now.sized.0),
  joins g.T.Grows.entries g.T.Grows.home (λ o. g.T.Grows.home o.value) (g.T.Grows.home c.args.self.now.table.shared.key.value) _ _ _ _ c.requires.rest.0,
)

pub load-requires : goal.load-requires
load-requires g c = (
  c.join_seat.ensures.0 ∙ c.requires.of.0.0,
  omega (arith, c.args.self.now.sized.0),
  looks g.T.Grows.entries g.T.Grows.home (λ o. g.T.Grows.home o.value) (g.T.Grows.home c.args.self.now.table.shared.key.value) _ _ _ (ap (λ m. m.0.is_out) c.join_seat.ensures.2 ∙ c.requires.rest.0),
)
