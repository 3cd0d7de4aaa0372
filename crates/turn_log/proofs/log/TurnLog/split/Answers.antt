use Rattle.std.proofs.Common.{arith}
use Rattle.turn_log.proofs.Keeps.{splits}
use Rattle.turn_log.proofs.log.TurnLog.split.Goals as goal

pub split_seat-requires : goal.split_seat-requires
split_seat-requires g c = (
  c.requires.of.0,
  omega (arith, c.args.self.now.sized.0),
  splits g.T.Grows.entries g.T.Grows.home (λ o. g.T.Grows.home o.value) (g.T.Grows.home c.args.self.now.table.shared.key.value) _ _ c.requires.rest,
)
