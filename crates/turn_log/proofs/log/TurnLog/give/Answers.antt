use Rattle.std.proofs.Common.{arith, ◌∙◌}
use Rattle.turn_log.proofs.Keeps.{settles}
use Rattle.turn_log.proofs.log.TurnLog.give.Goals as goal

pub store-requires : goal.store-requires
store-requires g c = (
  c.exchange.ensures.0 ∙ c.requires.of.0,
  omega (arith, c.args.self.now.sized.0),
  settles g.T.Grows.entries g.T.Grows.home (λ o. g.T.Grows.home o.value) (g.T.Grows.home c.args.self.now.table.shared.key.value) _ _ c.args.pass.now.seat.me _ _ _
      c.args.self.now.sized.1 c.exchange.ensures.3 c.requires.out c.requires.home c.requires.grown c.count-settled.ensures.length,
)
