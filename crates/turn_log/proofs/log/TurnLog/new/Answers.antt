use Rattle.std.proofs.Common.{rules}
use Rattle.turn_log.proofs.Keeps.{opens}
use Rattle.turn_log.proofs.log.TurnLog.new.Goals as goal

pub new-requires : goal.new-requires
new-requires g c =
    opens g.T.Grows.entries g.T.Grows.home (λ o. g.T.Grows.home o.value) (g.T.Grows.home c.of-key.result.value) _ _ _ _ (search rules) (search rules) (search rules) (search rules)
