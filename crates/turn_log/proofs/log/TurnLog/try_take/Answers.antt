use Rattle.std.proofs.Common.{◌∷◌, sym, ap, ◌∙◌, Some, arith}
use Rattle.atomic_table.specs.Table.{rest}
use Rattle.turn_log.proofs.Keeps.{claims}
use Rattle.turn_log.proofs.log.TurnLog.try_take.Goals as goal

pub fetch_or-found-requires : goal.fetch_or-found-requires
fetch_or-found-requires g c = (
  c.requires.of.0,
  omega (arith, c.args.self.now.sized.0),
  claims g.T.Grows.entries g.T.Grows.home (λ o. g.T.Grows.home o.value) (g.T.Grows.home c.args.self.now.table.shared.key.value) _ _ _,
)

pub exchange-requires : goal.exchange-requires
exchange-requires g c =
    let took = c.fetch_or-found.ensures.2.0 c.if-found-eq0.true in (
      c.fetch_or-found.ensures.0 ∙ c.requires.of.0,
      (Some took.0, ap (λ m. m.1) took.1 ∙ ap (λ more. (0, Some took.0) ∷ more) (sym (ap (λ m. rest m.1) took.1))),
    )
