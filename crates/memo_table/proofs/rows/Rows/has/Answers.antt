use Rattle.std.proofs.Common.{ap}
use Rattle.memo_table.proofs.Finds.{cases_from_lookup}
use Rattle.memo_table.proofs.rows.Rows.has.Goals as goal

pub returns : goal.returns
returns g c =
    cases_from_lookup g.L.Key.Ord.cmp _ _ _ c.self.invariant c.args.key.now _ _ c.contains_key.ensures (ap (λ t. t.pairs) c.self.view_is)
