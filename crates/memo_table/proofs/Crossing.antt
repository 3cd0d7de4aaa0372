-- The pairs of a table may cross to another thread, and be shared, where its keys and values may, as a set for `search`.
use denote.RattleType.{RattleType}
use denote.Param.Send.{IsSend, IsSync, sendable}
use Rattle.std.specs.declared.cmp.Ord as ord
use Rattle.std.specs.declared.cmp.PartialEq as eq
use Rattle.std.specs.declared.cmp.PartialOrd as partial
use Rattle.std.proofs.Crossing as std
use Rattle.std.proofs.MapsCrossing as maps
use Rattle.memo_table.specs.declared.law.Law as law
use Rattle.memo_table.specs.contracts.rows.Rows as rows

module _ (L K V H : RattleType) (g : law.Ghosts L.Denot K.Denot V.Denot H.Denot) (o : ord.Ghosts K.Denot) (e : eq.Ghosts K.Denot) (p : partial.Ghosts K.Denot) where
  pub rows_send : IsSend K → IsSend V → IsSend (rows.the_field L K V H g o e p).row
  rows_send sk sv = let a = maps.BTreeMap-send K V o e p sk sv in search (sendable, std.crosses) depth 20

  pub rows_sync : IsSync K → IsSync V → IsSync (rows.the_field L K V H g o e p).row
  rows_sync yk yv = let a = maps.BTreeMap-sync K V o e p yk yv in search (sendable, std.crosses) depth 20

pub ruleset crosses = (rows_send, rows_sync)
