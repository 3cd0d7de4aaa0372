-- What contracts see of a table and its passes.
use Rattle.std.specs.Prelude.{◌≡◌, false}
use Rattle.turn_log.specs.declared.log.TurnLog.{TurnLog}
use Rattle.turn_log.specs.declared.log.PassOf.{PassOf}
use Rattle.turn_log.specs.Logs.{opening}
use Rattle.turn_log.specs.Passes.{IsOf, is_out}
use Rattle.memo_table.specs.declared.rows.Pair.{Pair}
use Rattle.memo_table.specs.Table.{Table}
use Rattle.memo_table.specs.declared.memo.MemoOf.{MemoOf}

module _ {K V H : Type 0} where
  -- what the pairs of a table are about
  abbrev pub home_of : MemoOf (TurnLog (Table K V H) (Pair K V)) → H
  home_of m = (opening m.log).home

  -- the pass is of the table, and no turn of it is out
  abbrev pub IsPassOf : MemoOf (TurnLog (Table K V H) (Pair K V)) → PassOf (Table K V H) (Pair K V) → Type 0
  IsPassOf m p = IsOf m.log p × (is_out p ≡ false)
