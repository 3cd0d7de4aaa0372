-- What contracts see of a pass.
use Rattle.std.specs.Prelude.{◌≡◌, Bool, List, Some}
use Rattle.turn_log.specs.declared.log.TurnLog.{TurnLog}
use Rattle.turn_log.specs.declared.log.PassOf.{PassOf}

module _ {T E : Type 0} where
  -- the entries that a pass has seen, the oldest first
  abbrev pub seen : PassOf T E → List E
  seen p = p.seat.me.0.seen

  -- whether a turn of a pass is out
  abbrev pub is_out : PassOf T E → Bool
  is_out p = p.seat.me.0.is_out

  -- the pass is of the log
  abbrev pub IsOf : TurnLog T E → PassOf T E → Type 0
  IsOf l p = (p.seat.table_id ≡ l.table.shared.table_id) × (p.seat.me.0.opening ≡ Some l.table.shared.key)
