-- What contracts see of a log.
use Rattle.turn_log.specs.declared.log.TurnLog.{TurnLog}

module _ {T E : Type 0} where
  -- the value with which a log was opened, whose home is the log's
  abbrev pub opening : TurnLog T E → T
  opening l = l.table.shared.key.value
