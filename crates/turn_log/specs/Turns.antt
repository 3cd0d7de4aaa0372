-- The value of a turn.
use Rattle.turn_log.specs.declared.turn.Turn.{Turn}

abbrev pub value_in : {T : Type 0} → Turn T → T
value_in t = t.value
