-- What a line of a bundle is.
use Rattle.std.specs.Prelude.{ℕ, ◌+◌, ◌-◌, ◌==◌, ◌&&◌, Bool, true, false, nat_le, if◌then◌else◌, List, [], ◌∷◌, Option, Some, None}
use Rattle.sessions.specs.declared.switches.LineKind.{LineKind}
use Rattle.sessions.specs.declared.switches.LineKind.TheVariants.{Plain, Switch, Faulty}

-- a decimal digit
abbrev pub is_digit : ℕ → Bool
is_digit b = nat_le 48 b && nat_le b 57

-- the session whose number these bytes write: from 0 to 15 in decimal digits, without leading zeros
abbrev pub session_of : List ℕ → Option ℕ
session_of [] = None
session_of (unit ∷ []) = if is_digit unit then Some (unit - 48) else None
session_of (ten ∷ unit ∷ []) = if ten == 49 && (is_digit unit && nat_le unit 53) then Some (10 + (unit - 48)) else None
session_of (a ∷ b ∷ c ∷ more) = None

-- a switch to the session that was named, if one was
abbrev pub switch_to : Option ℕ → LineKind
switch_to (Some session) = Switch session
switch_to None = Faulty

-- a line that begins with `@` is a switch to the session whose number follows, and a faulty one where no such number does
abbrev pub kind_of : List ℕ → LineKind
kind_of [] = Plain
kind_of (first ∷ number) = if first == 64 then switch_to (session_of number) else Plain

abbrev pub is_fault : LineKind → Bool
is_fault Plain = false
is_fault (Switch session) = false
is_fault Faulty = true

-- a line that begins with `@` and is no switch to a session
abbrev pub is_faulty : List ℕ → Bool
is_faulty line = is_fault (kind_of line)
