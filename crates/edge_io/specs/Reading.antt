-- What each answer of `next_line` says.
use Rattle.std.specs.Prelude.{◌≡◌, ℕ, ◌+◌, ◌<◌, ◌≤◌, true, false, ◌⊎◌, List, [], ◌∷◌, ◌++◌, length, Option}
use Rattle.std.specs.Io.KnownBytes.{Consumes, IsAtEnd}
use Rattle.edge_io.specs.declared.next.Next.{Next}
use Rattle.edge_io.specs.declared.next.Next.TheVariants.{Line, TooLong, End, ReadFault, InputFull, Memory}
use Rattle.edge_io.specs.Causes.{Rose}
use Rattle.edge_io.specs.Lines.{OneLine}
use Rattle.edge_io.specs.Reader.{Reader, allowance}

-- what the answer tells of the line: its bytes, or that it is too long
abbrev pub Tells : Next → ℕ → List ℕ → Type 0
Tells (Line v) max line = (v.items ≡ line) × (length line ≤ max)
Tells TooLong max line = max < length line
Tells End max line = ⊥
Tells ReadFault max line = ⊥
Tells InputFull max line = ⊥
Tells Memory max line = ⊥

-- the line's bytes in the input: with its newline, or at the end of input as a last line that isn't empty
abbrev pub IsText : List ℕ → List ℕ → Reader → Option (List ℕ) → Type 0
IsText text line new after = ((new.at_end ≡ false) × (text ≡ line ++ 10 ∷ []))
    ⊎ ((new.at_end ≡ true) × (text ≡ line) × (0 < length line) × (new.pending ≡ []) × IsAtEnd after)

-- the next line is handed on: the bytes that were pending, and those taken now, are the line's text and what is pending now
pub record HandsOn (next : Next) (max : ℕ) (old new : Reader) (before after : Option (List ℕ)) : Type 0 where
  pub line : List ℕ
  pub text : List ℕ
  pub taken : List ℕ
  pub fresh : old.at_end ≡ false
  pub told : Tells next max line
  pub one : OneLine line
  pub whole : IsText text line new after
  pub from : Consumes before after taken
  pub bytes : old.pending ++ taken ≡ text ++ new.pending
  pub within : allowance old ≡ length text + allowance new
  pub goes_on : new.ended ≡ false

-- nothing is left: the end of input was met before, or is met now with no byte pending
abbrev pub IsDone : Reader → Option (List ℕ) → Option (List ℕ) → Type 0
IsDone old before after = ((old.at_end ≡ true) × (old.pending ≡ []) × (after ≡ before))
    ⊎ ((old.at_end ≡ false) × (old.pending ≡ []) × Consumes before after [] × IsAtEnd after)

-- a line was cut off: the bytes that were pending, and those taken now, are within the limit and have no newline
abbrev pub CutsOff : Reader → Option (List ℕ) → Option (List ℕ) → Type 0
CutsOff old before after = (taken : List ℕ) × Consumes before after taken
    × OneLine (old.pending ++ taken) × (length (old.pending ++ taken) ≤ allowance old)

-- as many bytes as the limit allows were taken, none of them a newline of this line, and a further byte came
abbrev pub Overflows : Reader → Option (List ℕ) → Option (List ℕ) → Type 0
Overflows old before after = (taken : List ℕ) × (byte : ℕ) × Consumes before after (taken ++ byte ∷ [])
    × OneLine (old.pending ++ taken) × (length (old.pending ++ taken) ≡ allowance old)

-- memory ran out in the midst of a line: the bytes that were pending, and those taken now, are a part of it and what is pending now
pub record LacksMemory (old new : Reader) (before after : Option (List ℕ)) : Type 0 where
  pub part : List ℕ
  pub taken : List ℕ
  pub one : OneLine part
  pub from : Consumes before after taken
  pub bytes : old.pending ++ taken ≡ part ++ new.pending
  pub within : allowance old ≡ length part + allowance new

-- what each answer says; f and f' are the source's faults, and before and after the bytes that it has left
abbrev pub Answers : Next → ℕ → ℕ → ℕ → Reader → Reader → Option (List ℕ) → Option (List ℕ) → Type 0
Answers (Line v) max f f' old new before after = HandsOn (Line v) max old new before after
Answers TooLong max f f' old new before after = HandsOn TooLong max old new before after
Answers End max f f' old new before after = IsDone old before after × (new.ended ≡ true)
Answers ReadFault max f f' old new before after = Rose f f' × (old.at_end ≡ false) × CutsOff old before after × (new.ended ≡ true)
Answers InputFull max f f' old new before after = (old.at_end ≡ false) × Overflows old before after × (new.ended ≡ true)
Answers Memory max f f' old new before after = (old.at_end ≡ false) × LacksMemory old new before after × (new.ended ≡ true)
