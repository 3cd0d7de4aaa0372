-- What the values of the code mean, and what a call gives that may fail.
use Rattle.std.specs.Prelude.{◌≡◌, ℕ, Result, Ok, Err}
use Rattle.tptp_tokens.specs.declared.tokens.TextKind.{TextKind}
use Rattle.tptp_tokens.specs.declared.tokens.TextFault.{TextFault}
use Rattle.tptp_read.specs.declared.errors.StepError.{StepError}
use Rattle.tptp_read.specs.declared.errors.StepError.TheVariants.{Memory as StepMemory, Kind}
use Rattle.tptp_read.specs.declared.errors.TextError.{TextError}
use Rattle.tptp_read.specs.declared.errors.TextError.TheVariants.{Memory as TextMemory, Text}
use Rattle.tptp_read.specs.declared.state.State.{State}
use Rattle.tptp_read.specs.Machine.{Reading}

-- how far the text has been read
abbrev pub meaning : State → Reading
meaning s = record { mode = s.mode; side = s.side; calls = s.calls.items; part = s.part; frames = s.frames.items }

-- what is computed, seen by view, or the kind of a fault, unless memory runs out
abbrev pub Gives : {X Y : Type 0} → (X → Y) → Result X StepError → Result Y TextKind → Type 0
Gives view (Ok x) computed = computed ≡ Ok (view x)
Gives view (Err StepMemory) computed = Unit {0}
Gives view (Err (Kind k)) computed = computed ≡ Err k

-- the same with the place of a fault
abbrev pub GivesText : {X Y : Type 0} → (X → Y) → Result X TextError → Result Y TextFault → Type 0
GivesText view (Ok x) computed = computed ≡ Ok (view x)
GivesText view (Err TextMemory) computed = Unit {0}
GivesText view (Err (Text e)) computed = computed ≡ Err e

-- what holds of a fault, where there is one
abbrev pub IfFault : {X : Type 0} → Result X TextError → (TextFault → Type 0) → Type 0
IfFault (Ok x) P = Unit {0}
IfFault (Err TextMemory) P = Unit {0}
IfFault (Err (Text e)) P = P e

-- the error of a token or of the end of the text, with its place
abbrev pub text_error : ℕ → StepError → TextError
text_error at StepMemory = TextMemory
text_error at (Kind k) = Text (record { at = at; kind = k })
