-- What each answer of `read_bundle` says.
use Rattle.std.specs.Prelude.{◌≡◌, ℕ, ◌≤◌, ◌⊎◌, List, [], ◌∷◌, ◌++◌, length, All, Option, Some, None}
use Rattle.std.specs.Io.KnownBytes.{Consumes, IsAtEnd}
use Rattle.edge_io.specs.Causes.{Rose}
use Rattle.edge_io.specs.Lines.{lines_of, whole_lines}
use Rattle.sessions.specs.declared.parts.Part.{Part}
use Rattle.sessions.specs.declared.reading.Bundle.{Bundle}
use Rattle.sessions.specs.declared.reading.Bundle.TheVariants.{Parts, Switch, ReadFault, InputFull, Memory}
use Rattle.sessions.specs.Parts.{sections}
use Rattle.sessions.specs.Bundles.{bundle, first_faulty}

-- the most bytes that a bundle may have
abbrev pub max_bytes : ℕ
max_bytes = 67108864

-- the source was read to its end, no line is a faulty switch, and these are the parts
pub record IsWhole (parts : List Part) (before after : Option (List ℕ)) : Type 0 where
  pub input : List ℕ
  pub from : Consumes before after input
  pub at_end : IsAtEnd after
  pub within : length input ≤ max_bytes
  pub right : first_faulty (lines_of input) ≡ None
  pub parts_are : sections parts ≡ bundle input

-- the line with this number is the first that is a faulty switch: among the whole lines taken, or all lines of a source at its end
pub record HasFaulty (number : ℕ) (before after : Option (List ℕ)) : Type 0 where
  pub taken : List ℕ
  pub from : Consumes before after taken
  pub within : length taken ≤ max_bytes
  pub first : (first_faulty (whole_lines taken) ≡ Some number) ⊎ (IsAtEnd after × (first_faulty (lines_of taken) ≡ Some number))

-- reading failed where no whole line taken is a faulty switch
pub record IsCutOff (before after : Option (List ℕ)) : Type 0 where
  pub taken : List ℕ
  pub from : Consumes before after taken
  pub within : length taken ≤ max_bytes
  pub right : first_faulty (whole_lines taken) ≡ None

-- as many bytes as a bundle may have were taken, no whole line of them a faulty switch, and a further byte came
pub record IsFull (before after : Option (List ℕ)) : Type 0 where
  pub input : List ℕ
  pub byte : ℕ
  pub from : Consumes before after (input ++ byte ∷ [])
  pub exact : length input ≡ max_bytes
  pub right : first_faulty (whole_lines input) ≡ None

-- no more bytes were taken than a bundle may have
pub record IsPartTaken (before after : Option (List ℕ)) : Type 0 where
  pub taken : List ℕ
  pub from : Consumes before after taken
  pub within : length taken ≤ max_bytes

-- what each answer says; f and f' are the source's faults, and before and after the bytes that it has left
abbrev pub Reads : Bundle → ℕ → ℕ → Option (List ℕ) → Option (List ℕ) → Type 0
Reads (Parts parts) f f' before after = IsWhole parts.items before after
Reads (Switch number) f f' before after = HasFaulty number before after
Reads ReadFault f f' before after = Rose f f' × IsCutOff before after
Reads InputFull f f' before after = IsFull before after
Reads Memory f f' before after = IsPartTaken before after

-- what an answer tells of all the bytes of a source: its parts, where no line is a faulty switch, or the first line that is one
abbrev pub Tells : Bundle → List ℕ → Type 0
Tells (Parts parts) input = (first_faulty (lines_of input) ≡ None) × (sections parts.items ≡ bundle input)
Tells (Switch number) input = first_faulty (lines_of input) ≡ Some number
Tells ReadFault input = Unit {0}
Tells InputFull input = Unit {0}
Tells Memory input = Unit {0}

-- one of the sessions 0 to 15, with at most the bytes of a bundle and a last newline
abbrev pub IsSmall : Part → Type 0
IsSmall part = (part.session ≤ 15) × (length part.bytes.items ≤ 67108865)

abbrev pub AreSmall : Bundle → Type 0
AreSmall (Parts parts) = All IsSmall parts.items
AreSmall (Switch number) = Unit {0}
AreSmall ReadFault = Unit {0}
AreSmall InputFull = Unit {0}
AreSmall Memory = Unit {0}
