-- What the parts of a bundle are: a fold over its lines.
use Rattle.std.specs.Prelude.{ℕ, List, [], ◌∷◌, ◌++◌, Option, fold}
use Rattle.std.specs.List.{position_from}
use Rattle.edge_io.specs.Lines.{lines_of}
use Rattle.sessions.specs.declared.switches.LineKind.{LineKind}
use Rattle.sessions.specs.declared.switches.LineKind.TheVariants.{Plain, Switch, Faulty}
use Rattle.sessions.specs.Switches.{kind_of, is_faulty}
use Rattle.sessions.specs.Parts.{Section, add_to}

-- how far a bundle is read: the session that the next line belongs to, and the parts in the order of their first switch or line
pub record SoFar : Type 0 where
  pub session : ℕ
  pub parts : List Section

-- before the first line
abbrev pub begun : SoFar
begun = record { session = 0; parts = [] }

-- a switch is turned to, and another line goes to its session with a newline; a faulty switch is passed over
abbrev pub with_kind : LineKind → List ℕ → SoFar → SoFar
with_kind Plain line so_far = record so_far { parts = add_to so_far.session (line ++ 10 ∷ []) so_far.parts }
with_kind (Switch session) line so_far = record { session = session; parts = add_to session [] so_far.parts }
with_kind Faulty line so_far = so_far

abbrev pub with_line : SoFar → List ℕ → SoFar
with_line so_far line = with_kind (kind_of line) line so_far

abbrev pub after_lines : List (List ℕ) → SoFar
after_lines lines = fold with_line begun lines

-- the parts of a bundle
abbrev pub bundle : List ℕ → List Section
bundle bytes = (after_lines (lines_of bytes)).parts

-- the number of the first line that is a faulty switch, counted from 1
abbrev pub first_faulty : List (List ℕ) → Option ℕ
first_faulty lines = position_from is_faulty 1 lines
