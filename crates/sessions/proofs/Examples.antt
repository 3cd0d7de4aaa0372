-- Worked examples: bundles of a few lines, and switches that are faulty.
use Rattle.std.proofs.Common.{◌≡◌, ℕ, List, [], ◌∷◌, map, Some, None, codes, refl}
use Rattle.std.specs.Fmt.{decimal, digits}
use Rattle.edge_io.specs.Lines.{lines_of}
use Rattle.sessions.specs.Switches.{session_of}
use Rattle.sessions.specs.Bundles.{bundle, first_faulty}

-- the sessions 1 and 0 in turns
in_turns : bundle (codes "@1\na\n@0\nb\n@1\nc\n")
    ≡ record { session = 1; bytes = codes "a\nc\n" } ∷ record { session = 0; bytes = codes "b\n" } ∷ []
in_turns = refl

-- nothing
of_nothing : bundle [] ≡ []
of_nothing = refl

-- a blank line before any switch
blank_first : bundle (codes "\n@2\nx\n") ≡ record { session = 0; bytes = codes "\n" } ∷ record { session = 2; bytes = codes "x\n" } ∷ []
blank_first = refl

-- a switch alone, and a last line without newline
last_line : bundle (codes "@15\n@3\nx") ≡ record { session = 15; bytes = [] } ∷ record { session = 3; bytes = codes "x\n" } ∷ []
last_line = refl

-- switches without newline at the end are switches too
last_switch : bundle (codes "x\n@7") ≡ record { session = 0; bytes = codes "x\n" } ∷ record { session = 7; bytes = [] } ∷ []
last_switch = refl

-- an `@` that isn't first makes no switch
no_switch : first_faulty (lines_of (codes " @1\na@\n@0\n")) ≡ None
no_switch = refl

-- a zero before the number
leading_zero : first_faulty (lines_of (codes "a\n@01\n")) ≡ Some 2
leading_zero = refl

-- one too many
too_great : first_faulty (lines_of (codes "@15\n@16\n@17\n")) ≡ Some 2
too_great = refl

no_number : first_faulty (lines_of (codes "@")) ≡ Some 1
no_number = refl

a_sign : first_faulty (lines_of (codes "@-1\n")) ≡ Some 1
a_sign = refl

-- a space behind the number
a_space : first_faulty (lines_of (codes "@1 \n")) ≡ Some 1
a_space = refl

-- a carriage return behind it
a_return : first_faulty (lines_of (codes "@1\r\n")) ≡ Some 1
a_return = refl

-- the numbers of all sessions, as they are printed, and the next one
numbers : List ℕ
numbers = 0 ∷ 1 ∷ 2 ∷ 3 ∷ 4 ∷ 5 ∷ 6 ∷ 7 ∷ 8 ∷ 9 ∷ 10 ∷ 11 ∷ 12 ∷ 13 ∷ 14 ∷ 15 ∷ []

each_number : map (λ (n : ℕ). session_of (decimal n)) numbers ≡ map Some numbers
unfolding numbers digits
each_number = refl

no_sixteenth : session_of (decimal 16) ≡ None
unfolding digits
no_sixteenth = refl
