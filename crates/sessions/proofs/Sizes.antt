-- How many bytes the parts of a bundle have, and which sessions.
use Rattle.std.proofs.Common.{◌≡◌, ℕ, ◌+◌, ◌-◌, ◌≤◌, Bool, true, false, cond, eqb, leb, ◌&&◌, List, [], ◌∷◌, ◌++◌, length, Some}
use Rattle.std.proofs.Common.{None, refl, sym, ap, subst, arith, length-append}
use Rattle.std.specs.Prelude.{All, fold}
use Rattle.std.specs.List.{AllByRecursion}
use Rattle.std.proofs.lemmas.Bool.Decides.{nat_tests}
use Rattle.std.proofs.lemmas.List.Elements.{All-from_recursion}
use Rattle.sessions.specs.declared.switches.LineKind.{LineKind}
use Rattle.sessions.specs.declared.switches.LineKind.TheVariants.{Plain, Switch, Faulty}
use Rattle.sessions.specs.declared.parts.Part.{Part}
use Rattle.sessions.specs.Switches.{is_digit, session_of, switch_to, kind_of}
use Rattle.sessions.specs.Parts.{Section, sections, add_to}
use Rattle.sessions.specs.Bundles.{SoFar, begun, with_kind, with_line, after_lines}

-- the bytes of lines, each with its newline
abbrev pub line_bytes : List (List ℕ) → ℕ
line_bytes [] = 0
line_bytes (line ∷ lines) = (length line + 1) + line_bytes lines

pub line_bytes_push : (lines : List (List ℕ)) (line : List ℕ) → line_bytes (lines ++ line ∷ []) ≡ line_bytes lines + (length line + 1)
line_bytes_push [] line = omega arith
line_bytes_push (first ∷ lines) line = omega (arith, line_bytes_push lines line)

pub length-le-line_bytes : (lines : List (List ℕ)) → length lines ≤ line_bytes lines
length-le-line_bytes [] = omega arith
length-le-line_bytes (line ∷ lines) = omega (arith, length-le-line_bytes lines)

-- the bytes of all parts
abbrev part_bytes : List Section → ℕ
part_bytes [] = 0
part_bytes (part ∷ parts) = length part.bytes + part_bytes parts

part_bytes-add_to : (session : ℕ) (bytes : List ℕ) (parts : List Section) → part_bytes (add_to session bytes parts) ≡ part_bytes parts + length bytes
part_bytes-add_to session bytes [] = omega arith
part_bytes-add_to session bytes (part ∷ parts) = step (eqb part.session session) (part_bytes-add_to session bytes parts)
  where
    step : (t : Bool) → part_bytes (add_to session bytes parts) ≡ part_bytes parts + length bytes
        → part_bytes (cond t (record part { bytes = part.bytes ++ bytes } ∷ parts) (part ∷ add_to session bytes parts))
        ≡ (length part.bytes + part_bytes parts) + length bytes
    step true rest = omega (arith, length-append part.bytes bytes)
    step false rest = omega (arith, rest)

-- one of the sessions 0 to 15
abbrev IsNamed : Section → Type 0
IsNamed part = part.session ≤ 15

named-add_to : (session : ℕ) (bytes : List ℕ) (parts : List Section) → session ≤ 15
    → AllByRecursion IsNamed parts → AllByRecursion IsNamed (add_to session bytes parts)
named-add_to session bytes [] small all = (small, tt)
named-add_to session bytes (part ∷ parts) small all = step (eqb part.session session) (named-add_to session bytes parts small all.1)
  where
    step : (t : Bool) → AllByRecursion IsNamed (add_to session bytes parts)
        → AllByRecursion IsNamed (cond t (record part { bytes = part.bytes ++ bytes } ∷ parts) (part ∷ add_to session bytes parts))
    step true rest = (all.0, all.1)
    step false rest = (all.0, rest)

-- what holds of a bundle so far, whose lines have so many bytes
record IsFair (bytes : ℕ) (so_far : SoFar) : Type 0 where
  pub session : so_far.session ≤ 15
  pub named : AllByRecursion IsNamed so_far.parts
  pub few : part_bytes so_far.parts ≤ bytes

-- a switch is to one of these sessions
abbrev IsSmallSwitch : LineKind → Type 0
IsSmallSwitch Plain = Unit {0}
IsSmallSwitch (Switch session) = session ≤ 15
IsSmallSwitch Faulty = Unit {0}

small_switch : (number : List ℕ) → IsSmallSwitch (switch_to (session_of number))
small_switch [] = tt
small_switch (unit ∷ []) = step (is_digit unit) refl
  where
    step : (t : Bool) → is_digit unit ≡ t → IsSmallSwitch (switch_to (cond t (Some (unit - 48)) None))
    step true test = let below : unit ≤ 57 = grind (arith, nat_tests) in omega arith
    step false test = tt
small_switch (ten ∷ unit ∷ []) = step (eqb ten 49 && (is_digit unit && leb unit 53)) refl
  where
    step : (t : Bool) → (eqb ten 49 && (is_digit unit && leb unit 53)) ≡ t → IsSmallSwitch (switch_to (cond t (Some (10 + (unit - 48))) None))
    step true test = let below : unit ≤ 53 = grind (arith, nat_tests) in omega arith
    step false test = tt
small_switch (a ∷ b ∷ c ∷ more) = tt

small_kind : (line : List ℕ) → IsSmallSwitch (kind_of line)
small_kind [] = tt
small_kind (first ∷ number) = step (eqb first 64)
  where
    step : (t : Bool) → IsSmallSwitch (cond t (switch_to (session_of number)) Plain)
    step true = small_switch number
    step false = tt

fair_kind : (kind : LineKind) (line : List ℕ) (bytes : ℕ) (so_far : SoFar) → IsSmallSwitch kind → IsFair bytes so_far
    → IsFair (bytes + (length line + 1)) (with_kind kind line so_far)
fair_kind Plain line bytes so_far small fair = record {
  session = fair.session;
  named = named-add_to so_far.session (line ++ 10 ∷ []) so_far.parts fair.session fair.named;
  few = let few = fair.few in omega (arith, part_bytes-add_to so_far.session (line ++ 10 ∷ []) so_far.parts, length-append line (10 ∷ []));
}
fair_kind (Switch session) line bytes so_far small fair = record {
  session = small;
  named = named-add_to session [] so_far.parts small fair.named;
  few = let few = fair.few in omega (arith, part_bytes-add_to session [] so_far.parts);
}
fair_kind Faulty line bytes so_far small fair = record {
  session = fair.session;
  named = fair.named;
  few = let few = fair.few in omega arith;
}

fair_lines : (lines : List (List ℕ)) (bytes : ℕ) (so_far : SoFar) → IsFair bytes so_far
    → IsFair (bytes + line_bytes lines) (fold with_line so_far lines)
fair_lines [] bytes so_far fair = record { session = fair.session; named = fair.named; few = let few = fair.few in omega arith }
fair_lines (line ∷ lines) bytes so_far fair =
    let first = fair_kind (kind_of line) line bytes so_far (small_kind line) fair in
    let rest = fair_lines lines (bytes + (length line + 1)) (with_line so_far line) first in
    record { session = rest.session; named = rest.named; few = let few = rest.few in omega arith }

small_parts : (most : ℕ) (parts : List Part) → AllByRecursion IsNamed (sections parts) → part_bytes (sections parts) ≤ most
    → AllByRecursion (λ (part : Part). (part.session ≤ 15) × (length part.bytes.items ≤ most)) parts
small_parts most [] named few = tt
small_parts most (part ∷ parts) named few = ((named.0, omega arith), small_parts most parts named.1 (omega arith))

-- each part is one of the sessions 0 to 15, and has at most the bytes of all lines
pub parts_are_small : (most : ℕ) (parts : List Part) (lines : List (List ℕ)) → sections parts ≡ (after_lines lines).parts → line_bytes lines ≤ most
    → All (λ (part : Part). (part.session ≤ 15) × (length part.bytes.items ≤ most)) parts
parts_are_small most parts lines same few =
    let fair = fair_lines lines 0 begun (record { session = omega arith; named = tt; few = omega arith }) in
    let named : AllByRecursion IsNamed (sections parts) = subst (AllByRecursion IsNamed) (sym same) fair.named in
    let bytes : part_bytes (sections parts) ≤ most = let fewer = fair.few in omega (arith, ap part_bytes same) in
    All-from_recursion (λ (part : Part). (part.session ≤ 15) × (length part.bytes.items ≤ most)) parts (small_parts most parts named bytes)
