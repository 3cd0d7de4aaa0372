-- The parts of a bundle, as sessions with bytes.
use Rattle.std.specs.Prelude.{ℕ, ◌==◌, if◌then◌else◌, List, [], ◌∷◌, ◌++◌, map}
use Rattle.sessions.specs.declared.parts.Part.{Part}

-- a session with its bytes
pub record Section : Type 0 where
  pub session : ℕ
  pub bytes : List ℕ

abbrev pub section_of : Part → Section
section_of part = record { session = part.session; bytes = part.bytes.items }

abbrev pub sections : List Part → List Section
sections parts = map section_of parts

-- the part of the session gets the bytes behind those that it has; a session without a part gets one behind the others
abbrev pub add_to : ℕ → List ℕ → List Section → List Section
add_to session bytes [] = record { session = session; bytes = bytes } ∷ []
add_to session bytes (part ∷ parts) =
    if part.session == session then record part { bytes = part.bytes ++ bytes } ∷ parts else part ∷ add_to session bytes parts
