-- What the names of a session stand for.
use Rattle.std.specs.Prelude.{◌≡◌, ℕ, List, Option, Some, option_map, slice_get}
use Rattle.std.specs.HashMap.{get_by_text}
use Rattle.operation_laws.specs.Values.{Value}
use Rattle.session_laws.specs.Answers.{Past, held_of}
use Rattle.job_windows.specs.declared.names.Names.{Names}

-- the names are those of these jobs: at the place of each stands what the first job with it holds
abbrev pub Knows : Names → List (Option Value) → List Past → Type 0
Knows names held earlier = (q : List ℕ) → option_map (slice_get held) (get_by_text names.places q) ≡ option_map (λ v. Some (Some v)) (held_of earlier q)
