-- Lines of printable text.
use Rattle.std.specs.Prelude.{◌≡◌, ◌≤◌, ℕ, List, [], ◌∷◌, ◌++◌}
use Rattle.std.specs.List.{All}

-- bytes that are one line: printable ASCII, and a newline at the end
pub record IsPrintableLine (bytes : List ℕ) : Type 0 where
  pub text : List ℕ
  pub ends : bytes ≡ text ++ 10 ∷ []
  pub printable : All (λ b. (32 ≤ b) × (b ≤ 126)) text
