-- Classes of numbers, by lists of where each number leads.
--     next, Leads      where a number leads, and the root to which it does at last
--     AreRising      heights that rise from each number to the next
--     roots_from      how many numbers are roots
use Rattle.std.specs.Prelude.{◌≡◌, ℕ, suc, ◌+◌, ◌<◌, ◌==◌, if◌then◌else◌, ◌⊎◌, List, [], ◌∷◌, length, slice_index}

-- where a number leads
abbrev pub next : List ℕ → ℕ → ℕ
next ls n = slice_index ls n

-- a number leads to a root, which leads to itself
pub data Leads (ls : List ℕ) : ℕ → ℕ → Type 0 where
  here : (r : ℕ) → next ls r ≡ r → Leads ls r r
  further : (n r : ℕ) → Leads ls (next ls n) r → Leads ls n r

-- each number but a root is lower than the next one
pub record AreRising (ls hs : List ℕ) : Type 0 where
  pub so_many : length hs ≡ length ls
  pub within : (n : ℕ) → n < length ls → next ls n < length ls
  pub rising : (n : ℕ) → n < length ls → (next ls n ≡ n) ⊎ (slice_index hs n < slice_index hs (next ls n))

-- how many of the numbers from i on lead to themselves
abbrev pub roots_from : ℕ → List ℕ → ℕ
roots_from i [] = 0
roots_from i (l ∷ ls) = (if l == i then 1 else 0) + roots_from (suc i) ls
