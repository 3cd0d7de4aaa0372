-- What a table says of the things of one arena that stand in another one.
use Rattle.std.specs.Prelude.{ℕ, nat_eq, List, IfSome}
use Rattle.std.specs.HashMap as hash
use Rattle.arena_cells.specs.Items.{Item}
use Rattle.arena_cells.specs.Standing.{Stands, item_at}
use Rattle.arena_copy.specs.declared.copied.Copied.{Copied}

-- what stands in a at a number of the table stands in b at the number that the table has for it
abbrev pub AreCopied : List Item → List Item → Copied → Type 0
AreCopied a b c = (q : ℕ) → IfSome (hash.get nat_eq c.numbers q) (λ n. Stands b n (item_at a q))
