-- Ranks of numbers along links.
--     is_level      a link from a number along which the rank stays
--     NeverFall      no rank falls along a link
use Rattle.std.specs.Prelude.{ℕ, ◌≤◌, Bool, ◌&&◌, List, nat_eq, slice_index}
use Rattle.std.specs.List.{All}
use Rattle.exp_check.specs.declared.links.Link.{Link}

abbrev pub is_level : List ℕ → ℕ → Link → Bool
is_level ranks i l = nat_eq l.before i && nat_eq (slice_index ranks l.before) (slice_index ranks l.after)

abbrev pub NeverFall : List ℕ → List Link → Type 0
NeverFall ranks ls = All (λ l. slice_index ranks l.before ≤ slice_index ranks l.after) ls
