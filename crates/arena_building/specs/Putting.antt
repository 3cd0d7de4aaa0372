-- Elements at a place of a list.
use Rattle.std.specs.Prelude.{ℕ, List, ◌++◌, take, drop}

-- the list with these at a place, in front of what is there
abbrev pub put : {X : Type 0} → List X → ℕ → List X → List X
put l n ps = take n l ++ (ps ++ drop n l)
