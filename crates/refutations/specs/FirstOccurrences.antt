-- How a list of first occurrences goes on.
use Rattle.std.specs.Prelude.{◌≡◌, Bool, not, List, ◌++◌, filter}
use Rattle.fol.specs.declared.symbols.Var.{Var}
use Rattle.refutations.specs.Clauses.{first_occurrences}

-- the first occurrences of what hasn't been seen
abbrev pub unseen : (Var → Bool) → List Var → List Var
unseen seen vs = filter (λ w. not (seen w)) (first_occurrences vs)

-- a list of first occurrences, and what has been seen, before these variables and behind them
pub record GoesOn (firsts : List Var) (seen : Var → Bool) (more : List Var) (after : Var → Bool) (vs : List Var) : Type 0 where
  pub same : (ws : List Var) → more ++ unseen after ws ≡ firsts ++ unseen seen (vs ++ ws)
