-- The numbered variable of least number outside a list.
use Rattle.std.specs.Prelude.{◌≡◌, ℕ, zero, suc, ◌+◌, ◌<◌, Bool, true, if◌then◌else◌, List, length, Contains}
use Rattle.std.specs.List.{list_any}
use Rattle.std.specs.Ordering.{eq_by_cmp}
use Rattle.fol.specs.declared.symbols.Var.{Var}
use Rattle.fol.specs.declared.symbols.Var.TheVariants.{Num}
use Rattle.fol.specs.Order.{var_cmp}

-- whether v is one of a list
abbrev pub is_among : Var → List Var → Bool
is_among v vs = list_any (eq_by_cmp var_cmp v) vs

-- each number below n is in the list
abbrev pub HasBelow : List Var → ℕ → Type 0
HasBelow vs n = (k : ℕ) → k < n → is_among (Num k) vs ≡ true

-- the first number from n on whose variable isn't in the list, after at most k steps
abbrev pub gap_from : ℕ → ℕ → List Var → ℕ
gap_from zero n vs = n
gap_from (suc k) n vs = if is_among (Num n) vs then gap_from k (n + 1) vs else n

-- the numbered variable of least number outside the list: a list has no more numbers than members
unfoldable pub least_outside : List Var → Var
least_outside vs = Num (gap_from (length vs) 0 vs)

-- v is the numbered variable of least number outside the list
pub record IsLeastOutside (vs : List Var) (v : Var) : Type 0 where
  pub number : ℕ
  pub numbered : v ≡ Num number
  pub outside : ¬ Contains vs v
  pub least : (n : ℕ) → n < number → Contains vs (Num n)
