-- Clauses whose variables are V0, V1, .. up to some last one, as each clause has a variant.
--     IsNormal      such a clause
--     variables      the variables of a clause, each once
--     numbered, named      the maps from these variables to their numbers and back
--     normal      the variant
use Rattle.std.specs.Prelude.{◌≡◌, ◌↔◌, ℕ, suc, ◌<◌, true, if◌then◌else◌, List, [], ◌∷◌, ◌++◌, Option, Some, None}
use Rattle.std.specs.Ordering.{eq_by_cmp}
use Rattle.fol.specs.declared.symbols.Var.{Var}
use Rattle.fol.specs.declared.symbols.Var.TheVariants.{Num}
use Rattle.fol.specs.Syntax.{Term, free}
use Rattle.fol.specs.Order.{var_cmp}
use Rattle.finite.specs.Finite as set
use Rattle.lk_rules.specs.declared.sequent.Sequent.{Sequent}
use Rattle.lk_rules.specs.Formulas.{var_lists}
use Rattle.lk_rules.specs.Sequents.{is_free_in_sequent, image_sequent}
use Rattle.refutations.specs.Clauses.{first_occurrences}

-- the variables are the numbered ones below some number
pub record IsNormal (c : Sequent) : Type 0 where
  pub count : ℕ
  pub variables : (v : Var) → (is_free_in_sequent v c ≡ true) ↔ ((k : ℕ) × (k < count) × (v ≡ Num k))

-- the variables of a clause in the order in which each occurs first, the left side before the right one
abbrev pub variables : Sequent → List Var
variables c = first_occurrences (var_lists (set.listing c.left) ++ var_lists (set.listing c.right))

-- the variables of a list to the numbers from n on
abbrev pub numbered : ℕ → List Var → Var → Option Term
numbered n [] v = None
numbered n (w ∷ ws) v = if eq_by_cmp var_cmp v w then Some (free (Num n)) else numbered (suc n) ws v

-- the numbers from n on to the variables of a list
abbrev pub named : ℕ → List Var → Var → Option Term
named n [] v = None
named n (w ∷ ws) v = if eq_by_cmp var_cmp v (Num n) then Some (free w) else named (suc n) ws v

-- the clause with its variables numbered
abbrev pub normal : Sequent → Sequent
normal c = image_sequent (numbered 0 (variables c)) c
