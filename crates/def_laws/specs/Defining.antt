-- Definitions of predicate symbols, and why there is none.
--     least_free      the least free variable of a formula outside a list
--     defining      the definition, or the first reason why there is none
--     IsFreeWithin, IsLeastFree      which variables are free outside a list
use Rattle.std.specs.Prelude.{◌≡◌, ◌≢◌, ℕ, true, false, nat_lt, not as negated, if◌then◌else◌, List, find, Option, Result, Ok, Err}
use Rattle.std.specs.declared.cmp.Ordering.TheVariants.{Less}
use Rattle.finite.specs.Finite as set
use Rattle.fol.specs.declared.symbols.Var.{Var}
use Rattle.fol.specs.Syntax.{Pred, Formula}
use Rattle.fol.specs.Order.{var_cmp}
use Rattle.free_variables.specs.Fresh.{is_among}
use Rattle.free_variables.specs.Occurrence.{is_free_in, vars_formula}
use Rattle.step_laws.specs.Faults.{or_fault}
use Rattle.def_laws.specs.declared.fault.DefFault.{DefFault}
use Rattle.def_laws.specs.declared.fault.DefFault.TheVariants.{Free, Large}
use Rattle.def_laws.specs.Definitions.{definition}
use Rattle.def_laws.specs.Flat.{flat}
use Rattle.def_laws.specs.Nodes.{nodes_of}

-- a symbol stands for no formula with more nodes, where all in it is unfolded
abbrev pub max_nodes : ℕ
max_nodes = 10000

-- the least free variable of f that isn't one of vs
abbrev pub least_free : List Var → Formula → Option Var
least_free vs f = find (λ v. negated (is_among v vs)) (set.listing (vars_formula f set.empty))

-- The symbol of this name with an argument for each variable that stands for f. The first reason against it: a variable that is free in f and
-- no argument; more than so many nodes in f with all unfolded.
unfoldable pub defining : List ℕ → List Var → Formula → Result Pred DefFault
defining name vs f = or_fault Free (least_free vs f) (if nat_lt max_nodes (nodes_of (flat f)) then Err Large else Ok (definition name vs f))

-- no variable is free in f but those of a list
abbrev pub IsFreeWithin : List Var → Formula → Type 0
IsFreeWithin vs f = (v : Var) → is_free_in v f ≡ true → is_among v vs ≡ true

-- v is free in f and isn't one of vs, and no such variable is below it
pub record IsLeastFree (vs : List Var) (f : Formula) (v : Var) : Type 0 where
  pub free : is_free_in v f ≡ true
  pub outside : is_among v vs ≡ false
  pub least : (w : Var) → is_free_in w f ≡ true → is_among w vs ≡ false → var_cmp w v ≢ Less
