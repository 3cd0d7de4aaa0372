-- What the fields of the variables that are given keep.
use Rattle.std.specs.Prelude.{◌≡◌, ℕ, nat_eq, if◌then◌else◌, List, length, Option, Some, None}
use Rattle.std.specs.List.{list_any, position_or_len}
use Rattle.std.specs.HashMap as hash
use Rattle.fol.specs.declared.symbols.Var.{Var}
use Rattle.fol.specs.Syntax.{Term, free}
use Rattle.finite.specs.Finite as set
use Rattle.extraction_laws.specs.States.{nth_outside, number_of}
use Rattle.exp_extract.specs.declared.names.Names.TheInside.{Inside}
use Rattle.exp_extract.specs.Named.{Named}

abbrev pub named_of : Inside → Named
named_of i = record { outside = set.listing i.outside; places = i.named.items }

-- the variable of a place, where it has one
abbrev pub variable_in : List Var → List ℕ → ℕ → Option Term
variable_in vs ns q = if list_any (nat_eq q) ns then Some (free (nth_outside vs (position_or_len (nat_eq q) ns))) else None

-- each place that has a variable is found with it, and the next variable is known
pub record AreNames (i : Inside) : Type 0 where
  pub variables : (q : ℕ) → hash.get nat_eq i.variables q ≡ variable_in (set.listing i.outside) i.named.items q
  pub next : i.next ≡ free (nth_outside (set.listing i.outside) (length i.named.items))
  pub number : i.number ≡ number_of (nth_outside (set.listing i.outside) (length i.named.items))
