-- What a proof uses, with a number for each address.
--     Marked      the addresses by number, what is marked at them, and the variables that aren't given to strong quantifiers
--     address_at, IsPlace      the address of a number, and whether there is one
use Rattle.std.specs.Prelude.{ℕ, zero, suc, ◌<◌, List, [], ◌∷◌, length}
use Rattle.fol.specs.declared.symbols.Var.{Var}
use Rattle.fol.specs.Syntax.{top}
use Rattle.lk_rules.specs.declared.sequent.Side.TheVariants.{Left}
use Rattle.extraction_laws.specs.Addresses.{Address, root}
use Rattle.extraction_laws.specs.States.{State}

pub record Marked : Type 0 where
  pub outside : List Var
  pub addresses : List Address
  pub state : State

-- the address at a place of a list, and some address past its end
abbrev pub address_in : List Address → ℕ → Address
address_in [] n = root Left top
address_in (a ∷ bs) zero = a
address_in (a ∷ bs) (suc n) = address_in bs n

-- the address of a number
abbrev pub address_at : Marked → ℕ → Address
address_at m = address_in m.addresses

-- it is the number of an address
abbrev pub IsPlace : Marked → ℕ → Type 0
IsPlace m n = n < length m.addresses
