-- The marks of two states together, and when the tree of them is the merge of two trees.
--     united      the marks of two states
--     IsReached, IsPrefixClosed      the marks around an address, and states in which each mark has those around it
--     HaveSameVariables      the addresses that a state uses have the variables that they have in another
use Rattle.std.specs.Prelude.{◌≡◌, true, List}
use Rattle.fol.specs.declared.symbols.Var.{Var}
use Rattle.fol.specs.Syntax.{Term}
use Rattle.finite.specs.Finite as set
use Rattle.free_variables.specs.Union.{union_of}
use Rattle.expansion_laws.specs.Proofs.{is_weak_on}
use Rattle.extraction_laws.specs.Addresses.{Address, root, part, via, formula_at, side_at}
use Rattle.extraction_laws.specs.States.{State, variable_at}

-- what either state marks, with the variables of the first
abbrev pub united : State → State → State
united x y = record { opened = union_of x.opened y.opened; instances = union_of x.instances y.instances; names = x.names }

-- The address is reached: the formula of which it is a part or an instance is used, and where that is a weak quantifier, so is the instance.
abbrev pub IsReached : State → Address → Type 0
IsReached x (root s f) = Unit {0}
IsReached x (part a i) = set.has x.opened a ≡ true
IsReached x (via a t) = (set.has x.opened a ≡ true) × (is_weak_on (side_at a) (formula_at a) ≡ true → set.has x.instances (via a t) ≡ true)

-- marks stand only at addresses that are reached
pub record IsPrefixClosed (x : State) : Type 0 where
  pub opened : (a : Address) → set.has x.opened a ≡ true → IsReached x a
  pub instances : (a : Address) (t : Term) → set.has x.instances (via a t) ≡ true → set.has x.opened a ≡ true

-- each address that the second state uses has the same variable in both
abbrev pub HaveSameVariables : List Var → State → State → Type 0
HaveSameVariables vs x y = (a : Address) → set.has y.opened a ≡ true → variable_at vs x a ≡ variable_at vs y a
