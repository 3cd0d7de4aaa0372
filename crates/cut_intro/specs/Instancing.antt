-- What the code of Herbrand instances answers.
--     HasInstances, HasTrees      just what the instances come to, unless memory runs out
--     NamesFormed      the formula that a fault names is well formed
--     ArePrenex      the formulas of trees are weak quantifiers over matrices
--     AreInstancesFor      items are those of an expansion proof of a sequent
use Rattle.std.specs.Prelude.{◌≡◌, true, List, Result, Ok, Err}
use Rattle.std.specs.List.{All}
use Rattle.fol.specs.Formed.{IsFormed}
use Rattle.lk_rules.specs.declared.sequent.Sequent.{Sequent}
use Rattle.lk_rules.specs.declared.sequent.Side.TheVariants.{Left, Right}
use Rattle.expansion_laws.specs.Expansions.{shallow}
use Rattle.expansion_laws.specs.Dependency.{Expansion}
use Rattle.herbrand_laws.specs.Herbrand.{is_prenex, Item, items_of}
use Rattle.herbrand_laws.specs.Introduction.{IsFormedProof}
use Rattle.exp_tree.specs.declared.sequents.ExpSequent.{ExpSequent}
use Rattle.exp_tree.specs.Reads.{expansion_of}
use Rattle.introduction_laws.specs.declared.fault.HerbrandFault.{HerbrandFault}
use Rattle.introduction_laws.specs.declared.fault.HerbrandFault.TheVariants.{Cut, NotPrenex, Budget, Memory}

abbrev pub HasInstances : Result (List Item) HerbrandFault → Result (List Item) HerbrandFault → Type 0
HasInstances (Ok items) wanted = wanted ≡ Ok items
HasInstances (Err (Cut k)) wanted = wanted ≡ Err (Cut k)
HasInstances (Err (NotPrenex f side)) wanted = wanted ≡ Err (NotPrenex f side)
HasInstances (Err Budget) wanted = wanted ≡ Err Budget
HasInstances (Err Memory) wanted = Unit {0}

-- the same of trees, whose items are wanted
abbrev pub HasTrees : Result ExpSequent HerbrandFault → Result (List Item) HerbrandFault → Type 0
HasTrees (Ok e) wanted = wanted ≡ Ok (items_of (expansion_of e))
HasTrees (Err fault) wanted = HasInstances (Err fault) wanted

-- the formula that the fault names is well formed
abbrev pub NamesFormed : HerbrandFault → Type 0
NamesFormed (NotPrenex f side) = IsFormed f
NamesFormed fault = Unit {0}

-- the formula of each tree is weak quantifiers over a matrix on its side
pub record ArePrenex (x : Expansion) : Type 0 where
  pub left : All (λ e. is_prenex Left (shallow e) ≡ true) x.left
  pub right : All (λ e. is_prenex Right (shallow e) ≡ true) x.right

-- the items are those of an expansion proof of the sequent, whose formulas are weak quantifiers over matrices
pub record AreInstancesFor (s : Sequent) (items : List Item) : Type 0 where
  pub expansion : Expansion
  pub proof : IsFormedProof expansion s
  pub of_trees : items ≡ items_of expansion
