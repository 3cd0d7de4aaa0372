-- Sequents: two finite sets of formulas, the antecedent on the left and the succedent on the right. Exchange, contraction and
-- the order of formulas need no rules, since sides are sets.
use Rattle.std.specs.Prelude.{Bool, ◌&&◌, ◌||◌, List, ◌++◌, Option}
use Rattle.std.specs.List.{list_any}
use Rattle.fol.specs.declared.symbols.Var.{Var}
use Rattle.fol.specs.Syntax.{Term, Formula}
use Rattle.free_variables.specs.Sets.{VarSet}
use Rattle.free_variables.specs.Union.{union_of}
use Rattle.free_variables.specs.Occurrence.{is_free_in}
use Rattle.std.specs.Cmp.{IsEquivalence}
use Rattle.std.proofs.lemmas.Cmp.{and_equiv, on_equiv}
use Rattle.finite.specs.Finite as set
use Rattle.lk_rules.specs.Formulas.{FormulaSet, same_formulas, same_formulas_equiv, image_set, var_lists}
use Rattle.lk_rules.specs.declared.sequent.Sequent.{Sequent}
use Rattle.lk_rules.specs.declared.sequent.Side.{Side}
use Rattle.lk_rules.specs.declared.sequent.Side.TheVariants.{Left, Right}

-- the sequent with no formula
abbrev pub empty : Sequent
empty = record { left = set.empty; right = set.empty }

-- the formulas of one side
abbrev pub side_of : Sequent → Side → FormulaSet
side_of s Left = s.left
side_of s Right = s.right

-- the sequent with f on that side too
abbrev pub adds_to : Sequent → Side → Formula → Sequent
adds_to s Left f = record s { left = set.adds s.left f }
adds_to s Right f = record s { right = set.adds s.right f }

-- the sequent with the formulas of a list on each side too
abbrev pub extended : Sequent → (Side → List Formula) → Sequent
extended s more = record { left = set.adds_each s.left (more Left); right = set.adds_each s.right (more Right) }

-- whether v is free in a formula of a sequent
abbrev pub is_free_in_sequent : Var → Sequent → Bool
is_free_in_sequent v s = list_any (is_free_in v) (set.listing s.left) || list_any (is_free_in v) (set.listing s.right)

-- whether t has each formula of s on the same side
abbrev pub is_subsequent : Sequent → Sequent → Bool
is_subsequent s t = set.subset s.left t.left && set.subset s.right t.right

-- s is a subsequent of t: each formula of s stands on the same side of t
pub record IsSubsequent (s t : Sequent) : Type 0 where
  pub left : set.IsSubset s.left t.left
  pub right : set.IsSubset s.right t.right

-- whether two sequents have the same formulas on each side
abbrev pub same_sequents : Sequent → Sequent → Bool
same_sequents s t = same_formulas s.left t.left && same_formulas s.right t.right

pub same_sequents_equiv : IsEquivalence same_sequents
same_sequents_equiv = and_equiv (on_equiv (λ s. s.left) same_formulas_equiv) (on_equiv (λ s. s.right) same_formulas_equiv)

-- the formulas of both sequents, side by side
abbrev pub union_sequent : Sequent → Sequent → Sequent
union_sequent s t = record { left = union_of s.left t.left; right = union_of s.right t.right }

-- the sequent of the images under a map from variables to terms
abbrev pub image_sequent : (Var → Option Term) → Sequent → Sequent
image_sequent m s = record { left = image_set m s.left; right = image_set m s.right }

-- the free variables of the sequent's formulas
abbrev pub vars_sequent : Sequent → VarSet
vars_sequent s = set.of_list (var_lists (set.listing s.left) ++ var_lists (set.listing s.right))
