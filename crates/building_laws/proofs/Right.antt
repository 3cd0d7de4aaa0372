-- Trees of a list that are right where they stand, and what a premise has in place of one of them.
use Rattle.std.proofs.Common.{◌≡◌, ◌⊎◌, ℕ, suc, ◌<◌, ◌≤◌, Bool, true, false, ◌||◌, length, List, [], ◌∷◌, Option, Some, None}
use Rattle.std.specs.List.{AllByRecursion, list_any}
use Rattle.fol.specs.declared.symbols.Var.{Var}
use Rattle.fol.specs.Syntax.{Formula}
use Rattle.fol.specs.Formed.{is_formed}
use Rattle.finite.specs.Finite as set
use Rattle.lk_rules.specs.declared.sequent.Sequent.{Sequent}
use Rattle.lk_rules.specs.declared.sequent.Side.{Side}
use Rattle.lk_rules.specs.declared.rule.Rule.{Rule}
use Rattle.lk_rules.specs.Sequents.{side_of, is_free_in_sequent}
use Rattle.lk_rules.specs.Rules.{IsFormedRule, needs, has_shape, aux, eigen_free, main_stands}
use Rattle.proof_trees.specs.Trees.{is_cut}
use Rattle.search_laws.specs.Truth.{Assignment}
use Rattle.search_laws.proofs.Listed.{among}
use Rattle.expansion_laws.specs.Expansions.{shallow}
use Rattle.expansion_laws.specs.Building.{is_built}
use Rattle.expansion_laws.specs.Dependency.{strongs, is_above}
use Rattle.expansion_laws.specs.Helping.{helped}
use Rattle.expansion_laws.specs.Proofs.{stands}
use Rattle.building_laws.specs.Lists.{Placed, strongs_in_list}
use Rattle.building_laws.specs.Building.{Step}
use Rattle.building_laws.specs.Buildable.{has_formed_terms}
use Rattle.building_laws.proofs.Counting.{count}
use Rattle.building_laws.proofs.Conclusions.{is_formula, is_free_at}

-- a tree is rightly built, can stand on its side, and is well formed
pub record IsRight (p : Placed) : Type 0 where
  pub built : is_built p.tree ≡ true
  pub stand : stands p.side p.tree ≡ true
  pub terms : has_formed_terms p.tree ≡ true
  pub formed : is_formed (shallow p.tree) ≡ true

-- whether a tree makes a sequent true
abbrev pub is_helping : Assignment → Placed → Bool
is_helping a p = helped a p.side p.tree

-- whether y is free in the term of an instance above a strong quantifier of z
abbrev pub is_over : Var → Var → Placed → Bool
is_over y z p = is_above y z false p.tree

-- the rule with n premises fits a tree: its main formula is that of the tree
pub record RuleFits (p : Placed) (r : Rule) (n : ℕ) : Type 0 where
  pub number : n ≡ needs r
  pub shape : has_shape r ≡ true
  pub uncut : is_cut r ≡ false
  pub formed : IsFormedRule r
  pub stand : (e : Sequent) → set.has (side_of e p.side) (shallow p.tree) ≡ true → main_stands r e ≡ true
  pub eigenvariable : (e : Sequent) → ((v : Var) → 0 < count v (strongs p.tree) → is_free_in_sequent v e ≡ false) → eigen_free r e ≡ false

-- In the premise i of a rule the trees ps are in place of the tree p. `vs` are the variables of the whole list. What is free in a formula
-- of ps is so in that of p, or is a variable of p that ps have less often, or is none of the list.
pub record IsPremise (vs : List Var) (r : Rule) (i : ℕ) (p : Placed) (ps : List Placed) : Type 0 where
  pub right : AllByRecursion IsRight ps
  pub helps : (a : Assignment) → is_helping a p ≡ true → list_any (is_helping a) ps ≡ true
  pub over : (y z : Var) → list_any (is_over y z) ps ≡ true → is_over y z p ≡ true
  pub counted : (v : Var) → count v (strongs_in_list ps) ≤ count v (strongs p.tree)
  pub free : (v : Var) → list_any (is_free_at v) ps ≡ true → (is_free_at v p ≡ true) ⊎ ((count v (strongs_in_list ps) < count v (strongs p.tree)) ⊎ (count v vs ≡ 0))
  pub formulas : (side : Side) (f : Formula) → list_any (is_formula side f) ps ≡ true → (is_formula side f p || among (aux r i side) f) ≡ true

abbrev pub ArePremises : List Var → Rule → Placed → ℕ → List (List Placed) → Type 0
ArePremises vs r p i [] = Unit {0}
ArePremises vs r p i (ps ∷ pss) = IsPremise vs r i p ps × ArePremises vs r p (suc i) pss

-- the step fits the tree, where there is one
abbrev pub StepFits : List Var → Placed → Option Step → Type 0
StepFits vs p None = Unit {0}
StepFits vs p (Some t) = RuleFits p t.rule (length t.premises) × ArePremises vs t.rule p 0 t.premises
