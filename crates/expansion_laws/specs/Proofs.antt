-- Expansion proofs, after Miller (1987).
--     stands      a tree can stand on a side
--     shallow_sequent      the sequent of the formulas of trees
--     IsExpansionProof      trees prove a sequent
use Rattle.std.specs.Prelude.{◌≡◌, Bool, true, false, ◌&&◌, not as negated, List, [], ◌∷◌, map}
use Rattle.std.specs.List.{All, list_any, list_all}
use Rattle.std.specs.Ordering.{eq_by_cmp}
use Rattle.fol.specs.declared.symbols.Var.{Var}
use Rattle.fol.specs.Syntax.{Formula, all, ex}
use Rattle.fol.specs.Order.{var_cmp}
use Rattle.finite.specs.Finite as set
use Rattle.lk_rules.specs.declared.sequent.Sequent.{Sequent}
use Rattle.lk_rules.specs.declared.sequent.Side.{Side}
use Rattle.lk_rules.specs.declared.sequent.Side.TheVariants.{Left, Right}
use Rattle.lk_rules.specs.Sequents.{is_free_in_sequent}
use Rattle.search_laws.specs.Truth.{IsTautology}
use Rattle.expansion_laws.specs.Expansions.{Exp, wk, leaf, neg, conj, disj, impl, weak, strong, Insts, none, more, shallow, turn}
use Rattle.expansion_laws.specs.Building.{is_built}
use Rattle.expansion_laws.specs.Dependency.{Expansion, strongs_of, IsAcyclic}
use Rattle.expansion_laws.specs.Sequents.{deep_sequent}

-- the side on which the instances of a quantified formula may be several
abbrev pub is_weak_on : Side → Formula → Bool
is_weak_on Left (all b) = true
is_weak_on Right (ex b) = true
is_weak_on s f = false

-- the side on which the instance of a quantified formula is by a variable of its own
abbrev pub is_strong_on : Side → Formula → Bool
is_strong_on Left (ex b) = true
is_strong_on Right (all b) = true
is_strong_on s f = false

-- whether the tree can stand on the side: its quantifiers are weak and strong as they are there
abbrev mutual
  pub stands : Side → Exp → Bool
  stands s (wk f) = true
  stands s (leaf f) = true
  stands s (neg e) = stands (turn s) e
  stands s (conj d e) = stands s d && stands s e
  stands s (disj d e) = stands s d && stands s e
  stands s (impl d e) = stands (turn s) d && stands s e
  stands s (weak f is) = is_weak_on s f && stand_in s is
  stands s (strong f y e) = is_strong_on s f && stands s e

  pub stand_in : Side → Insts → Bool
  stand_in s none = true
  stand_in s (more t e is) = stands s e && stand_in s is

-- the sequent of the trees' formulas
abbrev pub shallow_sequent : Expansion → Sequent
shallow_sequent x = record { left = set.of_list (map shallow x.left); right = set.of_list (map shallow x.right) }

-- no variable stands twice in the list
abbrev pub are_distinct : List Var → Bool
are_distinct [] = true
are_distinct (v ∷ vs) = list_all (λ w. negated (eq_by_cmp var_cmp v w)) vs && are_distinct vs

-- The trees are rightly built and stand on their sides, and their formulas are those of the sequent. Different strong quantifiers have
-- different variables, none of which is free in the sequent or leads to itself. What the trees stand for is a tautology.
pub record IsExpansionProof (x : Expansion) (s : Sequent) : Type 0 where
  pub built_left : All (λ e. is_built e ≡ true) x.left
  pub built_right : All (λ e. is_built e ≡ true) x.right
  pub stand_left : All (λ e. stands Left e ≡ true) x.left
  pub stand_right : All (λ e. stands Right e ≡ true) x.right
  pub formulas : shallow_sequent x ≡ s
  pub distinct : are_distinct (strongs_of x) ≡ true
  pub fresh : list_any (λ v. is_free_in_sequent v s) (strongs_of x) ≡ false
  pub acyclic : IsAcyclic x
  pub tautology : IsTautology (deep_sequent x)
