-- Lists of expansion trees with sides, from which proofs are built.
--     Placed, trees_on, sides      a tree on a side, and a list's trees by their sides
--     start      the list that building begins with
--     conclusion      the sequent of the trees' formulas
--     leaf_sequent      the sequent of the leaves' formulas
--     strongs_in_list      the variables of the strong quantifiers
--     weight, weight_of      a measure that each step makes less
use Rattle.std.specs.Prelude.{ℕ, suc, ◌+◌, List, [], ◌∷◌, ◌++◌, map}
use Rattle.fol.specs.declared.symbols.Var.{Var}
use Rattle.fol.specs.Syntax.{Formula}
use Rattle.finite.specs.Finite as set
use Rattle.lk_rules.specs.declared.sequent.Sequent.{Sequent}
use Rattle.lk_rules.specs.declared.sequent.Side.{Side}
use Rattle.lk_rules.specs.declared.sequent.Side.TheVariants.{Left, Right}
use Rattle.expansion_laws.specs.Expansions.{Exp, wk, leaf, neg, conj, disj, impl, weak, strong, Insts, none, more}
use Rattle.expansion_laws.specs.Dependency.{Expansion, strongs}
use Rattle.expansion_laws.specs.Proofs.{shallow_sequent}

-- a tree on a side
pub record Placed : Type 0 where
  pub side : Side
  pub tree : Exp

abbrev pub on : Side → Exp → Placed
on s e = record { side = s; tree = e }

-- the trees of a side with one more in front, where that stands on the same side
abbrev pub with_tree : Side → Side → Exp → List Exp → List Exp
with_tree Left Left e es = e ∷ es
with_tree Left Right e es = es
with_tree Right Left e es = es
with_tree Right Right e es = e ∷ es

-- the trees on a side, in order
abbrev pub trees_on : Side → List Placed → List Exp
trees_on side [] = []
trees_on side (p ∷ l) = with_tree side p.side p.tree (trees_on side l)

-- the trees by their sides
abbrev pub sides : List Placed → Expansion
sides l = record { left = trees_on Left l; right = trees_on Right l }

-- the list that building begins with: the trees of the left in order, then those of the right
abbrev pub start : Expansion → List Placed
start x = map (on Left) x.left ++ map (on Right) x.right

-- the sequent of the trees' formulas
abbrev pub conclusion : List Placed → Sequent
conclusion l = shallow_sequent (sides l)

-- the formulas of the leaves. A tree of a formula that is never used is no leaf
abbrev pub leaf_formulas : List Exp → List Formula
leaf_formulas [] = []
leaf_formulas (leaf f ∷ es) = f ∷ leaf_formulas es
leaf_formulas (e ∷ es) = leaf_formulas es

abbrev pub leaf_sequent : List Placed → Sequent
leaf_sequent l = record {
  left = set.of_list (leaf_formulas (trees_on Left l));
  right = set.of_list (leaf_formulas (trees_on Right l));
}

-- the variables of the strong quantifiers that are still in the list
abbrev pub strongs_in_list : List Placed → List Var
strongs_in_list [] = []
strongs_in_list (p ∷ l) = strongs p.tree ++ strongs_in_list l

-- the number of a tree's nodes, where an instance counts one more: the step that takes it out of its node leaves as many nodes as before
abbrev mutual
  pub weight : Exp → ℕ
  weight (wk f) = 1
  weight (leaf f) = 1
  weight (neg e) = suc (weight e)
  weight (conj d e) = suc (weight d + weight e)
  weight (disj d e) = suc (weight d + weight e)
  weight (impl d e) = suc (weight d + weight e)
  weight (weak f is) = suc (weight_in is)
  weight (strong f y e) = suc (weight e)

  pub weight_in : Insts → ℕ
  weight_in none = 0
  weight_in (more t e is) = suc (weight e) + weight_in is

abbrev pub weight_of : List Placed → ℕ
weight_of [] = 0
weight_of (p ∷ l) = weight p.tree + weight_of l
