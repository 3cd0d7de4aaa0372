-- The tree that has the marks of two trees of one formula.
--     merged, merged_in      the tree, and the instances of two lists by rising term
--     Agree, AgreeIn      strong quantifiers at one place in both have equal variables
--     CanMerge, CanMergeInsts      what two trees, and the instances at two weak quantifiers, need for it
use Rattle.std.specs.Prelude.{◌≡◌, true, List, [], ◌∷◌}
use Rattle.std.specs.declared.cmp.Ordering.{Ordering}
use Rattle.std.specs.declared.cmp.Ordering.TheVariants.{Less, Equal, Greater}
use Rattle.fol.specs.Syntax.{Term, Formula}
use Rattle.fol.specs.Order.{term_cmp}
use Rattle.lk_rules.specs.declared.sequent.Side.{Side}
use Rattle.expansion_laws.specs.Expansions.{Exp as Tree, wk, neg, conj, disj, impl, weak, strong, Insts, none, more, shallow}
use Rattle.expansion_laws.specs.Building.{are_built}
use Rattle.expansion_laws.specs.Proofs.{stands, stand_in}
use Rattle.exp_tree.specs.declared.expansion.Inst.{Inst}

-- what the first of two terms begins, what both begin where they are one, or what the second begins
abbrev pub by_order : Ordering → Insts → Insts → Insts → Insts
by_order Less before tied after = before
by_order Equal before tied after = tied
by_order Greater before tied after = after

-- The instance by t with the tree d, and the instances after it, among others by rising term. Where t is there too, the trees of both are
-- merged: `with` merges d with another tree, and `on` merges the instances after it with others.
abbrev pub among : Term → Tree → (Tree → Tree) → (Insts → Insts) → Insts → Insts
among t d with on none = more t d (on none)
among t d with on (more u e js) = by_order (term_cmp t u) (more t d (on (more u e js))) (more t (with e) (on js)) (more u e (among t d with on js))

-- A formula that is never used gives way to the other tree, and equal leaves are kept. Connectives are merged by their parts. The instances
-- at a weak quantifier are those of either tree, by rising term, and what is in both is merged. So is the instance at a strong quantifier.
abbrev mutual
  pub merged : Tree → Tree → Tree
  merged (wk f) e = e
  merged (neg d) (neg e) = neg (merged d e)
  merged (conj a b) (conj c d) = conj (merged a c) (merged b d)
  merged (disj a b) (disj c d) = disj (merged a c) (merged b d)
  merged (impl a b) (impl c d) = impl (merged a c) (merged b d)
  merged (weak f is) (weak g js) = weak f (merged_in is js)
  merged (strong f y d) (strong g z e) = strong f y (merged d e)
  merged d e = d

  pub merged_in : Insts → Insts → Insts
  merged_in none js = js
  merged_in (more t d is) js = among t d (merged d) (merged_in is) js

-- the statement holds of the tree of the instance by t, where there is one
abbrev pub AtTerm : Term → (Tree → Type 0) → Insts → Type 0
AtTerm t P none = Unit {0}
AtTerm t P (more u e js) = (t ≡ u → P e) × AtTerm t P js

-- strong quantifiers at one place in both trees have equal variables
abbrev mutual
  pub Agree : Tree → Tree → Type 0
  Agree (neg d) (neg e) = Agree d e
  Agree (conj a b) (conj c d) = Agree a c × Agree b d
  Agree (disj a b) (disj c d) = Agree a c × Agree b d
  Agree (impl a b) (impl c d) = Agree a c × Agree b d
  Agree (weak f is) (weak g js) = AgreeIn is js
  Agree (strong f y d) (strong g z e) = (y ≡ z) × Agree d e
  Agree d e = Unit {0}

  pub AgreeIn : Insts → Insts → Type 0
  AgreeIn none js = Unit {0}
  AgreeIn (more t d is) js = AtTerm t (Agree d) js × AgreeIn is js

-- the trees are of one formula, can stand on one side, and have equal variables
pub record CanMerge (d e : Tree) : Type 0 where
  pub formulas : shallow d ≡ shallow e
  pub side : Side
  pub first : stands side d ≡ true
  pub second : stands side e ≡ true
  pub variables : Agree d e

-- the instances are right ones of one formula, their trees can stand on one side, and those of one term have equal variables
pub record CanMergeInsts (is js : Insts) : Type 0 where
  pub formula : Formula
  pub side : Side
  pub first_built : are_built formula is ≡ true
  pub second_built : are_built formula js ≡ true
  pub first : stand_in side is ≡ true
  pub second : stand_in side js ≡ true
  pub variables : AgreeIn is js

-- the instances of a list, and then others
abbrev pub followed : List Inst → Insts → Insts
followed [] js = js
followed (i ∷ is) js = more i.term i.child (followed is js)
