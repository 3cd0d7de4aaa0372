-- What a stored node means, where its parts mean what they do, and what it keeps of the tree.
use Rattle.std.specs.Prelude.{◌≡◌, List, [], ◌∷◌, Option, Some, None}
use Rattle.fol.specs.Syntax.{Formula}
use Rattle.lk_rules.specs.declared.sequent.Side.TheVariants.{Left, Right}
use Rattle.expansion_laws.specs.Expansions.{Exp as Tree, wk, leaf, neg, conj, disj, impl, weak, strong, Insts, none, more, shallow}
use Rattle.expansion_laws.specs.Proofs.{stands, stand_in}
use Rattle.exp_tree.specs.Sizes.{exp_nodes, insts_nodes, capped}
use Rattle.expansion_laws.specs.Formed.{IsProper}
use Rattle.exp_tree.specs.declared.facts.Facts.{Facts}
use Rattle.exp_tree.specs.declared.expansion.Inst.{Inst}
use Rattle.exp_tree.specs.declared.expansion.ExpCell.{ExpCell}
use Rattle.exp_tree.specs.declared.expansion.ExpRoot.{ExpRoot}
use Rattle.exp_tree.specs.declared.expansion.ExpRoot.TheVariants.{Wk, Leaf, Not, And, Or, Imp, Weak, Strong}

-- the instances of a list
abbrev pub insts_of : List Inst → Insts
insts_of [] = none
insts_of (i ∷ is) = more i.term i.child (insts_of is)

-- the tree at whose root the node stands
abbrev pub exp_of : ExpRoot → Tree
exp_of (Wk f) = wk f
exp_of (Leaf f) = leaf f
exp_of (Not e) = neg e
exp_of (And d e) = conj d e
exp_of (Or d e) = disj d e
exp_of (Imp d e) = impl d e
exp_of (Weak f is) = weak f (insts_of is.items)
exp_of (Strong f y e) = strong f y e

-- the number of nodes, cut off, and the sides on which the tree can stand
pub record AreFacts (facts : Facts) (e : Tree) : Type 0 where
  pub of_nodes : facts.nodes ≡ capped (exp_nodes e)
  pub of_left : facts.left ≡ stands Left e
  pub of_right : facts.right ≡ stands Right e

-- the same of the instances of a list together
pub record AreInstsFacts (facts : Facts) (is : Insts) : Type 0 where
  pub of_nodes : facts.nodes ≡ capped (insts_nodes is)
  pub of_left : facts.left ≡ stand_in Left is
  pub of_right : facts.right ≡ stand_in Right is

-- a formula that is kept is that of the tree
abbrev pub IsKept : Option Formula → Tree → Type 0
IsKept None e = Unit {0}
IsKept (Some f) e = f ≡ shallow e

-- what a node keeps is so of the tree, which is rightly built
pub record IsCell (c : ExpCell) : Type 0 where
  pub facts : AreFacts c.facts (exp_of c.root)
  pub kept : IsKept c.shallow (exp_of c.root)
  pub proper : IsProper (exp_of c.root)
