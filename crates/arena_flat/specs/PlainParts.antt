-- What a table says of the sides and trees in which no predicate symbol has a body.
use Rattle.std.specs.Prelude.{◌≡◌, ℕ, nat_eq, false, List, IsSome}
use Rattle.std.specs.List.{list_any}
use Rattle.std.specs.HashMap as hash
use Rattle.fol.specs.Facts.{has_body}
use Rattle.finite.specs.Finite as set
use Rattle.lk_rules.specs.Formulas.{FormulaSet}
use Rattle.proof_trees.specs.Trees.{Tree}
use Rattle.proof_trees.specs.Conclusions.{EachNode}
use Rattle.arena_cells.specs.Items.{Item}
use Rattle.arena_cells.specs.Standing.{side_at, tree_at}
use Rattle.def_laws.specs.Unfolded.{HasNoBody}
use Rattle.arena_flat.specs.declared.plain.Plain.{Plain}

-- no symbol in a formula of the set has a body
abbrev pub IsPlainSide : FormulaSet → Type 0
IsPlainSide s = list_any has_body (set.listing s) ≡ false

-- no symbol in the tree has one, and no rule unfolds an atom
abbrev pub IsPlainTree : Tree → Type 0
IsPlainTree t = EachNode HasNoBody t

-- the sides and the trees of the table are so
pub record ArePlain (a : List Item) (c : Plain) : Type 0 where
  pub sides : (q : ℕ) → IsSome (hash.get nat_eq c.sides q) → IsPlainSide (side_at a q)
  pub trees : (q : ℕ) → IsSome (hash.get nat_eq c.trees q) → IsPlainTree (tree_at a q)
