-- What tables say of the things of one arena that stand in another one with all unfolded.
use Rattle.std.specs.Prelude.{ℕ, nat_eq, List, IfSome}
use Rattle.std.specs.HashMap as hash
use Rattle.arena_cells.specs.Items.{Item}
use Rattle.arena_cells.specs.Standing.{Stands, item_at, HasFormula, HasSide, HasTree, formula_at, side_at, tree_at}
use Rattle.def_laws.specs.Flat.{flat, flat_set}
use Rattle.def_laws.specs.Unfolded.{unfolded}
use Rattle.arena_flat.specs.declared.flattened.Flattened.{Flattened}
use Rattle.arena_flat.specs.Short.{HasShortRules}

-- what stands in a at a number of a table stands in b with all unfolded, at the number that the table has for it, where terms and lists of
-- terms are as they were; and the rules of trees are short
pub record AreFlat (a b : List Item) (c : Flattened) : Type 0 where
  pub terms : (q : ℕ) → IfSome (hash.get nat_eq c.terms q) (λ n. Stands b n (item_at a q))
  pub formulas : (q : ℕ) → IfSome (hash.get nat_eq c.formulas q) (λ n. HasFormula b n (flat (formula_at a q)))
  pub sides : (q : ℕ) → IfSome (hash.get nat_eq c.sides q) (λ n. HasSide b n (flat_set (side_at a q)))
  pub trees : (q : ℕ) → IfSome (hash.get nat_eq c.trees q) (λ n. HasTree b n (unfolded (tree_at a q)))
  pub short : (q : ℕ) → IfSome (hash.get nat_eq c.trees q) (λ n. HasShortRules (tree_at a q))
