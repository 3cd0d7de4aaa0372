-- Tables in a larger arena.
use Rattle.std.proofs.Common.{ℕ, List, Option, Some, None, Result, Ok, Err}
use Rattle.std.specs.Prelude.{nat_eq, IfSome, OnOk}
use Rattle.std.specs.HashMap as hash
use Rattle.arena_cells.specs.Items.{Item, formula, side, tree}
use Rattle.arena_cells.specs.Standing.{Stands, Extends, item_at, formula_at, side_at, tree_at}
use Rattle.def_laws.specs.Flat.{flat, flat_set}
use Rattle.def_laws.specs.Unfolded.{unfolded}
use Rattle.arena_flat.specs.declared.flattened.Flattened.{Flattened}
use Rattle.arena_flat.specs.Flattened.{AreFlat}

some_stays : (b d : List Item) → Extends b d → (x : Item) (o : Option ℕ) → IfSome o (λ n. Stands b n x) → IfSome o (λ n. Stands d n x)
some_stays b d grown x None h = tt
some_stays b d grown x (Some n) h = grown n x h

pub flat_stays : (a b d : List Item) (c : Flattened) → Extends b d → AreFlat a b c → AreFlat a d c
flat_stays a b d c grown h = record {
  terms = λ q. some_stays b d grown (item_at a q) (hash.get nat_eq c.terms q) (h.terms q);
  formulas = λ q. some_stays b d grown (formula (flat (formula_at a q))) (hash.get nat_eq c.formulas q) (h.formulas q);
  sides = λ q. some_stays b d grown (side (flat_set (side_at a q))) (hash.get nat_eq c.sides q) (h.sides q);
  trees = λ q. some_stays b d grown (tree (unfolded (tree_at a q))) (hash.get nat_eq c.trees q) (h.trees q);
  short = h.short;
}

pub on_ok : {T E : Type 0} {P : Type 0} (r : Result T E) → P → OnOk r P
on_ok (Ok x) h = h
on_ok (Err e) h = tt
