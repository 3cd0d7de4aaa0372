-- The formulas so far have addresses.
use Rattle.std.proofs.Common.{◌≡◌, false, map, take}
use Rattle.std.specs.List.{list_any}
use Rattle.std.specs.Ordering.{eq_by_cmp}
use Rattle.fol.specs.Syntax.{Formula}
use Rattle.fol.specs.Order.{formula_cmp}
use Rattle.expansion_laws.specs.Expansions.{turn}
use Rattle.extraction_laws.specs.Addresses.{root, is_listed}
use Rattle.exp_extract.specs.Marked.{address_in}
use Rattle.exp_extract.specs.Quantifiers.{Grows, AreWithin}
use Rattle.exp_extract.proofs.roots.enter_roots.Given as goal

abbrev pub invariant-loop-formula : goal.invariant-loop-formula
invariant-loop-formula l = record {
  addresses : map (address_in l.marks.addresses) l.list.items ≡ map (root l.side) (take l.formula-index l.formulas);
  within : AreWithin l.marks.addresses l.list.items;
  absent : (f : Formula) → list_any (eq_by_cmp formula_cmp f) (take l.formula-index l.formulas) ≡ false → is_listed (root l.side f) l.marks.addresses ≡ false;
  others : (f : Formula) → is_listed (root (turn l.side) f) l.marks.addresses ≡ is_listed (root (turn l.side) f) l.fn.marks.addresses;
  grown : Grows l.fn.marks.addresses l.marks.addresses;
  outside : l.marks.outside ≡ l.fn.marks.outside;
  state : l.marks.state ≡ l.fn.marks.state;
}
