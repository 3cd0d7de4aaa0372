-- The marks of the formulas so far.
use Rattle.std.proofs.Common.{◌≡◌, ℕ, ◌<◌, ◌≤◌, false, length}
use Rattle.search_laws.specs.Search.{is_compound}
use Rattle.prop_search.specs.Bits.{has_number, words_for}
use Rattle.prop_search.specs.Formulas.{formula_at}
use Rattle.prop_search.proofs.numbering.compounds_of.Given as goal

abbrev pub invariant-loop-i : goal.invariant-loop-i
invariant-loop-i l = record {
  room : length l.compounds.items ≡ words_for (length l.formulas);
  marked : (n : ℕ) → n < l.i → has_number l.compounds.items n ≡ is_compound (formula_at l.formulas n);
  none_past : (n : ℕ) → l.i ≤ n → has_number l.compounds.items n ≡ false;
}
