-- Rising places of entries, and the set of the formulas there.
use Rattle.std.specs.Prelude.{◌≡◌, ℕ, ◌<◌, List, length, map}
use Rattle.std.specs.List.{All}
use Rattle.std.specs.Ordering.{nat_cmp}
use Rattle.finite.specs.Finite as set
use Rattle.lk_rules.specs.Formulas.{FormulaSet}
use Rattle.arena_graph.specs.declared.ranks.RankedFormula.{RankedFormula}
use Rattle.arena_graph.specs.Ranks.{formula_in}

-- places rise and are those of entries
pub record ArePlaces (es : List RankedFormula) (ps : List ℕ) : Type 0 where
  pub rises : set.IsRising nat_cmp ps
  pub within : All (λ k. k < length es) ps

-- the set of the formulas at places
abbrev pub formulas_at : List RankedFormula → List ℕ → FormulaSet
formulas_at es ps = set.of_list (map (formula_in es) ps)

-- places of the formulas of a set
pub record ArePlacesOf (es : List RankedFormula) (s : FormulaSet) (ps : List ℕ) : Type 0 where
  pub places : ArePlaces es ps
  pub same : formulas_at es ps ≡ s
