-- What a numbering keeps.
use Rattle.std.specs.Prelude.{◌≡◌, ℕ, ◌<◌, ◌^◌, true, false, List, length, slice_index_or, Option, Some, None}
use Rattle.std.specs.List.{list_all}
use Rattle.fol.specs.Syntax.{Formula, top, bot, not, and, or, imp}
use Rattle.fol.specs.Order.{formula_cmp}
use Rattle.fol.specs.Formed.{is_formed}
use Rattle.finite.specs.Finite as set
use Rattle.search_laws.specs.Search.{is_compound}
use Rattle.prop_search.specs.declared.connective.Connective.{Connective}
use Rattle.prop_search.specs.declared.connective.Connective.TheVariants.{Not, And, Or, Imp}
use Rattle.prop_search.specs.declared.numbering.Numbering.TheInside.{Inside}
use Rattle.prop_search.specs.Formulas.{formula_at, IsNumberOf, Marks}

-- the connective stands at the head of the formula, with the numbers of the parts; or there is none
abbrev pub IsRoot : List Formula → Option Connective → Formula → Type 0
IsRoot fs None f = is_compound f ≡ false
IsRoot fs (Some (Not a)) f = (a < length fs) × (f ≡ not (formula_at fs a))
IsRoot fs (Some (And a b)) f = (a < length fs) × (b < length fs) × (f ≡ and (formula_at fs a) (formula_at fs b))
IsRoot fs (Some (Or a b)) f = (a < length fs) × (b < length fs) × (f ≡ or (formula_at fs a) (formula_at fs b))
IsRoot fs (Some (Imp a b)) f = (a < length fs) × (b < length fs) × (f ≡ imp (formula_at fs a) (formula_at fs b))

-- The list rises and isn't too long, and its formulas are well formed. The connective at the head of each is kept, those that have one are
-- marked, and truth and falsity have numbers.
pub record IsNumbering (i : Inside) : Type 0 where
  pub rises : set.IsRising formula_cmp i.formulas.items
  pub formed : list_all is_formed i.formulas.items ≡ true
  pub few : length i.formulas.items < 2 ^ 31
  pub counted : length i.roots.items ≡ length i.formulas.items
  pub rooted : (n : ℕ) → n < length i.formulas.items → IsRoot i.formulas.items (slice_index_or i.roots.items n None) (formula_at i.formulas.items n)
  pub compounds : Marks i.formulas.items i.compounds.items is_compound
  pub truth : IsNumberOf i.formulas.items i.top top
  pub falsity : IsNumberOf i.formulas.items i.bot bot
