-- Lists of formulas that have the parts of each of their formulas.
use Rattle.std.specs.Prelude.{◌≡◌, true, List}
use Rattle.fol.specs.Syntax.{Formula, not, and, or, imp}
use Rattle.prop_search.specs.Formulas.{is_listed}

-- the parts of a formula with a connective at its head are listed
abbrev pub HasParts : List Formula → Formula → Type 0
HasParts fs (not f) = is_listed fs f ≡ true
HasParts fs (and f g) = (is_listed fs f ≡ true) × (is_listed fs g ≡ true)
HasParts fs (or f g) = (is_listed fs f ≡ true) × (is_listed fs g ≡ true)
HasParts fs (imp f g) = (is_listed fs f ≡ true) × (is_listed fs g ≡ true)
HasParts fs f = Unit {0}

-- those of each listed formula are
pub record IsClosed (fs : List Formula) : Type 0 where
  pub parts : (f : Formula) → is_listed fs f ≡ true → HasParts fs f

-- what is listed stays
pub record Keeps (old new : List Formula) : Type 0 where
  pub listed : (f : Formula) → is_listed old f ≡ true → is_listed new f ≡ true
