-- What stands in the tables.
use Rattle.std.specs.Prelude.{◌≡◌, ℕ, List, Bool, true, Option, Some, Ok}
use Rattle.std.specs.HashMap as hash
use Rattle.std.specs.HashMap.{HashMap}
use Rattle.std.specs.List.{list_all}
use Rattle.std.specs.declared.string.String.{String}
use Rattle.fol.specs.Formed.{is_printable}
use Rattle.fol.specs.Syntax.{Formula}
use Rattle.tptp_read.specs.Texts.{formula_reading}
use Rattle.tptp_print.specs.Canonical.{canonical}

-- each text stands with the formula that its reading gives
pub record AreReadings {Y S : Type 0} (m : HashMap (String Y) Formula S) : Type 0 where
  pub given : (text : List ℕ) (f : Formula) → hash.get_by_text m text ≡ Some f → formula_reading text ≡ Ok f

-- the canonical text of a formula, which is printable
abbrev pub IsTextOf : Formula → List ℕ → Type 0
IsTextOf f text = (text ≡ canonical f) × (list_all is_printable text ≡ true)
