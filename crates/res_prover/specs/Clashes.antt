-- Terms that no map makes equal, as a walk over both shows.
--     clashes, any_clash, symbols_clash, atoms_clash      symbols with different fingerprints stand at one place
use Rattle.std.specs.Prelude.{◌==◌, Bool, false, not as negated, ◌&&◌, ◌||◌, if◌then◌else◌}
use Rattle.fol.specs.Syntax.{Term, app, Terms, cons, Formula, atom}
use Rattle.fol.specs.Facts.{is_open, sym_fingerprint, pred_fingerprint, formula_fingerprint}

abbrev mutual
  pub clashes : Term → Term → Bool
  clashes (app s ts) (app r us) = negated (sym_fingerprint s == sym_fingerprint r) || any_clash ts us
  clashes t u = false

  pub any_clash : Terms → Terms → Bool
  any_clash (cons t ts) (cons u us) = clashes t u || any_clash ts us
  any_clash ts us = false

-- of atoms, whose predicate symbols may differ as well
abbrev pub symbols_clash : Formula → Formula → Bool
symbols_clash (atom p ts) (atom q us) = negated (pred_fingerprint p == pred_fingerprint q) || any_clash ts us
symbols_clash f g = false

-- atoms without variables clash where their fingerprints differ
abbrev pub atoms_clash : Formula → Formula → Bool
atoms_clash f g = if negated (is_open f) && negated (is_open g) then negated (formula_fingerprint f == formula_fingerprint g) else symbols_clash f g
