-- Trees are rightly built over rightly built parts.
use Rattle.std.proofs.Common.{◌≡◌, true}
use Rattle.std.specs.Cmp.Derive.{both_true}
use Rattle.fol.specs.Syntax.{Formula, free}
use Rattle.fol.specs.Formed.{is_formed, is_formed_var}
use Rattle.fol.specs.declared.symbols.Var.{Var}
use Rattle.expansion_laws.specs.Expansions.{Exp, conj, disj, impl, strong, shallow}
use Rattle.expansion_laws.specs.Building.{is_instance}
use Rattle.expansion_laws.specs.Formed.{IsProper}

pub both_proper : (d e : Exp) → IsProper d → IsProper e → IsProper (conj d e) × IsProper (disj d e) × IsProper (impl d e)
both_proper d e p q = (
  record { built = both_true p.built q.built; formed = both_true p.formed q.formed },
  record { built = both_true p.built q.built; formed = both_true p.formed q.formed },
  record { built = both_true p.built q.built; formed = both_true p.formed q.formed },
)

pub strong_proper : (f : Formula) (y : Var) (e : Exp) → is_formed f ≡ true → is_formed_var y ≡ true → is_instance f (free y) (shallow e) ≡ true → IsProper e → IsProper (strong f y e)
strong_proper f y e h k i p = record { built = both_true i p.built; formed = both_true (both_true h k) p.formed }
