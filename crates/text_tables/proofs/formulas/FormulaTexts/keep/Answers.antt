use Rattle.std.proofs.Common.{Ok, sym, ap, ◌∙◌}
use Rattle.tptp_read.specs.Texts.{formula_reading}
use Rattle.text_tables.proofs.Readings.{kept}
use Rattle.text_tables.proofs.formulas.FormulaTexts.keep.Goals as goal

pub invariant_of-self : goal.invariant_of-self
invariant_of-self c =
    kept _ c.self.invariant _ c.insert.result c.in-Ok.key c.in-Ok-copy.formula (ap formula_reading c.in-Ok.ensures.ok ∙ c.requires ∙ ap Ok (sym c.in-Ok-copy.ensures))
    c.insert.ensures.updates c.insert.ensures.err
