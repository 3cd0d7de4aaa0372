-- The other kind of outcome doesn't come.
use Rattle.tptp_read.specs.Given.{meaning}
use Rattle.tptp_read.proofs.Whole.{no_term}
use Rattle.tptp_read.proofs.reader.formula_of.Goals as goal

pub unreachable-requires : goal.unreachable-requires
unreachable-requires c =
    no_term c.args.text.now (meaning c.before_formula.result) c.in_ok-formula.field-0 c.in-Term.field-0 c.before_formula.ensures c.in_ok-formula.ensures c.in-Term.is
