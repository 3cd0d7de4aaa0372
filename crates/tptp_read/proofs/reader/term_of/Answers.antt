-- The other kind of outcome doesn't come.
use Rattle.tptp_read.specs.Given.{meaning}
use Rattle.tptp_read.proofs.Whole.{no_formula}
use Rattle.tptp_read.proofs.reader.term_of.Goals as goal

pub unreachable-requires : goal.unreachable-requires
unreachable-requires c =
    no_formula c.args.text.now (meaning c.before_term.result) c.in_ok-term.field-0 c.in-Formula.field-0 c.before_term.ensures c.in_ok-term.ensures c.in-Formula.is
