use Rattle.std.proofs.Common.{sym, ap, ◌∙◌}
use Rattle.fol.specs.Syntax.{free}
use Rattle.fol.specs.Shown.{term_of}
use Rattle.fol.proofs.OrderTies.{var_equality_same}
use Rattle.tptp_tokens.proofs.pool.is_variable.Goals as goal

-- the variable in the term is the one that is asked for
pub returns-in-Free : goal.returns-in-Free
returns-in-Free c same =
    sym (ap term_of (sym c.in-Free.is) ∙ c.node.ensures) ∙ ap free ((var_equality_same c.in-Free.other c.args.var.now c.eq.result c.eq.ensures).0 same)
