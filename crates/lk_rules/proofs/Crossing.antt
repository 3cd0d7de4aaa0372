-- Terms, formulas, sequents and rules may cross threads, as a set for `search`. A rule has so many variants that its search needs bounds of
-- its own.
use denote.Param.Send.{IsSend, IsSync, sendable}
use Rattle.std.proofs.Crossing as std
use Rattle.fol.proofs.symbols.Sym.TheSendSync as symbol
use Rattle.fol.proofs.symbols.Var.TheSendSync as var
use Rattle.fol.proofs.syntax.Formula.TheLaws.TheKnot as formula_knot
use Rattle.fol.proofs.syntax.Term.TheLaws.TheKnot as term_knot
use Rattle.fol.specs.contracts.syntax.Formula as formula
use Rattle.fol.specs.contracts.syntax.Term as term
use Rattle.fol.specs.contracts.syntax.Terms as terms
use Rattle.lk_rules.proofs.numbers.Numbers.TheSendSync as numbers
use Rattle.lk_rules.specs.contracts.formulas.Formulas as formulas
use Rattle.lk_rules.specs.contracts.rule.Rule as rule
use Rattle.lk_rules.specs.contracts.rule.Step as step
use Rattle.lk_rules.specs.contracts.sequent.Sequent as sequent

pub term_send : IsSend term.the_row
term_send = search (sendable, std.crosses, term_knot.crosses) depth 20

pub term_sync : IsSync term.the_row
term_sync = search (sendable, std.crosses, term_knot.crosses) depth 20

pub terms_send : IsSend terms.the_row
terms_send = search (sendable, std.crosses, term_knot.crosses) depth 20

pub terms_sync : IsSync terms.the_row
terms_sync = search (sendable, std.crosses, term_knot.crosses) depth 20

pub formula_send : IsSend formula.the_row
formula_send = search (sendable, std.crosses, formula_knot.crosses, term_knot.crosses) depth 20

pub formula_sync : IsSync formula.the_row
formula_sync = search (sendable, std.crosses, formula_knot.crosses, term_knot.crosses) depth 20

pub rule_send : IsSend (rule.the_field).row
rule_send = search (sendable, std.crosses, formula_send, term_send, var.the_field_send) depth 40 fits 10000

pub rule_sync : IsSync (rule.the_field).row
rule_sync = search (sendable, std.crosses, formula_sync, term_sync, var.the_field_sync) depth 40 fits 10000

pub formulas_send : IsSend formulas.the_row
formulas_send = search (sendable, std.crosses, formula_send, formula_sync) depth 20

pub formulas_sync : IsSync formulas.the_row
formulas_sync = search (sendable, std.crosses, formula_send, formula_sync) depth 20

pub sequent_send : IsSend (sequent.the_field).row
sequent_send = search (sendable, std.crosses, formulas_send) depth 10

pub sequent_sync : IsSync (sequent.the_field).row
sequent_sync = search (sendable, std.crosses, formulas_sync) depth 10

pub step_send : IsSend (step.the_field).row
step_send = search (sendable, std.crosses, rule_send, numbers.the_send, sequent_send) depth 10

pub step_sync : IsSync (step.the_field).row
step_sync = search (sendable, std.crosses, rule_sync, numbers.the_sync, sequent_sync) depth 10

pub ruleset crosses = (
  term_send,
  term_sync,
  terms_send,
  terms_sync,
  formula_send,
  formula_sync,
  var.the_field_send,
  var.the_field_sync,
  symbol.the_field_send,
  symbol.the_field_sync,
  rule_send,
  rule_sync,
  formulas_send,
  formulas_sync,
  numbers.the_send,
  numbers.the_sync,
  sequent_send,
  sequent_sync,
  step_send,
  step_sync,
)
