use Rattle.serde_json.specs.Data.{string}
use Rattle.tptp_print.specs.Canonical.{canonical}
use Rattle.reply_lines.proofs.Adding.{Joins}
use Rattle.reply_lines.proofs.members.put_formulas.Given as goal

abbrev pub invariant-loop-formula : goal.invariant-loop-formula
invariant-loop-formula l = Joins (λ f. string (canonical f)) l.formulas l.formula-index l.initial.out l.out
