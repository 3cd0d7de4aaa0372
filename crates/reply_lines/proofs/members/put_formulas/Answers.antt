use Rattle.serde_json.specs.Data.{Data, string}
use Rattle.fol.specs.Syntax.{Formula}
use Rattle.tptp_print.specs.Canonical.{canonical}
use Rattle.json_text.proofs.Adding.{adds_then}
use Rattle.reply_lines.proofs.Adding.{joins_start, joins_more, joins_end}
use Rattle.reply_lines.proofs.members.put_formulas.Goals as goal

abbrev shown : Formula → Data
shown f = string (canonical f)

pub loop-formula-init : goal.loop-formula-init
loop-formula-init c = joins_start shown c.args.formulas.now c.begin_array.new.self

pub loop-formula-preserved : goal.loop-formula-preserved
loop-formula-preserved c =
    let l = c.loop-formula in
    joins_more shown c.args.formulas.now l.formula-index c.formula-item.result c.begin_array.new.self l.out c.put_formula.new.out
    c.loop-formula-test.true c.formula-item.is c.put_formula.ensures l.invariant

pub returns : goal.returns
returns c =
    let l = c.loop-formula in
    adds_then c.begin_array.ensures
    (joins_end shown c.args.formulas.now l.formula-index c.begin_array.new.self l.out c.end_array.new.self c.loop-formula-test.false c.end_array.ensures l.invariant)
