use Rattle.std.proofs.Common.{◌≡◌, false}
use Rattle.fol.specs.Facts.{has_body}
use Rattle.fol.specs.Formed.{IsFormed}
use Rattle.std.proofs.lemmas.Result.{IfOk-weaker}
use Rattle.tptp_read.specs.Texts.{IsFormulaText, IsFormulaFault, formula_reading}
use Rattle.tptp_read.proofs.Whole.{exact_formula, is_text, is_fault, only_text, first_fault, one_text, one_fault}
use Rattle.tptp_read.proofs.Formed.{text_formed}
use Rattle.tptp_read.proofs.Plain.{text_plain}
use Rattle.tptp_read.proofs.reader.read_formula.Goals as goal

pub returns : goal.returns
returns c =
    let text = c.args.text.now in
    let given = c.formula_of.ensures in
    let is = is_text (formula_reading text) (IsFormulaText text) (IsFormulaFault text) (exact_formula text) c.formula_of.result given in
    record {
      text = is;
      only = only_text (formula_reading text) (IsFormulaText text) (IsFormulaFault text) (exact_formula text) c.formula_of.result given;
      fault = is_fault (formula_reading text) (IsFormulaText text) (IsFormulaFault text) (exact_formula text) c.formula_of.result given;
      first = first_fault (formula_reading text) (IsFormulaText text) (IsFormulaFault text) (exact_formula text) c.formula_of.result given;
      one = one_text (formula_reading text) (IsFormulaText text) (IsFormulaFault text) (exact_formula text);
      one_fault = one_fault (formula_reading text) (IsFormulaText text) (IsFormulaFault text) (exact_formula text);
      reading = given;
      plain = IfOk-weaker c.formula_of.result (IsFormulaText text) (λ f. has_body f ≡ false) (text_plain text) is;
      formed = IfOk-weaker c.formula_of.result (IsFormulaText text) IsFormed (text_formed text) is;
    }
