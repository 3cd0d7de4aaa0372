use Rattle.fol.specs.Formed.{IsFormedTerm}
use Rattle.std.proofs.lemmas.Result.{IfOk-weaker}
use Rattle.tptp_read.specs.Texts.{IsTermText, IsTermFault, term_reading}
use Rattle.tptp_read.proofs.Whole.{exact_term, is_text, is_fault, only_text, first_fault, one_text, one_fault}
use Rattle.tptp_read.proofs.Formed.{term_text_formed}
use Rattle.tptp_read.proofs.reader.read_term.Goals as goal

pub returns : goal.returns
returns c =
    let text = c.args.text.now in
    let given = c.term_of.ensures in
    let is = is_text (term_reading text) (IsTermText text) (IsTermFault text) (exact_term text) c.term_of.result given in
    record {
      text = is;
      only = only_text (term_reading text) (IsTermText text) (IsTermFault text) (exact_term text) c.term_of.result given;
      fault = is_fault (term_reading text) (IsTermText text) (IsTermFault text) (exact_term text) c.term_of.result given;
      first = first_fault (term_reading text) (IsTermText text) (IsTermFault text) (exact_term text) c.term_of.result given;
      one = one_text (term_reading text) (IsTermText text) (IsTermFault text) (exact_term text);
      one_fault = one_fault (term_reading text) (IsTermText text) (IsTermFault text) (exact_term text);
      reading = given;
      formed = IfOk-weaker c.term_of.result (IsTermText text) IsFormedTerm (term_text_formed text) is;
    }
