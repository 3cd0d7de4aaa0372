-- The atoms are the first one and the rest.
use Rattle.std.proofs.Common.{ap, ◌∙◌}
use Rattle.std.specs.Prelude.{bit_or}
use Rattle.fol.specs.Facts.{formula_fingerprint}
use Rattle.res_prover.specs.Marks.{bit_of}
use Rattle.res_prover.specs.GroundAtoms.{whole_marks}
use Rattle.res_prover.proofs.Fronts.{front_rest}
use Rattle.res_prover.proofs.ground_atoms.+whole_marks.Goals as goal

pub returns : goal.returns
returns t c =
    let f = c.first-item.result in
    ap (λ m. bit_or m c.whole_marks.result) (c.bit.ensures ∙ ap bit_of c.fingerprint.ensures)
    ∙ ap (bit_or (bit_of (formula_fingerprint f))) c.whole_marks.ensures
    ∙ ap whole_marks (front_rest c.args.atoms.now f c.in-len1-up.len_at_least c.first-item.is)
