-- The atoms are the first one and the rest.
use Rattle.std.proofs.Common.{ap, ◌∙◌}
use Rattle.std.specs.Prelude.{bit_or}
use Rattle.res_prover.specs.Marks.{atom_marks, side_marks}
use Rattle.res_prover.proofs.Fronts.{front_rest}
use Rattle.res_prover.proofs.marks.+side_marks.Goals as goal

pub returns : goal.returns
returns t c =
    let f = c.first-item.result in
    ap (λ m. bit_or m c.side_marks.result) c.marks.ensures
    ∙ ap (bit_or (atom_marks f)) c.side_marks.ensures
    ∙ ap side_marks (front_rest c.args.atoms.now f c.in-len1-up.len_at_least c.first-item.is)
