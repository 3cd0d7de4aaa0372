-- The first atoms are members of the lists.
use Rattle.std.proofs.Common.{sym, ◌∙◌, arith}
use Rattle.res_prover.proofs.Members.{has_place}
use Rattle.res_prover.proofs.ClashLaws.{clash_unified}
use Rattle.res_prover.proofs.clashes.first_clash.Goals as goal

pub returns : goal.returns
returns c = λ yes u.
    let f = c.first-item.result in
    let g = c.other-item.result in
    clash_unified c.args.atoms.now c.args.others.now f g (has_place c.args.atoms.now 0 f (omega arith) c.first-item.is) (has_place c.args.others.now 0 g (omega arith) c.other-item.is) (sym c.atoms_clash.ensures ∙ yes) u
