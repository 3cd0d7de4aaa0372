-- The search goes over all literals, unless an atom has no place.
use Rattle.std.proofs.Common.{ap, sym, subst, ◌∙◌}
use Rattle.res_prover.specs.Bindings.{map_of}
use Rattle.res_prover.specs.Sending.{sends_literals, AreLiteralsOf}
use Rattle.res_prover.proofs.SendingLaws.{searched}
use Rattle.res_prover.proofs.MarkedLaws.{not_found}
use Rattle.res_prover.proofs.subsumption.finds_map.Goals as goal

pub returns-then-not-has_atoms_within : goal.returns-then-not-has_atoms_within
returns-then-not-has_atoms_within c = λ clause. not_found c.args.one.now c.args.other.now clause (c.has_atoms_within.ensures c.if-not-has_atoms_within.true)

pub returns : goal.returns
returns c = λ clause.
    let x = c.args.one.now in
    let y = c.args.other.now in
    c.in_ok-sent.ensures.sent
    ∙ ap (λ bs. sends_literals c.as_slice.result.now y (map_of bs)) c.new-bindings.ensures.items
    ∙ searched x y clause c.as_slice.result.now (subst (AreLiteralsOf x) (sym c.as_slice.ensures.value) c.in_ok-all.ensures)
