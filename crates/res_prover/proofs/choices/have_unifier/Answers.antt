-- All atoms are the first one and the others.
use Rattle.std.proofs.Common.{sym, ap, subst}
use Rattle.std.specs.Prelude.{Ok}
use Rattle.std.specs.List.{All}
use Rattle.clause_laws.specs.Unifiers.{set_of, MakesAll}
use Rattle.res_prover.specs.Resolved.{IsAtomFormed}
use Rattle.res_prover.proofs.Fronts.{front_rest}
use Rattle.res_prover.proofs.choices.have_unifier.Goals as goal

pub unifier-requires : goal.unifier-requires
unifier-requires c = subst (All IsAtomFormed) (sym (front_rest c.args.atoms.now c.first-item.result c.in-len1-up.len_at_least c.first-item.is)) c.requires.atoms

pub returns-in_default-2 : goal.returns-in_default-2
returns-in_default-2 c = λ _ u.
    let whole = front_rest c.args.atoms.now c.first-item.result c.in-len1-up.len_at_least c.first-item.is in
    c.in_ok-map.ensures.none (ap Ok c.in_default-2.is) u.map u.atom (subst (λ fs. MakesAll u.map (set_of fs) u.atom) (sym whole) u.unifies)
