-- All atoms are the first one and the others.
use Rattle.std.proofs.Common.{◌++◌, ◌∷◌, sym, ap, subst, ◌∙◌}
use Rattle.std.specs.Prelude.{Ok, IfSome}
use Rattle.std.specs.FinMap as fin
use Rattle.std.specs.List.{All}
use Rattle.std.proofs.lemmas.List.Elements.{All-head}
use Rattle.substitution.specs.Image.{image}
use Rattle.lk_rules.specs.Sequents.{image_sequent}
use Rattle.refutations.specs.Refutations.{resolvent}
use Rattle.clause_laws.specs.Unifiers.{set_of, MakesAll, IsMostGeneral}
use Rattle.clause_laws.specs.Normal.{normal}
use Rattle.res_prover.specs.Resolved.{IsAtomFormed, IsUnifierFor}
use Rattle.res_prover.proofs.Fronts.{front_rest}
use Rattle.res_prover.proofs.UnifiedAtoms.{atom_image}
use Rattle.res_prover.proofs.resolving.resolve_by.Goals as goal

pub unifier-requires : goal.unifier-requires
unifier-requires c =
    let f = c.first-item.result in
    let whole = ap (λ gs. f ∷ gs) (c.as_slice.ensures.value ∙ c.in_ok-others.ensures) ∙ ap (λ fs. fs ++ c.args.lefts.now) (front_rest c.args.rights.now f c.in-len1-up.len_at_least c.first-item.is) in
    subst (All IsAtomFormed) (sym whole) c.requires.atoms

pub returns-then-first_clash-clause-none : goal.returns-then-first_clash-clause-none
returns-then-first_clash-clause-none c _ = c.first_clash.ensures c.if-first_clash.true

pub returns-in_default-2-clause-none : goal.returns-in_default-2-clause-none
returns-in_default-2-clause-none c _ u =
    let f = c.first-item.result in
    let whole = ap (λ gs. f ∷ gs) (c.as_slice.ensures.value ∙ c.in_ok-others.ensures) ∙ ap (λ fs. fs ++ c.args.lefts.now) (front_rest c.args.rights.now f c.in-len1-up.len_at_least c.first-item.is) in
    c.in_ok-map.ensures.none (ap Ok c.in_default-2.is) u.map u.atom (subst (λ fs. MakesAll u.map (set_of fs) u.atom) (sym whole) u.unifies)

pub returns-clause-by : goal.returns-clause-by
returns-clause-by c =
    let f = c.first-item.result in
    let whole = ap (λ gs. f ∷ gs) (c.as_slice.ensures.value ∙ c.in_ok-others.ensures) ∙ ap (λ fs. fs ++ c.args.lefts.now) (front_rest c.args.rights.now f c.in-len1-up.len_at_least c.first-item.is) in
    let m = fin.get c.in-Some.map in
    let found : IsUnifierFor f c.as_slice.result.now c.in-Some.map = subst (λ o. IfSome o (IsUnifierFor f c.as_slice.result.now)) c.in-Some.is c.in_ok-map.ensures.some in
    let atoms = subst (All IsAtomFormed) (sym whole) c.requires.atoms in
    record {
      unifier = m;
      atom = image m f;
      of_atoms = atom_image m f (All-head IsAtomFormed f c.as_slice.result.now atoms).0;
      most_general = subst (λ fs. IsMostGeneral m (set_of fs) (image m f)) whole found.most_general;
      is = c.in_ok-clause.ensures ∙ ap normal (c.in_ok-whole.ensures ∙ ap (λ a. resolvent c.in_ok-one.one c.in_ok-other.other a) c.in_ok-atom.ensures.value ∙ ap (λ s. resolvent s c.in_ok-other.other (image m f)) c.in_ok-one.ensures ∙ ap (λ s. resolvent (image_sequent m c.args.positive.now) s (image m f)) c.in_ok-other.ensures);
    }
