-- The equations say what is asked of the atoms.
use Rattle.std.proofs.Common.{◌∷◌, sym, ap, subst, ◌∙◌}
use Rattle.std.specs.Prelude.{Err}
use Rattle.std.specs.FinMap as fin
use Rattle.std.proofs.lemmas.List.Elements.{All-head}
use Rattle.substitution.specs.Image.{image}
use Rattle.unify_laws.specs.Equations.{AreFormed, Unifies}
use Rattle.res_prover.specs.Resolved.{IsAtomFormed, IsUnifierFor}
use Rattle.res_prover.proofs.Alike.{unified_alike}
use Rattle.res_prover.proofs.UnifiedAtoms.{solves, makes, not_of_one, formed_equations}
use Rattle.res_prover.proofs.unifiers.unifier.Goals as goal

pub returns-then-all_equal-clause-some : goal.returns-then-all_equal-clause-some
returns-then-all_equal-clause-some c =
    let f = c.args.first.now in
    let gs = c.args.others.now in
    subst (IsUnifierFor f gs) (sym c.new-unchanged.ensures) (unified_alike f gs (sym c.all_equal.ensures ∙ c.if-all_equal.true))

pub returns-then-not-all_same-clause-none : goal.returns-then-not-all_same-clause-none
returns-then-not-all_same-clause-none c _ h b all =
    let f = c.args.first.now in
    let gs = c.args.others.now in
    not_of_one h f b gs (All-head IsAtomFormed f gs c.requires).0 (sym c.all_same.ensures ∙ c.if-not-all_same.true) ((c.unifiers_of_atoms.ensures.listed h (f ∷ gs) b).0 all)

pub mgu-requires : goal.mgu-requires
mgu-requires c = record {
  formed = subst AreFormed (sym (c.as_slice.ensures.value ∙ c.in_ok-pairs.ensures)) (formed_equations c.args.first.now c.args.others.now c.requires);
}

pub returns-in-Ok-clause-some : goal.returns-in-Ok-clause-some
returns-in-Ok-clause-some c =
    let f = c.args.first.now in
    let gs = c.args.others.now in
    let m = fin.get c.in-Ok.map in
    let pairs = c.as_slice.ensures.value ∙ c.in_ok-pairs.ensures in
    let one = sym c.all_same.ensures ∙ c.if-not-all_same.false in
    record {
      formed = c.in-Ok.ensures.formed;
      most_general = record {
        makes = (c.unifiers_of_atoms.ensures.listed m (f ∷ gs) (image m f)).1 (makes m f gs one (subst (Unifies m) pairs c.in-Ok.ensures.unifies));
        general = λ h b all. record {
          rest = h;
          is = c.in-Ok.ensures.general h (subst (Unifies h) (sym pairs) (solves h f b gs one ((c.unifiers_of_atoms.ensures.listed h (f ∷ gs) b).0 all)));
        };
      };
    }

pub returns-in-Err-NoUnifier-clause-none : goal.returns-in-Err-NoUnifier-clause-none
returns-in-Err-NoUnifier-clause-none c _ h b all =
    let f = c.args.first.now in
    let gs = c.args.others.now in
    let pairs = c.as_slice.ensures.value ∙ c.in_ok-pairs.ensures in
    let one = sym c.all_same.ensures ∙ c.if-not-all_same.false in
    c.in-Err-NoUnifier.ensures.none (ap Err c.in-Err-NoUnifier.field-0-is) h (subst (Unifies h) (sym pairs) (solves h f b gs one ((c.unifiers_of_atoms.ensures.listed h (f ∷ gs) b).0 all)))
