-- Unfolding of all defined symbols is determined by its steps.
use Rattle.std.proofs.Common.{◌≡◌, ℕ, zero, suc, ◌+◌, ◌<◌, true, false, Option, Some, IfSome, refl, sym, ap, subst, ◌∙◌, arith}
use Rattle.fol.specs.declared.symbols.Var.{Var}
use Rattle.fol.specs.Syntax.{free, pred, undefined, defined, Formula, atom, top, bot, not, and, or, imp, all, ex}
use Rattle.fol.specs.Formed.{count_terms, is_formed_var, is_formed_at, IsFormed, IsFormedVar}
use Rattle.free_variables.specs.Fresh.{least_outside}
use Rattle.free_variables.specs.Grade.{grade_of}
use Rattle.free_variables.specs.Occurrence.{is_free_in, var_list}
use Rattle.free_variables.proofs.FreshVariables.{fresh_out, least_outside_is}
use Rattle.free_variables.proofs.OccurrenceLaws.{is_free-var_list}
use Rattle.substitution.specs.Instance.{inst, bind}
use Rattle.substitution.specs.Unfolding.{put_at, matrix_under, unf}
use Rattle.substitution.proofs.Booleans.{and_left, and_right}
use Rattle.substitution.proofs.InstanceFormed.{formed-inst_at}
use Rattle.substitution.proofs.ShapeLaws.{grade-inst_at}
use Rattle.substitution.proofs.Unfoldings.{formed-unf, grade-unf}
use Rattle.def_laws.specs.Flat.{flat}
use Rattle.def_laws.specs.Steps.{UnfoldsAll}
use Rattle.def_laws.proofs.FlatUnfoldings.{flat-unf, flat_bound_again, flat_universal, flat_existential}

of_unfolding : (o : Option Formula) (a f : Formula) → IfSome o (λ g. flat g ≡ flat a) → o ≡ Some f → flat a ≡ flat f
of_unfolding o a f h e = let same : flat f ≡ flat a = subst (λ (p : Option Formula). IfSome p (λ g. flat g ≡ flat a)) e h in sym same

-- flat takes these steps
pub flat_unfolds : UnfoldsAll flat
flat_unfolds = record {
  undefined_atom = λ s ts. refl;
  defined_atom = λ a f h e. of_unfolding (unf a) a f (flat-unf a h) e;
  truth = refl;
  falsity = refl;
  negation = λ a. refl;
  conjunction = λ a b. refl;
  disjunction = λ a b. refl;
  implication = λ a b. refl;
  universal = λ a y h out. flat_universal y a 0 h out;
  existential = λ a y h out. flat_existential y a 0 h out;
}

-- a variable that isn't free in a formula

fresh : Formula → Var
fresh f = least_outside (var_list f)

fresh_free : (f : Formula) → is_free_in (fresh f) f ≡ false
unfolding fresh
fresh_free f = sym (is_free-var_list (least_outside (var_list f)) f) ∙ fresh_out (var_list f)

fresh_formed : (f : Formula) → IsFormedVar (fresh f)
unfolding fresh
fresh_formed f = ap is_formed_var (least_outside_is (var_list f)).numbered

-- and nothing else does: formulas of smaller grade first

module _ (g : Formula → Formula) (u : UnfoldsAll g) where
  bound_alike : (f : Formula) → g (inst f (free (fresh f))) ≡ flat (inst f (free (fresh f))) → is_formed_at 1 f ≡ true → bind (g (inst f (free (fresh f)))) (fresh f) ≡ flat f
  bound_alike f same h = ap (λ a. bind a (fresh f)) same ∙ flat_bound_again (fresh f) f 1 h (fresh_free f)

  alike : (n : ℕ) (f : Formula) → grade_of f < n → IsFormed f → g f ≡ flat f
  alike zero f few h = absurd (omega arith)
  alike (suc n) (atom (pred s undefined) ts) few h = u.undefined_atom s ts
  alike (suc n) (atom (pred s (defined b)) ts) few h =
      let a : Formula = atom (pred s (defined b)) ts in
      let f : Formula = put_at ts (count_terms ts) (matrix_under ts b) in
      u.defined_atom a f h refl ∙ alike n f (omega (arith, grade-unf a)) (formed-unf a h) ∙ flat-unf a h
  alike (suc n) top few h = u.truth
  alike (suc n) bot few h = u.falsity
  alike (suc n) (not a) few h = u.negation a ∙ ap not (alike n a (omega arith) h)
  alike (suc n) (and a b) few h =
      u.conjunction a b ∙ (λ i. and (alike n a (omega arith) (and_left _ _ h) i) (alike n b (omega arith) (and_right (is_formed_at 0 a) _ h) i))
  alike (suc n) (or a b) few h =
      u.disjunction a b ∙ (λ i. or (alike n a (omega arith) (and_left _ _ h) i) (alike n b (omega arith) (and_right (is_formed_at 0 a) _ h) i))
  alike (suc n) (imp a b) few h =
      u.implication a b ∙ (λ i. imp (alike n a (omega arith) (and_left _ _ h) i) (alike n b (omega arith) (and_right (is_formed_at 0 a) _ h) i))
  alike (suc n) (all f) few h =
      u.universal f (fresh f) h (fresh_free f)
      ∙ ap all (bound_alike f (alike n (inst f (free (fresh f))) (omega (arith, grade-inst_at (free (fresh f)) f 0)) (formed-inst_at (free (fresh f)) f 0 (fresh_formed f) h)) h)
  alike (suc n) (ex f) few h =
      u.existential f (fresh f) h (fresh_free f)
      ∙ ap ex (bound_alike f (alike n (inst f (free (fresh f))) (omega (arith, grade-inst_at (free (fresh f)) f 0)) (formed-inst_at (free (fresh f)) f 0 (fresh_formed f) h)) h)

pub unfolds_alike : (g : Formula → Formula) → UnfoldsAll g → (f : Formula) → IsFormed f → g f ≡ flat f
unfolds_alike g u f h = alike g u (grade_of f + 1) f (omega arith) h
