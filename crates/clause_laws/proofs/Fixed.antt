-- A map leaves a formula as it is exactly where it leaves its variables.
use Rattle.std.proofs.Common.{◌≡◌, true, sym, subst, ◌∙◌, refl}
use Rattle.fol.specs.declared.symbols.Var.{Var}
use Rattle.fol.specs.Syntax.{Term, free, bound, app, Terms, nil, cons, Formula, atom, top, bot, not, and, or, imp, all, ex}
use Rattle.free_variables.specs.Occurrence.{is_free_in, is_free_in_term, is_free_in_terms}
use Rattle.substitution.specs.Image.{image_term, image_terms, image}
use Rattle.substitution.proofs.ImageLaws.{agree, untouched, same_var}
use Rattle.proof_trees.proofs.Booleans.{either}
use Rattle.clause_laws.proofs.Sets.{Replacing, nothing}

module _ (m : Replacing) (v : Var) where
  mutual
    fixed_in_term : (t : Term) → image_term m t ≡ t → is_free_in_term v t ≡ true → image_term m (free v) ≡ free v
    fixed_in_term (free w) same e = subst (λ (u : Var). image_term m (free u) ≡ free u) (sym (same_var v w e)) same
    fixed_in_term (bound i) same e = cc
    fixed_in_term (app f ts) same e = fixed_in_terms ts (cc) e

    fixed_in_terms : (ts : Terms) → image_terms m ts ≡ ts → is_free_in_terms v ts ≡ true → image_term m (free v) ≡ free v
    fixed_in_terms nil same e = cc
    fixed_in_terms (cons t ts) same e = either (is_free_in_term v t) (is_free_in_terms v ts) (fixed_in_term t (cc)) (fixed_in_terms ts (cc)) e

  pub fixed_variable : (f : Formula) → image m f ≡ f → is_free_in v f ≡ true → image_term m (free v) ≡ free v
  fixed_variable (atom s ts) same e = fixed_in_terms ts (cc) e
  fixed_variable top same e = cc
  fixed_variable bot same e = cc
  fixed_variable (not f) same e = fixed_variable f (cc) e
  fixed_variable (and f g) same e = either (is_free_in v f) (is_free_in v g) (fixed_variable f (cc)) (fixed_variable g (cc)) e
  fixed_variable (or f g) same e = either (is_free_in v f) (is_free_in v g) (fixed_variable f (cc)) (fixed_variable g (cc)) e
  fixed_variable (imp f g) same e = either (is_free_in v f) (is_free_in v g) (fixed_variable f (cc)) (fixed_variable g (cc)) e
  fixed_variable (all f) same e = fixed_variable f (cc) e
  fixed_variable (ex f) same e = fixed_variable f (cc) e

pub kept_formula : (m : Replacing) (f : Formula) → ((v : Var) → is_free_in v f ≡ true → image_term m (free v) ≡ free v) → image m f ≡ f
kept_formula m f same = agree m nothing f same ∙ untouched nothing f (λ v e. refl)
