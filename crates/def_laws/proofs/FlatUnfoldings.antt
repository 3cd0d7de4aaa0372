-- Unfolding of all defined symbols, step by step: an atom has that of its unfolding, and under a quantifier a variable stands for the bound
-- one.
use Rattle.std.proofs.Common.{◌≡◌, ℕ, ◌+◌, ◌≤◌, true, false, Some, IfSome, refl, sym, ap, ◌∙◌, arith}
use Rattle.fol.specs.declared.symbols.Sym.{Sym}
use Rattle.fol.specs.declared.symbols.Var.{Var}
use Rattle.fol.specs.Syntax.{free, Terms, nil, cons, Pred, pred, pred_body, undefined, defined, Formula, atom, all, ex}
use Rattle.fol.specs.Formed.{count_terms, leading_all, is_formed_pred, is_formed_term_at, are_formed_terms_at, is_formed_at, IsFormed}
use Rattle.fol.proofs.FormedPredicates.{formed_body, leading_body}
use Rattle.free_variables.specs.Occurrence.{is_free_in}
use Rattle.substitution.specs.Closed.{are_closed_terms_at}
use Rattle.substitution.specs.Instance.{inst, bind}
use Rattle.substitution.specs.Unfolding.{put_at, matrix_under, unf_body, unf}
use Rattle.substitution.proofs.Booleans.{and_left, and_right}
use Rattle.substitution.proofs.BindLaws.{bind-inst_at}
use Rattle.substitution.proofs.ClosedLaws.{closed_term_of, closed_of}
use Rattle.substitution.proofs.InstanceFormed.{formed-inst_at}
use Rattle.proof_trees.proofs.WithoutBodies.{stays_false}
use Rattle.def_laws.specs.Flat.{flat}
use Rattle.def_laws.specs.Instances.{instances}
use Rattle.def_laws.proofs.Puts.{put-closed}
use Rattle.def_laws.proofs.Matrices.{none_leads, leading-inst}
use Rattle.def_laws.proofs.InstanceLaws.{put_instances}
use Rattle.def_laws.proofs.FlatShapes.{formed_pred, formed_count, leads, free-flat}
use Rattle.def_laws.proofs.FlatLaws.{flat-inst_at}

-- of several instances in a row: those of what is unfolded
pub flat-instances : (ts : Terms) (f : Formula) → are_formed_terms_at 0 ts ≡ true → count_terms ts ≤ leading_all f → IsFormed f → flat (instances ts f) ≡ instances ts (flat f)
flat-instances nil f terms few h = refl
flat-instances (cons t ts) (all f) terms few h =
    flat-instances ts (inst f t) (and_right (is_formed_term_at 0 t) _ terms) (omega (arith, leading-inst t 0 f)) (formed-inst_at t f 0 (and_left _ _ terms) h)
    ∙ ap (instances ts) (flat-inst_at t (closed_term_of t 0 (and_left _ _ terms)) f 0 1 h)
flat-instances (cons t ts) f terms few h = none_leads _ few

-- the unfolding of an atom is the instance of the body by the arguments in a row
pub unf_instances : (s : Sym) (f : Formula) (ts : Terms) → IsFormed (atom (pred s (defined f)) ts) → unf (atom (pred s (defined f)) ts) ≡ Some (instances ts f)
unf_instances s f ts h =
    let p : Pred = pred s (defined f) in
    ap (λ (g : Formula). Some g)
    (put_instances ts f (closed_of (atom p ts) 0 h) (omega (arith, formed_count p ts 0 h, leading_body s f (formed_pred p ts 0 h))))

flat_unf_defined : (s : Sym) (f : Formula) (ts : Terms) → IsFormed (atom (pred s (defined f)) ts) → flat (put_at ts (count_terms ts) (matrix_under ts f)) ≡ flat (atom (pred s (defined f)) ts)
flat_unf_defined s f ts h =
    let p : Pred = pred s (defined f) in
    let symbol : is_formed_pred p ≡ true = formed_pred p ts 0 h in
    let few : count_terms ts ≤ leading_all f = omega (arith, formed_count p ts 0 h, leading_body s f symbol) in
    let closed : are_closed_terms_at 0 ts ≡ true = closed_of (atom p ts) 0 h in
    ap flat (put_instances ts f closed few)
    ∙ flat-instances ts f (and_right _ (are_formed_terms_at 0 ts) h) few (formed_body s f symbol)
    ∙ sym (put_instances ts (flat f) closed (leads s f ts symbol (formed_count p ts 0 h)))
    ∙ sym (put-closed ts (count_terms ts) (matrix_under ts (flat f)) closed)

flat_unf_atom : (p : Pred) (ts : Terms) → IsFormed (atom p ts) → IfSome (unf_body (pred_body p) ts) (λ g. flat g ≡ flat (atom p ts))
flat_unf_atom (pred s undefined) ts h = tt
flat_unf_atom (pred s (defined f)) ts h = flat_unf_defined s f ts h

-- an atom has what its unfolding has
pub flat-unf : (f : Formula) → IsFormed f → IfSome (unf f) (λ g. flat g ≡ flat f)
flat-unf (atom p ts) h = flat_unf_atom p ts h
flat-unf f h = tt

-- under a quantifier a variable that isn't free there stands for the bound one, and is bound again

pub flat_bound_again : (y : Var) (f : Formula) (j : ℕ) → is_formed_at j f ≡ true → is_free_in y f ≡ false → bind (flat (inst f (free y))) y ≡ flat f
flat_bound_again y f j h out =
    ap (λ g. bind g y) (flat-inst_at (free y) refl f 0 j h)
    ∙ bind-inst_at y (flat f) 0 (stays_false (is_free_in y (flat f)) (is_free_in y f) (free-flat y f j h) out)

pub flat_universal : (y : Var) (f : Formula) (k : ℕ) → is_formed_at k (all f) ≡ true → is_free_in y f ≡ false → flat (all f) ≡ all (bind (flat (inst f (free y))) y)
flat_universal y f k h out = ap all (sym (flat_bound_again y f (k + 1) h out))

pub flat_existential : (y : Var) (f : Formula) (k : ℕ) → is_formed_at k (ex f) ≡ true → is_free_in y f ≡ false → flat (ex f) ≡ ex (bind (flat (inst f (free y))) y)
flat_existential y f k h out = ap ex (sym (flat_bound_again y f (k + 1) h out))
