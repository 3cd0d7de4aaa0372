-- Unfolding of all defined symbols commutes with instances and with images.
use Rattle.std.proofs.Common.{◌≡◌, ℕ, ◌+◌, true, Option, refl, sym, ap, ◌∙◌, arith}
use Rattle.fol.specs.declared.symbols.Var.{Var}
use Rattle.fol.specs.Syntax.{Term, Terms, nil, cons, Pred, pred, pred_symbol, undefined, defined, Formula, atom, top, bot, not, and, or, imp, all, ex}
use Rattle.fol.specs.Formed.{count_terms, is_formed_pred, is_formed_at}
use Rattle.substitution.specs.Closed.{IsClosedTerm, IsClosedMap}
use Rattle.substitution.specs.Image.{image_terms, image}
use Rattle.substitution.specs.Instance.{inst_terms_at, inst_at}
use Rattle.substitution.specs.Unfolding.{matrix_under}
use Rattle.substitution.proofs.Booleans.{and_left, and_right}
use Rattle.substitution.proofs.ImageFormed.{count-image_terms}
use Rattle.def_laws.specs.Flat.{lifted_put, flat_atom, flat}
use Rattle.def_laws.proofs.Puts.{inst-put, image-put}
use Rattle.def_laws.proofs.Matrices.{same_matrix}
use Rattle.def_laws.proofs.FlatShapes.{formed_pred, formed_count, closed_flat_matrix, shut_flat_matrix}

-- as many arguments are put into one matrix
as_many : (us ts : Terms) (f : Formula) → count_terms us ≡ count_terms ts → lifted_put us (count_terms us) (matrix_under us f) ≡ lifted_put us (count_terms ts) (matrix_under ts f)
as_many us ts f same = λ i. lifted_put us (same i) (same_matrix us ts f same i)

-- instances

count-inst : (u : Term) (k : ℕ) (ts : Terms) → count_terms (inst_terms_at u k ts) ≡ count_terms ts
count-inst u k nil = refl
count-inst u k (cons t ts) = ap (λ n. n + 1) (count-inst u k ts)

flat-inst_atom : (u : Term) → IsClosedTerm u → (k : ℕ) (p : Pred) (ts : Terms) → is_formed_pred p ≡ true → count_terms ts ≡ (pred_symbol p).arity → flat_atom p (inst_terms_at u k ts) ≡ inst_at u k (flat_atom p ts)
flat-inst_atom u closed k (pred s undefined) ts h n = refl
flat-inst_atom u closed k (pred s (defined f)) ts h n =
    as_many (inst_terms_at u k ts) ts (flat f) (count-inst u k ts)
    ∙ sym (inst-put u closed ts (matrix_under ts (flat f)) k (count_terms ts) (omega arith) (closed_flat_matrix s f ts h n))

-- of an instance: the instance of what is unfolded
pub flat-inst_at : (u : Term) → IsClosedTerm u → (f : Formula) (k j : ℕ) → is_formed_at j f ≡ true → flat (inst_at u k f) ≡ inst_at u k (flat f)
flat-inst_at u closed (atom p ts) k j h = flat-inst_atom u closed k p ts (formed_pred p ts j h) (formed_count p ts j h)
flat-inst_at u closed top k j h = refl
flat-inst_at u closed bot k j h = refl
flat-inst_at u closed (not f) k j h = ap not (flat-inst_at u closed f k j h)
flat-inst_at u closed (and f g) k j h = λ i. and (flat-inst_at u closed f k j (and_left _ _ h) i) (flat-inst_at u closed g k j (and_right (is_formed_at j f) _ h) i)
flat-inst_at u closed (or f g) k j h = λ i. or (flat-inst_at u closed f k j (and_left _ _ h) i) (flat-inst_at u closed g k j (and_right (is_formed_at j f) _ h) i)
flat-inst_at u closed (imp f g) k j h = λ i. imp (flat-inst_at u closed f k j (and_left _ _ h) i) (flat-inst_at u closed g k j (and_right (is_formed_at j f) _ h) i)
flat-inst_at u closed (all f) k j h = ap all (flat-inst_at u closed f (k + 1) (j + 1) h)
flat-inst_at u closed (ex f) k j h = ap ex (flat-inst_at u closed f (k + 1) (j + 1) h)

-- images

flat-image_atom : (m : Var → Option Term) → IsClosedMap m → (p : Pred) (ts : Terms) → is_formed_pred p ≡ true → flat_atom p (image_terms m ts) ≡ image m (flat_atom p ts)
flat-image_atom m closed (pred s undefined) ts h = refl
flat-image_atom m closed (pred s (defined f)) ts h =
    as_many (image_terms m ts) ts (flat f) (count-image_terms m ts)
    ∙ sym (image-put m closed ts (count_terms ts) (matrix_under ts (flat f)) (shut_flat_matrix s f ts h))

-- of an image: the image of what is unfolded
pub flat-image : (m : Var → Option Term) → IsClosedMap m → (f : Formula) (j : ℕ) → is_formed_at j f ≡ true → flat (image m f) ≡ image m (flat f)
flat-image m closed (atom p ts) j h = flat-image_atom m closed p ts (formed_pred p ts j h)
flat-image m closed top j h = refl
flat-image m closed bot j h = refl
flat-image m closed (not f) j h = ap not (flat-image m closed f j h)
flat-image m closed (and f g) j h = λ i. and (flat-image m closed f j (and_left _ _ h) i) (flat-image m closed g j (and_right (is_formed_at j f) _ h) i)
flat-image m closed (or f g) j h = λ i. or (flat-image m closed f j (and_left _ _ h) i) (flat-image m closed g j (and_right (is_formed_at j f) _ h) i)
flat-image m closed (imp f g) j h = λ i. imp (flat-image m closed f j (and_left _ _ h) i) (flat-image m closed g j (and_right (is_formed_at j f) _ h) i)
flat-image m closed (all f) j h = ap all (flat-image m closed f (j + 1) h)
flat-image m closed (ex f) j h = ap ex (flat-image m closed f (j + 1) h)
