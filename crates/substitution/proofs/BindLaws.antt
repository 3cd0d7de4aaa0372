-- Binding a variable, and instances of what that gives.
use Rattle.std.proofs.Common.{◌≡◌, ℕ, ◌+◌, Bool, true, false, eqb, ◌==◌, ◌||◌, cond, if◌then◌else◌, Some, None, unwrap_or, refl, sym, ap, ◌∙◌, arith}
use Rattle.std.specs.Ordering.{eq_by_cmp}
use Rattle.std.specs.FinMap as fin
use Rattle.std.proofs.lemmas.Bool.Decides.{nat_tests}
use Rattle.std.proofs.lemmas.Cmp.{eq_by_cmp_equiv}
use Rattle.fol.specs.declared.symbols.Var.{Var}
use Rattle.fol.specs.Syntax.{Term, free, bound, app, Terms, nil, cons, Formula, atom, top, bot, not, and, or, imp, all, ex}
use Rattle.fol.specs.Order.{var_cmp}
use Rattle.fol.specs.OrderLaws.{var_total}
use Rattle.free_variables.specs.Occurrence.{is_free_in, is_free_in_term, is_free_in_terms}
use Rattle.substitution.specs.Closed.{is_closed_term_at, are_closed_terms_at, is_closed_at}
use Rattle.substitution.specs.Instance.{inst_term_at, inst_terms_at, inst_at, bind_term_at, bind_terms_at, bind_at}
use Rattle.substitution.specs.Image.{image_term, image_terms, image}
use Rattle.substitution.specs.Maps.{only}
use Rattle.substitution.proofs.Booleans.{and_left, and_right}
use Rattle.substitution.proofs.ClosedLaws.{inst_below}
use Rattle.substitution.proofs.ImageLaws.{same_var, itself}

symmetric : (v w : Var) → eq_by_cmp var_cmp v w ≡ eq_by_cmp var_cmp w v
symmetric v w = (eq_by_cmp_equiv var_total).symm v w

-- what the map with one binding has
only_at : (v : Var) (u : Term) (w : Var) → fin.get (only v u) w ≡ cond (eq_by_cmp var_cmp v w) (Some u) None
only_at v u w =
    fin.get-insert var_total fin.empty v u w
    ∙ λ i. cond (symmetric w v i) (Some u) (fin.get-empty var_cmp w i)

same_index : (k : ℕ) (u : Term) → (if k == k then u else bound k) ≡ u
same_index k u = grind (arith, nat_tests)

-- a variable that is bound, and then given a term

bound_then_given : (b : Bool) (u : Term) (w : Var) (k : ℕ) → inst_term_at u k (if b then bound k else free w) ≡ unwrap_or (cond b (Some u) None) (free w)
bound_then_given true u w k = same_index k u
bound_then_given false u w k = refl

mutual
  inst-bind_term_at : (u t : Term) (v : Var) (k : ℕ) → is_closed_term_at k t ≡ true → inst_term_at u k (bind_term_at v k t) ≡ image_term (fin.get (only v u)) t
  inst-bind_term_at u (free w) v k h =
      bound_then_given (eq_by_cmp var_cmp v w) u w k ∙ ap (λ o. unwrap_or o (free w)) (sym (only_at v u w))
  inst-bind_term_at u (bound i) v k h = inst_below u i k k (omega arith) h
  inst-bind_term_at u (app s ts) v k h = ap (app s) (inst-bind_terms_at u ts v k h)

  inst-bind_terms_at : (u : Term) (ts : Terms) (v : Var) (k : ℕ) → are_closed_terms_at k ts ≡ true → inst_terms_at u k (bind_terms_at v k ts) ≡ image_terms (fin.get (only v u)) ts
  inst-bind_terms_at u nil v k h = refl
  inst-bind_terms_at u (cons t ts) v k h = λ i. cons (inst-bind_term_at u t v k (and_left _ _ h) i) (inst-bind_terms_at u ts v k (and_right (is_closed_term_at k t) _ h) i)

-- an instance of a formula with a variable bound is the formula with the term for the variable
pub inst-bind_at : (u : Term) (f : Formula) (v : Var) (k : ℕ) → is_closed_at k f ≡ true → inst_at u k (bind_at v k f) ≡ image (fin.get (only v u)) f
inst-bind_at u (atom s ts) v k h = ap (atom s) (inst-bind_terms_at u ts v k h)
inst-bind_at u top v k h = refl
inst-bind_at u bot v k h = refl
inst-bind_at u (not f) v k h = ap not (inst-bind_at u f v k h)
inst-bind_at u (and f g) v k h = λ i. and (inst-bind_at u f v k (and_left _ _ h) i) (inst-bind_at u g v k (and_right (is_closed_at k f) _ h) i)
inst-bind_at u (or f g) v k h = λ i. or (inst-bind_at u f v k (and_left _ _ h) i) (inst-bind_at u g v k (and_right (is_closed_at k f) _ h) i)
inst-bind_at u (imp f g) v k h = λ i. imp (inst-bind_at u f v k (and_left _ _ h) i) (inst-bind_at u g v k (and_right (is_closed_at k f) _ h) i)
inst-bind_at u (all f) v k h = ap all (inst-bind_at u f v (k + 1) h)
inst-bind_at u (ex f) v k h = ap ex (inst-bind_at u f v (k + 1) h)

-- the map that sends a variable to itself

itself_given : (v w : Var) → unwrap_or (cond (eq_by_cmp var_cmp v w) (Some (free v)) None) (free w) ≡ free w
itself_given v w =
    elim (eq_by_cmp var_cmp v w) as (λ b. eq_by_cmp var_cmp v w ≡ b → unwrap_or (cond b (Some (free v)) None) (free w) ≡ free w) [
      | true ↦ λ e. ap free (same_var v w e)
      | false ↦ λ e. refl
    ] refl

mutual
  only-itself_term : (v : Var) (t : Term) → image_term (fin.get (only v (free v))) t ≡ t
  only-itself_term v (free w) = ap (λ o. unwrap_or o (free w)) (only_at v (free v) w) ∙ itself_given v w
  only-itself_term v (bound i) = refl
  only-itself_term v (app s ts) = ap (app s) (only-itself_terms v ts)

  only-itself_terms : (v : Var) (ts : Terms) → image_terms (fin.get (only v (free v))) ts ≡ ts
  only-itself_terms v nil = refl
  only-itself_terms v (cons t ts) = λ i. cons (only-itself_term v t i) (only-itself_terms v ts i)

only-itself : (v : Var) (f : Formula) → image (fin.get (only v (free v))) f ≡ f
only-itself v (atom s ts) = ap (atom s) (only-itself_terms v ts)
only-itself v top = refl
only-itself v bot = refl
only-itself v (not f) = ap not (only-itself v f)
only-itself v (and f g) = λ i. and (only-itself v f i) (only-itself v g i)
only-itself v (or f g) = λ i. or (only-itself v f i) (only-itself v g i)
only-itself v (imp f g) = λ i. imp (only-itself v f i) (only-itself v g i)
only-itself v (all f) = ap all (only-itself v f)
only-itself v (ex f) = ap ex (only-itself v f)

-- an instance by the variable undoes the binding
pub inst-bind_itself : (f : Formula) (v : Var) (k : ℕ) → is_closed_at k f ≡ true → inst_at (free v) k (bind_at v k f) ≡ f
inst-bind_itself f v k h = inst-bind_at (free v) f v k h ∙ only-itself v f

-- binding a variable undoes the instance by it, where it isn't free otherwise

given_then_bound : (i k : ℕ) (v : Var) → bind_term_at v k (if i == k then free v else bound i) ≡ bound i
given_then_bound i k v =
    elim (eqb i k) as (λ b. eqb i k ≡ b → bind_term_at v k (if b then free v else bound i) ≡ bound i) [
      | true ↦ λ e. rw (itself v) (ap bound (let same : k ≡ i = grind (arith, nat_tests) in same))
      | false ↦ λ e. refl
    ] refl

neither_first : (a b : Bool) → (a || b) ≡ false → a ≡ false
neither_first true b e = e
neither_first false b e = refl

neither_second : (a b : Bool) → (a || b) ≡ false → b ≡ false
neither_second true b e = cc
neither_second false b e = e

mutual
  bind-inst_term_at : (v : Var) (t : Term) (k : ℕ) → is_free_in_term v t ≡ false → bind_term_at v k (inst_term_at (free v) k t) ≡ t
  bind-inst_term_at v (free w) k h = rw h refl
  bind-inst_term_at v (bound i) k h = given_then_bound i k v
  bind-inst_term_at v (app s ts) k h = ap (app s) (bind-inst_terms_at v ts k h)

  bind-inst_terms_at : (v : Var) (ts : Terms) (k : ℕ) → is_free_in_terms v ts ≡ false → bind_terms_at v k (inst_terms_at (free v) k ts) ≡ ts
  bind-inst_terms_at v nil k h = refl
  bind-inst_terms_at v (cons t ts) k h =
      λ i. cons (bind-inst_term_at v t k (neither_first _ _ h) i) (bind-inst_terms_at v ts k (neither_second (is_free_in_term v t) _ h) i)

pub bind-inst_at : (v : Var) (f : Formula) (k : ℕ) → is_free_in v f ≡ false → bind_at v k (inst_at (free v) k f) ≡ f
bind-inst_at v (atom s ts) k h = ap (atom s) (bind-inst_terms_at v ts k h)
bind-inst_at v top k h = refl
bind-inst_at v bot k h = refl
bind-inst_at v (not f) k h = ap not (bind-inst_at v f k h)
bind-inst_at v (and f g) k h = λ i. and (bind-inst_at v f k (neither_first _ _ h) i) (bind-inst_at v g k (neither_second (is_free_in v f) _ h) i)
bind-inst_at v (or f g) k h = λ i. or (bind-inst_at v f k (neither_first _ _ h) i) (bind-inst_at v g k (neither_second (is_free_in v f) _ h) i)
bind-inst_at v (imp f g) k h = λ i. imp (bind-inst_at v f k (neither_first _ _ h) i) (bind-inst_at v g k (neither_second (is_free_in v f) _ h) i)
bind-inst_at v (all f) k h = ap all (bind-inst_at v f (k + 1) h)
bind-inst_at v (ex f) k h = ap ex (bind-inst_at v f (k + 1) h)
