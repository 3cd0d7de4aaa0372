-- Images: of an instance, of an image, under maps that agree, and under maps with one binding more.
use Rattle.std.proofs.Common.{◌≡◌, ℕ, ◌+◌, Bool, true, false, eqb, ◌||◌, cond, if◌then◌else◌, Option, Some, None, IfSome, unwrap_or, refl, sym, ap, subst, ◌∙◌, arith}
use Rattle.std.specs.Ordering.{eq_by_cmp}
use Rattle.std.specs.FinMap as fin
use Rattle.std.proofs.lemmas.Bool.{false≢true}
use Rattle.std.proofs.lemmas.Cmp.{eq_by_cmp_equiv}
use Rattle.fol.specs.declared.symbols.Var.{Var}
use Rattle.fol.specs.Syntax.{Term, free, bound, app, Terms, nil, cons, Formula, atom, top, bot, not, and, or, imp, all, ex}
use Rattle.fol.specs.Order.{var_cmp}
use Rattle.fol.specs.OrderLaws.{var_total}
use Rattle.fol.proofs.OrderTies.{var_equality_same}
use Rattle.fol.specs.Formed.{IsFormedTerm}
use Rattle.free_variables.specs.Occurrence.{is_free_in, is_free_in_term, is_free_in_terms}
use Rattle.substitution.specs.Closed.{IsClosedTerm, IsClosedMap}
use Rattle.substitution.specs.Instance.{inst_term_at, inst_terms_at, inst_at, inst}
use Rattle.substitution.specs.Image.{image_term, image_terms, image, after, IsFormedMap}
use Rattle.substitution.specs.Maps.{Map, only}
use Rattle.substitution.proofs.ClosedLaws.{inst-closed_term}

abbrev Replacing : Type 0
Replacing = Var → Option Term

-- of an instance

closed_image_var : (o : Option Term) (v : Var) (u : Term) (k : ℕ) → IfSome o IsClosedTerm → unwrap_or o (free v) ≡ inst_term_at u k (unwrap_or o (free v))
closed_image_var None v u k h = refl
closed_image_var (Some t) v u k h = sym (inst-closed_term u t 0 k (omega arith) h)

image_chosen : (m : Replacing) (b : Bool) (u : Term) (i : ℕ) → image_term m (if b then u else bound i) ≡ (if b then image_term m u else bound i)
image_chosen m true u i = refl
image_chosen m false u i = refl

mutual
  pub image-inst_term_at : (m : Replacing) → IsClosedMap m → (u t : Term) (k : ℕ) → image_term m (inst_term_at u k t) ≡ inst_term_at (image_term m u) k (image_term m t)
  image-inst_term_at m closed u (free v) k = closed_image_var (m v) v (image_term m u) k (closed v)
  image-inst_term_at m closed u (bound i) k = image_chosen m (eqb i k) u i
  image-inst_term_at m closed u (app s ts) k = ap (app s) (image-inst_terms_at m closed u ts k)

  image-inst_terms_at : (m : Replacing) → IsClosedMap m → (u : Term) (ts : Terms) (k : ℕ) → image_terms m (inst_terms_at u k ts) ≡ inst_terms_at (image_term m u) k (image_terms m ts)
  image-inst_terms_at m closed u nil k = refl
  image-inst_terms_at m closed u (cons t ts) k = λ i. cons (image-inst_term_at m closed u t k i) (image-inst_terms_at m closed u ts k i)

-- the image of an instance is the instance of the image, where the terms of the map have no index
pub image-inst_at : (m : Replacing) → IsClosedMap m → (u : Term) (f : Formula) (k : ℕ) → image m (inst_at u k f) ≡ inst_at (image_term m u) k (image m f)
image-inst_at m closed u (atom s ts) k = ap (atom s) (image-inst_terms_at m closed u ts k)
image-inst_at m closed u top k = refl
image-inst_at m closed u bot k = refl
image-inst_at m closed u (not f) k = ap not (image-inst_at m closed u f k)
image-inst_at m closed u (and f g) k = λ i. and (image-inst_at m closed u f k i) (image-inst_at m closed u g k i)
image-inst_at m closed u (or f g) k = λ i. or (image-inst_at m closed u f k i) (image-inst_at m closed u g k i)
image-inst_at m closed u (imp f g) k = λ i. imp (image-inst_at m closed u f k i) (image-inst_at m closed u g k i)
image-inst_at m closed u (all f) k = ap all (image-inst_at m closed u f (k + 1))
image-inst_at m closed u (ex f) k = ap ex (image-inst_at m closed u f (k + 1))

-- of an image

mutual
  pub image-image_term : (g h : Replacing) (t : Term) → image_term h (image_term g t) ≡ image_term (after g h) t
  image-image_term g h (free v) = refl
  image-image_term g h (bound i) = refl
  image-image_term g h (app s ts) = ap (app s) (image-image_terms g h ts)

  image-image_terms : (g h : Replacing) (ts : Terms) → image_terms h (image_terms g ts) ≡ image_terms (after g h) ts
  image-image_terms g h nil = refl
  image-image_terms g h (cons t ts) = λ i. cons (image-image_term g h t i) (image-image_terms g h ts i)

-- the image of an image is the image under both maps in a row
pub image-image : (g h : Replacing) (f : Formula) → image h (image g f) ≡ image (after g h) f
image-image g h (atom s ts) = ap (atom s) (image-image_terms g h ts)
image-image g h top = refl
image-image g h bot = refl
image-image g h (not f) = ap not (image-image g h f)
image-image g h (and a b) = λ i. and (image-image g h a i) (image-image g h b i)
image-image g h (or a b) = λ i. or (image-image g h a i) (image-image g h b i)
image-image g h (imp a b) = λ i. imp (image-image g h a i) (image-image g h b i)
image-image g h (all f) = ap all (image-image g h f)
image-image g h (ex f) = ap ex (image-image g h f)

-- under maps that agree

or_first : (a b : Bool) → a ≡ true → (a || b) ≡ true
or_first a b e = rw e refl

or_second : (a b : Bool) → b ≡ true → (a || b) ≡ true
or_second true b e = refl
or_second false b e = e

pub itself : (v : Var) → eq_by_cmp var_cmp v v ≡ true
itself v = (eq_by_cmp_equiv var_total).refl v

mutual
  pub agree_term : (g h : Replacing) (t : Term) → ((v : Var) → is_free_in_term v t ≡ true → image_term g (free v) ≡ image_term h (free v)) → image_term g t ≡ image_term h t
  agree_term g h (free v) same = same v (itself v)
  agree_term g h (bound i) same = refl
  agree_term g h (app s ts) same = ap (app s) (agree_terms g h ts same)

  agree_terms : (g h : Replacing) (ts : Terms) → ((v : Var) → is_free_in_terms v ts ≡ true → image_term g (free v) ≡ image_term h (free v)) → image_terms g ts ≡ image_terms h ts
  agree_terms g h nil same = refl
  agree_terms g h (cons t ts) same =
      λ i. cons (agree_term g h t (λ v e. same v (or_first _ _ e)) i) (agree_terms g h ts (λ v e. same v (or_second (is_free_in_term v t) _ e)) i)

-- maps that agree on the free variables have one image
pub agree : (g h : Replacing) (f : Formula) → ((v : Var) → is_free_in v f ≡ true → image_term g (free v) ≡ image_term h (free v)) → image g f ≡ image h f
agree g h (atom s ts) same = ap (atom s) (agree_terms g h ts same)
agree g h top same = refl
agree g h bot same = refl
agree g h (not f) same = ap not (agree g h f same)
agree g h (and a b) same = λ i. and (agree g h a (λ v e. same v (or_first _ _ e)) i) (agree g h b (λ v e. same v (or_second (is_free_in v a) _ e)) i)
agree g h (or a b) same = λ i. or (agree g h a (λ v e. same v (or_first _ _ e)) i) (agree g h b (λ v e. same v (or_second (is_free_in v a) _ e)) i)
agree g h (imp a b) same = λ i. imp (agree g h a (λ v e. same v (or_first _ _ e)) i) (agree g h b (λ v e. same v (or_second (is_free_in v a) _ e)) i)
agree g h (all f) same = ap all (agree g h f same)
agree g h (ex f) same = ap ex (agree g h f same)

abbrev none : Replacing
none v = None

mutual
  image-none_term : (t : Term) → image_term none t ≡ t
  image-none_term (free v) = refl
  image-none_term (bound i) = refl
  image-none_term (app s ts) = ap (app s) (image-none_terms ts)

  image-none_terms : (ts : Terms) → image_terms none ts ≡ ts
  image-none_terms nil = refl
  image-none_terms (cons t ts) = λ i. cons (image-none_term t i) (image-none_terms ts i)

image-none : (f : Formula) → image none f ≡ f
image-none (atom s ts) = ap (atom s) (image-none_terms ts)
image-none top = refl
image-none bot = refl
image-none (not f) = ap not (image-none f)
image-none (and a b) = λ i. and (image-none a i) (image-none b i)
image-none (or a b) = λ i. or (image-none a i) (image-none b i)
image-none (imp a b) = λ i. imp (image-none a i) (image-none b i)
image-none (all f) = ap all (image-none f)
image-none (ex f) = ap ex (image-none f)

-- a map that has none of the free variables changes nothing
pub untouched : (m : Replacing) (f : Formula) → ((v : Var) → is_free_in v f ≡ true → m v ≡ None) → image m f ≡ f
untouched m f away = agree m none f (λ v e. ap (λ o. unwrap_or o (free v)) (away v e)) ∙ image-none f

pub untouched_term : (m : Replacing) (t : Term) → ((v : Var) → is_free_in_term v t ≡ true → m v ≡ None) → image_term m t ≡ t
untouched_term m t away = agree_term m none t (λ v e. ap (λ o. unwrap_or o (free v)) (away v e)) ∙ image-none_term t

-- the empty map changes nothing
pub image-empty : (f : Formula) → image (fin.get {R = var_cmp} fin.empty) f ≡ f
image-empty f = untouched _ f (λ v e. fin.get-empty var_cmp v)

pub image-empty_term : (t : Term) → image_term (fin.get {R = var_cmp} fin.empty) t ≡ t
image-empty_term t = untouched_term _ t (λ v e. fin.get-empty var_cmp v)

-- under maps with one binding more

pub other_binding : (m : Map) (y v : Var) (u : Term) → eq_by_cmp var_cmp v y ≡ false → fin.get (fin.insert m y u) v ≡ fin.get m v
other_binding m y v u apart = fin.get-insert var_total m y u v ∙ ap (λ b. cond b (Some u) (fin.get m v)) apart

pub own_binding : (m : Map) (y : Var) (u : Term) → fin.get (fin.insert m y u) y ≡ Some u
own_binding m y u = fin.get-insert var_total m y u y ∙ ap (λ b. cond b (Some u) (fin.get m y)) (itself y)

pub same_var : (v w : Var) → eq_by_cmp var_cmp v w ≡ true → v ≡ w
same_var v w e = (var_equality_same v w (eq_by_cmp var_cmp v w) refl).0 e

-- a binding of a variable that isn't free changes nothing
pub away : (m : Map) (y : Var) (u : Term) (f : Formula) → is_free_in y f ≡ false → image (fin.get (fin.insert m y u)) f ≡ image (fin.get m) f
away m y u f out = agree _ _ f (λ v e.
    elim (eq_by_cmp var_cmp v y) as (λ b. eq_by_cmp var_cmp v y ≡ b → image_term (fin.get (fin.insert m y u)) (free v) ≡ image_term (fin.get m) (free v)) [
      | true ↦ λ tie. absurd (false≢true (sym out ∙ (ap (λ w. is_free_in w f) (sym (same_var v y tie)) ∙ e)))
      | false ↦ λ apart. ap (λ o. unwrap_or o (free v)) (other_binding m y v u apart)
    ] refl)

pub away_term : (m : Map) (y : Var) (u t : Term) → is_free_in_term y t ≡ false → image_term (fin.get (fin.insert m y u)) t ≡ image_term (fin.get m) t
away_term m y u t out = agree_term _ _ t (λ v e.
    elim (eq_by_cmp var_cmp v y) as (λ b. eq_by_cmp var_cmp v y ≡ b → image_term (fin.get (fin.insert m y u)) (free v) ≡ image_term (fin.get m) (free v)) [
      | true ↦ λ tie. absurd (false≢true (sym out ∙ (ap (λ w. is_free_in_term w t) (sym (same_var v y tie)) ∙ e)))
      | false ↦ λ apart. ap (λ o. unwrap_or o (free v)) (other_binding m y v u apart)
    ] refl)

-- the terms of a map with one binding more

keeps_cond : (P : Term → Type 0) (b : Bool) (u : Term) (o : Option Term) → IfSome o P → P u → IfSome (cond b (Some u) o) P
keeps_cond P true u o h p = p
keeps_cond P false u o h p = h

keeps_insert : (P : Term → Type 0) (m : Map) (y : Var) (u : Term) (v : Var) → IfSome (fin.get m v) P → P u → IfSome (fin.get (fin.insert m y u) v) P
keeps_insert P m y u v h p = subst (λ o. IfSome o P) (sym (fin.get-insert var_total m y u v)) (keeps_cond P (eq_by_cmp var_cmp v y) u (fin.get m v) h p)

keeps_empty : (P : Term → Type 0) (v : Var) → IfSome (fin.get {R = var_cmp} fin.empty v) P
keeps_empty P v = let Q : Option Term → Type 0 = λ o. IfSome o P in subst Q (sym (fin.get-empty var_cmp v)) tt

pub formed_insert : (m : Map) (y : Var) (u : Term) → IsFormedMap (fin.get m) → IsFormedTerm u → IsFormedMap (fin.get (fin.insert m y u))
formed_insert m y u map term v = keeps_insert (λ t. IsFormedTerm t) m y u v (map v) term

pub closed_insert : (m : Map) (y : Var) (u : Term) → IsClosedMap (fin.get m) → IsClosedTerm u → IsClosedMap (fin.get (fin.insert m y u))
closed_insert m y u map term v = keeps_insert (λ t. IsClosedTerm t) m y u v (map v) term

pub formed_empty : IsFormedMap (fin.get {R = var_cmp} fin.empty)
formed_empty v = keeps_empty (λ t. IsFormedTerm t) v

pub closed_empty : IsClosedMap (fin.get {R = var_cmp} fin.empty)
closed_empty v = keeps_empty (λ t. IsClosedTerm t) v

closed_only : (v : Var) (u : Term) → IsClosedTerm u → IsClosedMap (fin.get (only v u))
closed_only v u closed = closed_insert fin.empty v u closed_empty closed

-- putting a term for a variable that is free in no other place of an instance makes the instance by that term
pub rename : (v : Var) (u : Term) (f : Formula) → IsClosedTerm u → is_free_in v f ≡ false → image (fin.get (only v u)) (inst f (free v)) ≡ inst f u
rename v u f closed out =
    image-inst_at (fin.get (only v u)) (closed_only v u closed) (free v) f 0
    ∙ λ i. inst_at (ap (λ o. unwrap_or o (free v)) (own_binding fin.empty v u) i) 0 ((away fin.empty v u f out ∙ image-empty f) i)
