-- The free variables of an instance, of an image and of a formula with a variable bound.
use Rattle.std.proofs.Common.{◌≡◌, ℕ, ◌+◌, Bool, true, false, eqb, not, ◌||◌, ◌&&◌, ◌⊎◌, inl, inr, if◌then◌else◌, Option, refl, sym, ap, ◌∙◌}
use Rattle.std.specs.Ordering.{eq_by_cmp}
use Rattle.std.proofs.lemmas.Bool.{false≢true}
use Rattle.fol.specs.declared.symbols.Var.{Var}
use Rattle.fol.specs.Syntax as syntax
use Rattle.fol.specs.Syntax.{Term, free, bound, app, Terms, nil, cons, Formula, atom, top, bot, and, or, imp, all, ex}
use Rattle.fol.specs.Order.{var_cmp}
use Rattle.free_variables.specs.Occurrence.{is_free_in, is_free_in_term, is_free_in_terms}
use Rattle.substitution.specs.Instance.{inst_term_at, inst_terms_at, inst_at, bind_term_at, bind_terms_at, bind_at}
use Rattle.substitution.specs.Image.{image_term, image_terms, image}
use Rattle.substitution.proofs.ImageLaws.{same_var, itself}

or_first : (a b : Bool) → a ≡ true → (a || b) ≡ true
or_first a b e = rw e refl

or_second : (a b : Bool) → b ≡ true → (a || b) ≡ true
or_second true b e = refl
or_second false b e = e

one_of : (a b : Bool) → (a || b) ≡ true → (a ≡ true) ⊎ (b ≡ true)
one_of true b e = inl refl
one_of false b e = inr e

-- of an instance: those of the body, and of the term at most

more_true : (a b c d : Bool) → (a ≡ true → c ≡ true) → (b ≡ true → d ≡ true) → (a || b) ≡ true → (c || d) ≡ true
more_true true b c d f g e = or_first c d (f refl)
more_true false b c d f g e = or_second c d (g e)

mutual
  kept_term : (v : Var) (u t : Term) (k : ℕ) → is_free_in_term v t ≡ true → is_free_in_term v (inst_term_at u k t) ≡ true
  kept_term v u (free w) k h = h
  kept_term v u (bound i) k h = cc
  kept_term v u (app s ts) k h = kept_terms v u ts k h

  kept_terms : (v : Var) (u : Term) (ts : Terms) (k : ℕ) → is_free_in_terms v ts ≡ true → is_free_in_terms v (inst_terms_at u k ts) ≡ true
  kept_terms v u nil k h = h
  kept_terms v u (cons t ts) k h = more_true _ _ _ _ (kept_term v u t k) (kept_terms v u ts k) h

-- a variable that is free in a body is free in each instance
pub free-inst_at : (v : Var) (u : Term) (f : Formula) (k : ℕ) → is_free_in v f ≡ true → is_free_in v (inst_at u k f) ≡ true
free-inst_at v u (atom s ts) k h = kept_terms v u ts k h
free-inst_at v u top k h = h
free-inst_at v u bot k h = h
free-inst_at v u (syntax.not f) k h = free-inst_at v u f k h
free-inst_at v u (and f g) k h = more_true _ _ _ _ (free-inst_at v u f k) (free-inst_at v u g k) h
free-inst_at v u (or f g) k h = more_true _ _ _ _ (free-inst_at v u f k) (free-inst_at v u g k) h
free-inst_at v u (imp f g) k h = more_true _ _ _ _ (free-inst_at v u f k) (free-inst_at v u g k) h
free-inst_at v u (all f) k h = free-inst_at v u f (k + 1) h
free-inst_at v u (ex f) k h = free-inst_at v u f (k + 1) h

first_part : (a b c : Bool) → (a || c) ≡ true → ((a || b) || c) ≡ true
first_part true b c e = refl
first_part false b c e = or_second b c e

second_part : (a b c : Bool) → (b || c) ≡ true → ((a || b) || c) ≡ true
second_part true b c e = refl
second_part false b c e = e

joined : (x y a b c : Bool) → (x ≡ true → (a || c) ≡ true) → (y ≡ true → (b || c) ≡ true) → (x || y) ≡ true → ((a || b) || c) ≡ true
joined true y a b c f g e = first_part a b c (f refl)
joined false y a b c f g e = second_part a b c (g e)

chosen : (b : Bool) (v : Var) (u : Term) (i : ℕ) → is_free_in_term v (if b then u else bound i) ≡ true → is_free_in_term v u ≡ true
chosen true v u i e = e
chosen false v u i e = cc

mutual
  origin_inst_term : (v : Var) (u t : Term) (k : ℕ) → is_free_in_term v (inst_term_at u k t) ≡ true → (is_free_in_term v t || is_free_in_term v u) ≡ true
  origin_inst_term v u (free w) k h = or_first _ _ h
  origin_inst_term v u (bound i) k h = chosen (eqb i k) v u i h
  origin_inst_term v u (app s ts) k h = origin_inst_terms v u ts k h

  origin_inst_terms : (v : Var) (u : Term) (ts : Terms) (k : ℕ) → is_free_in_terms v (inst_terms_at u k ts) ≡ true → (is_free_in_terms v ts || is_free_in_term v u) ≡ true
  origin_inst_terms v u nil k h = cc
  origin_inst_terms v u (cons t ts) k h = joined _ _ (is_free_in_term v t) (is_free_in_terms v ts) (is_free_in_term v u) (origin_inst_term v u t k) (origin_inst_terms v u ts k) h

-- a variable that is free in an instance is so in the body or the term
pub free_from-inst_at : (v : Var) (u : Term) (f : Formula) (k : ℕ) → is_free_in v (inst_at u k f) ≡ true → (is_free_in v f || is_free_in_term v u) ≡ true
free_from-inst_at v u (atom s ts) k h = origin_inst_terms v u ts k h
free_from-inst_at v u top k h = cc
free_from-inst_at v u bot k h = cc
free_from-inst_at v u (syntax.not f) k h = free_from-inst_at v u f k h
free_from-inst_at v u (and f g) k h = joined _ _ (is_free_in v f) (is_free_in v g) (is_free_in_term v u) (free_from-inst_at v u f k) (free_from-inst_at v u g k) h
free_from-inst_at v u (or f g) k h = joined _ _ (is_free_in v f) (is_free_in v g) (is_free_in_term v u) (free_from-inst_at v u f k) (free_from-inst_at v u g k) h
free_from-inst_at v u (imp f g) k h = joined _ _ (is_free_in v f) (is_free_in v g) (is_free_in_term v u) (free_from-inst_at v u f k) (free_from-inst_at v u g k) h
free_from-inst_at v u (all f) k h = free_from-inst_at v u f (k + 1) h
free_from-inst_at v u (ex f) k h = free_from-inst_at v u f (k + 1) h

-- of a formula with a variable bound: all but that one

spread : (b d e : Bool) → ((b && e) || (d && e)) ≡ ((b || d) && e)
spread true d true = refl
spread true true false = refl
spread true false false = refl
spread false d e = refl

apart : (a b c d e : Bool) → a ≡ (b && e) → c ≡ (d && e) → (a || c) ≡ ((b || d) && e)
apart a b c d e p q = (λ i. p i || q i) ∙ spread b d e

own : (a b : Bool) → a ≡ b → false ≡ (a && not b)
own true b e = rw (← e) refl
own false b e = refl

other : (a b : Bool) → (a ≡ true → b ≡ true → ⊥) → a ≡ (a && not b)
other true true f = absurd (f refl refl)
other true false f = refl
other false b f = refl

bound_out : (w v x : Var) (k : ℕ) → is_free_in_term w (if eq_by_cmp var_cmp v x then bound k else free x) ≡ (eq_by_cmp var_cmp w x && not (eq_by_cmp var_cmp w v))
bound_out w v x k =
    elim (eq_by_cmp var_cmp v x) as (λ b. eq_by_cmp var_cmp v x ≡ b → is_free_in_term w (if b then bound k else free x) ≡ (eq_by_cmp var_cmp w x && not (eq_by_cmp var_cmp w v))) [
      | true ↦ λ e. own (eq_by_cmp var_cmp w x) (eq_by_cmp var_cmp w v) (ap (eq_by_cmp var_cmp w) (sym (same_var v x e)))
      | false ↦ λ e. other (eq_by_cmp var_cmp w x) (eq_by_cmp var_cmp w v) (λ p q. false≢true (sym e ∙ (ap (λ y. eq_by_cmp var_cmp y x) (sym (same_var w v q)) ∙ p)))
    ] refl

mutual
  free-bind_term : (w v : Var) (t : Term) (k : ℕ) → is_free_in_term w (bind_term_at v k t) ≡ (is_free_in_term w t && not (eq_by_cmp var_cmp w v))
  free-bind_term w v (free x) k = bound_out w v x k
  free-bind_term w v (bound i) k = refl
  free-bind_term w v (app s ts) k = free-bind_terms w v ts k

  free-bind_terms : (w v : Var) (ts : Terms) (k : ℕ) → is_free_in_terms w (bind_terms_at v k ts) ≡ (is_free_in_terms w ts && not (eq_by_cmp var_cmp w v))
  free-bind_terms w v nil k = refl
  free-bind_terms w v (cons t ts) k = apart _ (is_free_in_term w t) _ (is_free_in_terms w ts) _ (free-bind_term w v t k) (free-bind_terms w v ts k)

pub free-bind_at : (w v : Var) (f : Formula) (k : ℕ) → is_free_in w (bind_at v k f) ≡ (is_free_in w f && not (eq_by_cmp var_cmp w v))
free-bind_at w v (atom s ts) k = free-bind_terms w v ts k
free-bind_at w v top k = refl
free-bind_at w v bot k = refl
free-bind_at w v (syntax.not f) k = free-bind_at w v f k
free-bind_at w v (and f g) k = apart _ (is_free_in w f) _ (is_free_in w g) _ (free-bind_at w v f k) (free-bind_at w v g k)
free-bind_at w v (or f g) k = apart _ (is_free_in w f) _ (is_free_in w g) _ (free-bind_at w v f k) (free-bind_at w v g k)
free-bind_at w v (imp f g) k = apart _ (is_free_in w f) _ (is_free_in w g) _ (free-bind_at w v f k) (free-bind_at w v g k)
free-bind_at w v (all f) k = free-bind_at w v f (k + 1)
free-bind_at w v (ex f) k = free-bind_at w v f (k + 1)

-- of an image: those of the images of the free variables

abbrev pub Origin : Var → (Var → Option Term) → (Var → Bool) → Type 0
Origin v m stands = (w : Var) × ((stands w ≡ true) × (is_free_in_term v (image_term m (free w)) ≡ true))

wider : (v : Var) (m : Var → Option Term) (p q : Var → Bool) → ((w : Var) → p w ≡ true → q w ≡ true) → Origin v m p → Origin v m q
wider v m p q more o = (o.0, (more o.0 o.1.0, o.1.1))

either : (v : Var) (m : Var → Option Term) (p q : Var → Bool) (a b : Bool) → (a ≡ true → Origin v m p) → (b ≡ true → Origin v m q) → (a || b) ≡ true → Origin v m (λ w. p w || q w)
either v m p q true b f g e = wider v m p (λ w. p w || q w) (λ w h. or_first (p w) (q w) h) (f refl)
either v m p q false b f g e = wider v m q (λ w. p w || q w) (λ w h. or_second (p w) (q w) h) (g e)

mutual
  origin_term : (v : Var) (m : Var → Option Term) (t : Term) → is_free_in_term v (image_term m t) ≡ true → Origin v m (λ w. is_free_in_term w t)
  origin_term v m (free w) h = (w, (itself w, h))
  origin_term v m (bound i) h = cc
  origin_term v m (app s ts) h = origin_terms v m ts h

  origin_terms : (v : Var) (m : Var → Option Term) (ts : Terms) → is_free_in_terms v (image_terms m ts) ≡ true → Origin v m (λ w. is_free_in_terms w ts)
  origin_terms v m nil h = cc
  origin_terms v m (cons t ts) h = either v m (λ w. is_free_in_term w t) (λ w. is_free_in_terms w ts) _ _ (origin_term v m t) (origin_terms v m ts) h

-- a variable that is free in an image comes from a free variable
pub origin : (v : Var) (m : Var → Option Term) (f : Formula) → is_free_in v (image m f) ≡ true → Origin v m (λ w. is_free_in w f)
origin v m (atom s ts) h = origin_terms v m ts h
origin v m top h = cc
origin v m bot h = cc
origin v m (syntax.not f) h = origin v m f h
origin v m (and f g) h = either v m (λ w. is_free_in w f) (λ w. is_free_in w g) _ _ (origin v m f) (origin v m g) h
origin v m (or f g) h = either v m (λ w. is_free_in w f) (λ w. is_free_in w g) _ _ (origin v m f) (origin v m g) h
origin v m (imp f g) h = either v m (λ w. is_free_in w f) (λ w. is_free_in w g) _ _ (origin v m f) (origin v m g) h
origin v m (all f) h = origin v m f h
origin v m (ex f) h = origin v m f h

mutual
  comes_term : (v w : Var) (m : Var → Option Term) (t : Term) → is_free_in_term w t ≡ true → is_free_in_term v (image_term m (free w)) ≡ true → is_free_in_term v (image_term m t) ≡ true
  comes_term v w m (free x) h g = ap (λ y. is_free_in_term v (image_term m (free y))) (sym (same_var w x h)) ∙ g
  comes_term v w m (bound i) h g = cc
  comes_term v w m (app s ts) h g = comes_terms v w m ts h g

  comes_terms : (v w : Var) (m : Var → Option Term) (ts : Terms) → is_free_in_terms w ts ≡ true → is_free_in_term v (image_term m (free w)) ≡ true → is_free_in_terms v (image_terms m ts) ≡ true
  comes_terms v w m nil h g = h
  comes_terms v w m (cons t ts) h g = more_true _ _ _ _ (λ e. comes_term v w m t e g) (λ e. comes_terms v w m ts e g) h

-- what is free in the image of a free variable is free in the image
pub comes : (v w : Var) (m : Var → Option Term) (f : Formula) → is_free_in w f ≡ true → is_free_in_term v (image_term m (free w)) ≡ true → is_free_in v (image m f) ≡ true
comes v w m (atom s ts) h g = comes_terms v w m ts h g
comes v w m top h g = h
comes v w m bot h g = h
comes v w m (syntax.not f) h g = comes v w m f h g
comes v w m (and a b) h g = more_true _ _ _ _ (λ e. comes v w m a e g) (λ e. comes v w m b e g) h
comes v w m (or a b) h g = more_true _ _ _ _ (λ e. comes v w m a e g) (λ e. comes v w m b e g) h
comes v w m (imp a b) h g = more_true _ _ _ _ (λ e. comes v w m a e g) (λ e. comes v w m b e g) h
comes v w m (all f) h g = comes v w m f h g
comes v w m (ex f) h g = comes v w m f h g
