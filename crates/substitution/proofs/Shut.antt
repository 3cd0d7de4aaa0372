-- A formula in which no variable is free is its own image, and is left by binding.
use Rattle.std.proofs.Common.{◌≡◌, ℕ, ◌+◌, ◌≤◌, Bool, false, Option, refl, sym, ap, ◌∙◌, arith}
use Rattle.fol.specs.declared.symbols.Var.{Var}
use Rattle.fol.specs.Syntax.{Term, free, bound, app, Terms, nil, cons, Formula, atom, top, bot, not, and, or, imp, all, ex}
use Rattle.fol.specs.Facts.{is_term_open, are_terms_open, is_open, formula_size}
use Rattle.free_variables.proofs.ShutLaws.{or_left, or_right}
use Rattle.substitution.specs.Image.{image_term, image_terms, image}
use Rattle.substitution.specs.Instance.{bind_term_at, bind_terms_at, bind_at, nesting}
use Rattle.substitution.specs.Closing.{bound_each_term, bound_each_terms, bound_each}

mutual
  pub image-shut_term : (m : Var → Option Term) (t : Term) → is_term_open t ≡ false → image_term m t ≡ t
  image-shut_term m (free v) h = cc
  image-shut_term m (bound i) h = refl
  image-shut_term m (app s ts) h = ap (app s) (image-shut_terms m ts h)

  pub image-shut_terms : (m : Var → Option Term) (ts : Terms) → are_terms_open ts ≡ false → image_terms m ts ≡ ts
  image-shut_terms m nil h = refl
  image-shut_terms m (cons t ts) h =
      λ i. cons (image-shut_term m t (or_left _ _ h) i) (image-shut_terms m ts (or_right (is_term_open t) _ h) i)

pub image-shut : (m : Var → Option Term) (f : Formula) → is_open f ≡ false → image m f ≡ f
image-shut m (atom s ts) h = ap (atom s) (image-shut_terms m ts h)
image-shut m top h = refl
image-shut m bot h = refl
image-shut m (not f) h = ap not (image-shut m f h)
image-shut m (and f g) h = λ i. and (image-shut m f (or_left _ _ h) i) (image-shut m g (or_right (is_open f) _ h) i)
image-shut m (or f g) h = λ i. or (image-shut m f (or_left _ _ h) i) (image-shut m g (or_right (is_open f) _ h) i)
image-shut m (imp f g) h = λ i. imp (image-shut m f (or_left _ _ h) i) (image-shut m g (or_right (is_open f) _ h) i)
image-shut m (all f) h = ap all (image-shut m f h)
image-shut m (ex f) h = ap ex (image-shut m f h)

mutual
  pub bind-shut_term : (v : Var) (k : ℕ) (t : Term) → is_term_open t ≡ false → bind_term_at v k t ≡ t
  bind-shut_term v k (free w) h = cc
  bind-shut_term v k (bound i) h = refl
  bind-shut_term v k (app s ts) h = ap (app s) (bind-shut_terms v k ts h)

  pub bind-shut_terms : (v : Var) (k : ℕ) (ts : Terms) → are_terms_open ts ≡ false → bind_terms_at v k ts ≡ ts
  bind-shut_terms v k nil h = refl
  bind-shut_terms v k (cons t ts) h =
      λ i. cons (bind-shut_term v k t (or_left _ _ h) i) (bind-shut_terms v k ts (or_right (is_term_open t) _ h) i)

pub bind-shut : (v : Var) (k : ℕ) (f : Formula) → is_open f ≡ false → bind_at v k f ≡ f
bind-shut v k (atom s ts) h = ap (atom s) (bind-shut_terms v k ts h)
bind-shut v k top h = refl
bind-shut v k bot h = refl
bind-shut v k (not f) h = ap not (bind-shut v k f h)
bind-shut v k (and f g) h = λ i. and (bind-shut v k f (or_left _ _ h) i) (bind-shut v k g (or_right (is_open f) _ h) i)
bind-shut v k (or f g) h = λ i. or (bind-shut v k f (or_left _ _ h) i) (bind-shut v k g (or_right (is_open f) _ h) i)
bind-shut v k (imp f g) h = λ i. imp (bind-shut v k f (or_left _ _ h) i) (bind-shut v k g (or_right (is_open f) _ h) i)
bind-shut v k (all f) h = ap all (bind-shut v (k + 1) f h)
bind-shut v k (ex f) h = ap ex (bind-shut v (k + 1) f h)

mutual
  pub each-shut_term : (levels : Var → Option ℕ) (k : ℕ) (t : Term) → is_term_open t ≡ false → bound_each_term levels k t ≡ t
  each-shut_term levels k (free w) h = cc
  each-shut_term levels k (bound i) h = refl
  each-shut_term levels k (app s ts) h = ap (app s) (each-shut_terms levels k ts h)

  pub each-shut_terms : (levels : Var → Option ℕ) (k : ℕ) (ts : Terms) → are_terms_open ts ≡ false → bound_each_terms levels k ts ≡ ts
  each-shut_terms levels k nil h = refl
  each-shut_terms levels k (cons t ts) h =
      λ i. cons (each-shut_term levels k t (or_left _ _ h) i) (each-shut_terms levels k ts (or_right (is_term_open t) _ h) i)

pub each-shut : (levels : Var → Option ℕ) (k : ℕ) (f : Formula) → is_open f ≡ false → bound_each levels k f ≡ f
each-shut levels k (atom s ts) h = ap (atom s) (each-shut_terms levels k ts h)
each-shut levels k top h = refl
each-shut levels k bot h = refl
each-shut levels k (not f) h = ap not (each-shut levels k f h)
each-shut levels k (and f g) h = λ i. and (each-shut levels k f (or_left _ _ h) i) (each-shut levels k g (or_right (is_open f) _ h) i)
each-shut levels k (or f g) h = λ i. or (each-shut levels k f (or_left _ _ h) i) (each-shut levels k g (or_right (is_open f) _ h) i)
each-shut levels k (imp f g) h = λ i. imp (each-shut levels k f (or_left _ _ h) i) (each-shut levels k g (or_right (is_open f) _ h) i)
each-shut levels k (all f) h = ap all (each-shut levels (k + 1) f h)
each-shut levels k (ex f) h = ap ex (each-shut levels (k + 1) f h)

-- no more quantifiers stand inside one another than the formula has nodes
pub nesting_within : (f : Formula) → nesting f ≤ formula_size f
nesting_within (atom s ts) = omega arith
nesting_within top = omega arith
nesting_within bot = omega arith
nesting_within (not f) = omega (arith, nesting_within f)
nesting_within (and f g) = omega (arith, nesting_within f, nesting_within g)
nesting_within (or f g) = omega (arith, nesting_within f, nesting_within g)
nesting_within (imp f g) = omega (arith, nesting_within f, nesting_within g)
nesting_within (all f) = omega (arith, nesting_within f)
nesting_within (ex f) = omega (arith, nesting_within f)

-- the same, of what a call answers on whether a variable is free
pub shut_image : (m : Var → Option Term) (f : Formula) (b : Bool) → b ≡ is_open f → b ≡ false → image m f ≡ f
shut_image m f b is shut = image-shut m f (sym is ∙ shut)

pub shut_image_term : (m : Var → Option Term) (t : Term) (b : Bool) → b ≡ is_term_open t → b ≡ false → image_term m t ≡ t
shut_image_term m t b is shut = image-shut_term m t (sym is ∙ shut)

pub shut_image_terms : (m : Var → Option Term) (ts : Terms) (b : Bool) → b ≡ are_terms_open ts → b ≡ false → image_terms m ts ≡ ts
shut_image_terms m ts b is shut = image-shut_terms m ts (sym is ∙ shut)

pub shut_bind : (v : Var) (k : ℕ) (f : Formula) (b : Bool) → b ≡ is_open f → b ≡ false → bind_at v k f ≡ f
shut_bind v k f b is shut = bind-shut v k f (sym is ∙ shut)

pub shut_bind_term : (v : Var) (k : ℕ) (t : Term) (b : Bool) → b ≡ is_term_open t → b ≡ false → bind_term_at v k t ≡ t
shut_bind_term v k t b is shut = bind-shut_term v k t (sym is ∙ shut)

pub shut_bind_terms : (v : Var) (k : ℕ) (ts : Terms) (b : Bool) → b ≡ are_terms_open ts → b ≡ false → bind_terms_at v k ts ≡ ts
shut_bind_terms v k ts b is shut = bind-shut_terms v k ts (sym is ∙ shut)

pub shut_each : (levels : Var → Option ℕ) (k : ℕ) (f : Formula) (b : Bool) → b ≡ is_open f → b ≡ false → bound_each levels k f ≡ f
shut_each levels k f b is shut = each-shut levels k f (sym is ∙ shut)

pub shut_each_term : (levels : Var → Option ℕ) (k : ℕ) (t : Term) (b : Bool) → b ≡ is_term_open t → b ≡ false → bound_each_term levels k t ≡ t
shut_each_term levels k t b is shut = each-shut_term levels k t (sym is ∙ shut)

pub shut_each_terms : (levels : Var → Option ℕ) (k : ℕ) (ts : Terms) (b : Bool) → b ≡ are_terms_open ts → b ≡ false → bound_each_terms levels k ts ≡ ts
shut_each_terms levels k ts b is shut = each-shut_terms levels k ts (sym is ∙ shut)
