-- Arguments put for indices in terms: instances and images of what that gives, its indices and its variables.
use Rattle.std.proofs.Common.{◌≡◌, ℕ, ◌+◌, ◌-◌, ◌≤◌, true, false, ltb, eqb, ◌==◌, ◌||◌, Bool, if◌then◌else◌, Option, refl, ap, ◌∙◌, arith}
use Rattle.std.proofs.lemmas.Bool.Decides.{nat_tests}
use Rattle.fol.specs.declared.symbols.Var.{Var}
use Rattle.fol.specs.Syntax.{Term, free, bound, app, Terms, nil, cons}
use Rattle.fol.specs.Facts.{is_term_open, are_terms_open}
use Rattle.fol.specs.Formed.{count_terms}
use Rattle.free_variables.proofs.ShutLaws.{or_left, or_right}
use Rattle.free_variables.specs.Occurrence.{is_free_in_term, is_free_in_terms}
use Rattle.substitution.specs.Closed.{is_closed_term_at, are_closed_terms_at}
use Rattle.substitution.specs.Image.{image_term, image_terms}
use Rattle.substitution.specs.Instance.{inst_term_at, inst_terms_at}
use Rattle.substitution.specs.Unfolding.{argument, put_term_at, put_terms_at}
use Rattle.substitution.proofs.Booleans.{and_left, and_right, and_both}
use Rattle.substitution.proofs.ClosedLaws.{inst_below}
use Rattle.proof_trees.proofs.Booleans.{or_first, or_second, either}

-- what holds of both choices
pub choice : (P : Term → Type 0) (b : Bool) (t u : Term) → (b ≡ true → P t) → (b ≡ false → P u) → P (if b then t else u)
choice P true t u first second = first refl
choice P false t u first second = second refl

pub choice_of : (h : Term → Term) (b : Bool) (t u : Term) → h (if b then t else u) ≡ (if b then h t else h u)
choice_of h true t u = refl
choice_of h false t u = refl

-- a test of the first argument's index that fails
pub one_less : (i l : ℕ) → (i + 1 == l) ≡ false → ltb i l ≡ true → ltb i (l - 1) ≡ true
one_less i l other h = grind (arith, nat_tests)

-- instances

inst-argument : (u : Term) (us : Terms) (k l i : ℕ) → l ≤ k + count_terms us → ltb i l ≡ true → inst_term_at u k (argument us l i) ≡ argument (inst_terms_at u k us) l i
inst-argument u nil k l i few h = inst_below u i l k (omega arith) h
inst-argument u (cons t ts) k l i few h =
    choice_of (inst_term_at u k) (i + 1 == l) t (argument ts (l - 1) i)
    ∙ elim (eqb (i + 1) l) as (λ b. eqb (i + 1) l ≡ b → (if b then inst_term_at u k t else inst_term_at u k (argument ts (l - 1) i)) ≡ (if b then inst_term_at u k t else argument (inst_terms_at u k ts) (l - 1) i)) [
      | true ↦ λ e. refl
      | false ↦ λ e. inst-argument u ts k (l - 1) i (omega arith) (one_less i l e h)
    ] refl

mutual
  inst-put_term : (u : Term) (us : Terms) (t : Term) (k l : ℕ) → l ≤ k + count_terms us → is_closed_term_at l t ≡ true → inst_term_at u k (put_term_at us l t) ≡ put_term_at (inst_terms_at u k us) l t
  inst-put_term u us (free v) k l few h = refl
  inst-put_term u us (bound i) k l few h = inst-argument u us k l i few h
  inst-put_term u us (app s ts) k l few h = ap (app s) (inst-put_terms u us ts k l few h)

  pub inst-put_terms : (u : Term) (us ts : Terms) (k l : ℕ) → l ≤ k + count_terms us → are_closed_terms_at l ts ≡ true → inst_terms_at u k (put_terms_at us l ts) ≡ put_terms_at (inst_terms_at u k us) l ts
  inst-put_terms u us nil k l few h = refl
  inst-put_terms u us (cons t ts) k l few h =
      λ i. cons (inst-put_term u us t k l few (and_left _ _ h) i) (inst-put_terms u us ts k l few (and_right (is_closed_term_at l t) _ h) i)

-- images

image-argument : (m : Var → Option Term) (us : Terms) (l i : ℕ) → image_term m (argument us l i) ≡ argument (image_terms m us) l i
image-argument m nil l i = refl
image-argument m (cons u us) l i =
    choice_of (image_term m) (i + 1 == l) u (argument us (l - 1) i)
    ∙ ap (λ t. if i + 1 == l then image_term m u else t) (image-argument m us (l - 1) i)

mutual
  image-put_term : (m : Var → Option Term) (us : Terms) (l : ℕ) (t : Term) → is_term_open t ≡ false → image_term m (put_term_at us l t) ≡ put_term_at (image_terms m us) l t
  image-put_term m us l (free v) h = cc
  image-put_term m us l (bound i) h = image-argument m us l i
  image-put_term m us l (app s ts) h = ap (app s) (image-put_terms m us l ts h)

  pub image-put_terms : (m : Var → Option Term) (us : Terms) (l : ℕ) (ts : Terms) → are_terms_open ts ≡ false → image_terms m (put_terms_at us l ts) ≡ put_terms_at (image_terms m us) l ts
  image-put_terms m us l nil h = refl
  image-put_terms m us l (cons t ts) h =
      λ i. cons (image-put_term m us l t (or_left _ _ h) i) (image-put_terms m us l ts (or_right (is_term_open t) _ h) i)

-- indices

below_kept : (i k l : ℕ) → l ≤ k → ltb i l ≡ true → ltb i k ≡ true
below_kept i k l few h = grind (arith, nat_tests)

closed-argument : (us : Terms) (k l i : ℕ) → l ≤ k + count_terms us → are_closed_terms_at k us ≡ true → ltb i l ≡ true → is_closed_term_at k (argument us l i) ≡ true
closed-argument nil k l i few closed h = below_kept i k l (omega arith) h
closed-argument (cons u us) k l i few closed h =
    choice (λ t. is_closed_term_at k t ≡ true) (i + 1 == l) u (argument us (l - 1) i)
    (λ e. and_left _ _ closed)
    (λ e. closed-argument us k (l - 1) i (omega arith) (and_right (is_closed_term_at k u) _ closed) (one_less i l e h))

mutual
  closed-put_term : (us : Terms) (t : Term) (k l : ℕ) → l ≤ k + count_terms us → are_closed_terms_at k us ≡ true → is_closed_term_at l t ≡ true → is_closed_term_at k (put_term_at us l t) ≡ true
  closed-put_term us (free v) k l few closed h = refl
  closed-put_term us (bound i) k l few closed h = closed-argument us k l i few closed h
  closed-put_term us (app s ts) k l few closed h = closed-put_terms us ts k l few closed h

  pub closed-put_terms : (us ts : Terms) (k l : ℕ) → l ≤ k + count_terms us → are_closed_terms_at k us ≡ true → are_closed_terms_at l ts ≡ true → are_closed_terms_at k (put_terms_at us l ts) ≡ true
  closed-put_terms us nil k l few closed h = refl
  closed-put_terms us (cons t ts) k l few closed h =
      and_both _ _ (closed-put_term us t k l few closed (and_left _ _ h)) (closed-put_terms us ts k l few closed (and_right (is_closed_term_at l t) _ h))

-- variables

free-argument : (v : Var) (us : Terms) (l i : ℕ) → is_free_in_term v (argument us l i) ≡ true → is_free_in_terms v us ≡ true
free-argument v nil l i = λ h. h
free-argument v (cons u us) l i =
    choice (λ t. is_free_in_term v t ≡ true → is_free_in_terms v (cons u us) ≡ true) (i + 1 == l) u (argument us (l - 1) i)
    (λ e. or_first (is_free_in_term v u) _)
    (λ e h. or_second (is_free_in_term v u) _ (free-argument v us (l - 1) i h))

mutual
  free-put_term : (v : Var) (us : Terms) (l : ℕ) (t : Term) → is_term_open t ≡ false → is_free_in_term v (put_term_at us l t) ≡ true → is_free_in_terms v us ≡ true
  free-put_term v us l (free w) h = λ e. cc
  free-put_term v us l (bound i) h = free-argument v us l i
  free-put_term v us l (app s ts) h = free-put_terms v us l ts h

  pub free-put_terms : (v : Var) (us : Terms) (l : ℕ) (ts : Terms) → are_terms_open ts ≡ false → is_free_in_terms v (put_terms_at us l ts) ≡ true → is_free_in_terms v us ≡ true
  free-put_terms v us l nil h = λ e. cc
  free-put_terms v us l (cons t ts) h =
      either _ _ (free-put_term v us l t (or_left _ _ h)) (free-put_terms v us l ts (or_right (is_term_open t) _ h))

shut-argument : (us : Terms) (l i : ℕ) → are_terms_open us ≡ false → is_term_open (argument us l i) ≡ false
shut-argument nil l i h = refl
shut-argument (cons u us) l i h =
    choice (λ t. is_term_open t ≡ false) (i + 1 == l) u (argument us (l - 1) i)
    (λ e. or_left _ _ h)
    (λ e. shut-argument us (l - 1) i (or_right (is_term_open u) _ h))

pub neither : (a b : Bool) → a ≡ false → b ≡ false → (a || b) ≡ false
neither a b p q = rw p q

mutual
  shut-put_term : (us : Terms) (l : ℕ) (t : Term) → are_terms_open us ≡ false → is_term_open t ≡ false → is_term_open (put_term_at us l t) ≡ false
  shut-put_term us l (free v) h e = e
  shut-put_term us l (bound i) h e = shut-argument us l i h
  shut-put_term us l (app s ts) h e = shut-put_terms us l ts h e

  pub shut-put_terms : (us : Terms) (l : ℕ) (ts : Terms) → are_terms_open us ≡ false → are_terms_open ts ≡ false → are_terms_open (put_terms_at us l ts) ≡ false
  shut-put_terms us l nil h e = refl
  shut-put_terms us l (cons t ts) h e =
      neither _ _ (shut-put_term us l t h (or_left _ _ e)) (shut-put_terms us l ts h (or_right (is_term_open t) _ e))
