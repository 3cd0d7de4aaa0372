-- Terms inside more quantifiers: lifting leaves a term without an index, and commutes with images and instances.
use Rattle.std.proofs.Common.{◌≡◌, ℕ, ◌+◌, ◌<◌, true, false, ltb, eqb, Bool, if◌then◌else◌, Option, Some, None, IfSome, unwrap_or, refl, sym, ap, ◌∙◌, arith}
use Rattle.std.proofs.lemmas.Bool.Decides.{nat_tests}
use Rattle.fol.specs.declared.symbols.Var.{Var}
use Rattle.fol.specs.Syntax.{Term, free, bound, app, Terms, nil, cons}
use Rattle.fol.specs.Formed.{count_terms}
use Rattle.substitution.specs.Closed.{is_closed_term_at, are_closed_terms_at, IsClosedTerm, IsClosedMap}
use Rattle.substitution.specs.Image.{image_term, image_terms}
use Rattle.substitution.specs.Instance.{inst_term_at, inst_terms_at}
use Rattle.substitution.proofs.Booleans.{and_left, and_right, and_both}
use Rattle.def_laws.specs.Flat.{lifted_term, lifted_terms}

pub count-lifted : (k : ℕ) (ts : Terms) → count_terms (lifted_terms k ts) ≡ count_terms ts
count-lifted k nil = refl
count-lifted k (cons t ts) = ap (λ n. n + 1) (count-lifted k ts)

-- by no quantifier, and by some quantifiers after others

mutual
  lifted-none_term : (t : Term) → lifted_term 0 t ≡ t
  lifted-none_term (free v) = refl
  lifted-none_term (bound i) = let same : i + 0 ≡ i = omega arith in ap bound same
  lifted-none_term (app s ts) = ap (app s) (lifted-none ts)

  pub lifted-none : (ts : Terms) → lifted_terms 0 ts ≡ ts
  lifted-none nil = refl
  lifted-none (cons t ts) = λ i. cons (lifted-none_term t i) (lifted-none ts i)

mutual
  lifted-lifted_term : (j k : ℕ) (t : Term) → lifted_term j (lifted_term k t) ≡ lifted_term (k + j) t
  lifted-lifted_term j k (free v) = refl
  lifted-lifted_term j k (bound i) = let same : (i + k) + j ≡ i + (k + j) = omega arith in ap bound same
  lifted-lifted_term j k (app s ts) = ap (app s) (lifted-lifted j k ts)

  pub lifted-lifted : (j k : ℕ) (ts : Terms) → lifted_terms j (lifted_terms k ts) ≡ lifted_terms (k + j) ts
  lifted-lifted j k nil = refl
  lifted-lifted j k (cons t ts) = λ i. cons (lifted-lifted_term j k t i) (lifted-lifted j k ts i)

-- a term without an index

no_index : (k i : ℕ) → ltb i 0 ≡ true → bound (i + k) ≡ bound i
no_index k i h = absurd (let below : i < 0 = grind (arith, nat_tests) in omega arith)

mutual
  lifted-closed_term : (k : ℕ) (t : Term) → is_closed_term_at 0 t ≡ true → lifted_term k t ≡ t
  lifted-closed_term k (free v) h = refl
  lifted-closed_term k (bound i) h = no_index k i h
  lifted-closed_term k (app s ts) h = ap (app s) (lifted-closed_terms k ts h)

  pub lifted-closed_terms : (k : ℕ) (ts : Terms) → are_closed_terms_at 0 ts ≡ true → lifted_terms k ts ≡ ts
  lifted-closed_terms k nil h = refl
  lifted-closed_terms k (cons t ts) h =
      λ i. cons (lifted-closed_term k t (and_left _ _ h) i) (lifted-closed_terms k ts (and_right (is_closed_term_at 0 t) _ h) i)

-- images

lifted_image_var : (o : Option Term) (v : Var) → IfSome o IsClosedTerm → unwrap_or o (free v) ≡ lifted_term 1 (unwrap_or o (free v))
lifted_image_var None v h = refl
lifted_image_var (Some t) v h = sym (lifted-closed_term 1 t h)

mutual
  image-lifted_term : (m : Var → Option Term) → IsClosedMap m → (t : Term) → image_term m (lifted_term 1 t) ≡ lifted_term 1 (image_term m t)
  image-lifted_term m closed (free v) = lifted_image_var (m v) v (closed v)
  image-lifted_term m closed (bound i) = refl
  image-lifted_term m closed (app s ts) = ap (app s) (image-lifted_terms m closed ts)

  pub image-lifted_terms : (m : Var → Option Term) → IsClosedMap m → (ts : Terms) → image_terms m (lifted_terms 1 ts) ≡ lifted_terms 1 (image_terms m ts)
  image-lifted_terms m closed nil = refl
  image-lifted_terms m closed (cons t ts) = λ i. cons (image-lifted_term m closed t i) (image-lifted_terms m closed ts i)

-- instances

pub same_place : (i k : ℕ) → eqb (i + 1) (k + 1) ≡ eqb i k
same_place i k = grind (arith, nat_tests)

lifted_choice : (b : Bool) (u : Term) (i : ℕ) → IsClosedTerm u → (if b then u else bound (i + 1)) ≡ lifted_term 1 (if b then u else bound i)
lifted_choice true u i h = sym (lifted-closed_term 1 u h)
lifted_choice false u i h = refl

mutual
  inst-lifted_term : (u : Term) → IsClosedTerm u → (k : ℕ) (t : Term) → inst_term_at u (k + 1) (lifted_term 1 t) ≡ lifted_term 1 (inst_term_at u k t)
  inst-lifted_term u closed k (free v) = refl
  inst-lifted_term u closed k (bound i) =
      ap (λ (b : Bool). if b then u else bound (i + 1)) (same_place i k) ∙ lifted_choice (eqb i k) u i closed
  inst-lifted_term u closed k (app s ts) = ap (app s) (inst-lifted_terms u closed k ts)

  pub inst-lifted_terms : (u : Term) → IsClosedTerm u → (k : ℕ) (ts : Terms) → inst_terms_at u (k + 1) (lifted_terms 1 ts) ≡ lifted_terms 1 (inst_terms_at u k ts)
  inst-lifted_terms u closed k nil = refl
  inst-lifted_terms u closed k (cons t ts) = λ i. cons (inst-lifted_term u closed k t i) (inst-lifted_terms u closed k ts i)

-- indices

one_higher : (i k : ℕ) → ltb i k ≡ true → ltb (i + 1) (k + 1) ≡ true
one_higher i k h = grind (arith, nat_tests)

mutual
  closed-lifted_term : (t : Term) (k : ℕ) → is_closed_term_at k t ≡ true → is_closed_term_at (k + 1) (lifted_term 1 t) ≡ true
  closed-lifted_term (free v) k h = refl
  closed-lifted_term (bound i) k h = one_higher i k h
  closed-lifted_term (app s ts) k h = closed-lifted_terms ts k h

  pub closed-lifted_terms : (ts : Terms) (k : ℕ) → are_closed_terms_at k ts ≡ true → are_closed_terms_at (k + 1) (lifted_terms 1 ts) ≡ true
  closed-lifted_terms nil k h = refl
  closed-lifted_terms (cons t ts) k h =
      and_both _ _ (closed-lifted_term t k (and_left _ _ h)) (closed-lifted_terms ts k (and_right (is_closed_term_at k t) _ h))
