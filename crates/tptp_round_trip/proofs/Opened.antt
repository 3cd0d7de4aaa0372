-- A formula with the printed variables for the bound ones of the quantifiers around it and its predicate symbols without their bodies, and
-- binding of such a variable.
--     m      how many quantifiers stand around, j of them in the formula itself
use Rattle.std.proofs.Common.{◌≡◌, inl, inr, ℕ, ◌+◌, ◌-◌, ◌^◌, ◌<◌, true, false, ltb, ◌&&◌, ◌||◌, if◌then◌else◌, refl, sym, ap, ◌∙◌, arith}
use Rattle.std.specs.Ordering.{eq_by_cmp}
use Rattle.std.proofs.lemmas.Bool.{and_parts, or_parts, cases_lt, ltb-true, lt-ltb, le-ltb, eq-eqb, ne_eqb}
use Rattle.std.specs.Cmp.{unsigned_tied}
use Rattle.fol.specs.declared.symbols.Var.TheVariants.{Num}
use Rattle.fol.specs.Syntax.{Term, free, bound, app, Terms, nil, cons, Pred, pred, plain, pred_symbol, pred_body, undefined, defined, is_defined, Formula, atom, top, bot, not, and, or, imp, all, ex}
use Rattle.fol.specs.Order.{var_cmp}
use Rattle.fol.specs.Facts.{has_body}
use Rattle.fol.specs.Formed.{count_terms, is_formed_term_at, are_formed_terms_at, is_formed_at}
use Rattle.free_variables.specs.Occurrence.{is_free_in, is_free_in_term, is_free_in_terms}
use Rattle.substitution.specs.Instance.{bind_term_at, bind_terms_at, bind_at}

abbrev mutual
  pub opened_term : (ℕ → ℕ) → ℕ → ℕ → Term → Term
  opened_term names m j (free v) = free v
  opened_term names m j (bound i) = if ltb i j then bound i else free (Num (names (m - (i + 1))))
  opened_term names m j (app s ts) = app s (opened_terms names m j ts)

  pub opened_terms : (ℕ → ℕ) → ℕ → ℕ → Terms → Terms
  opened_terms names m j nil = nil
  opened_terms names m j (cons t ts) = cons (opened_term names m j t) (opened_terms names m j ts)

abbrev pub opened : (ℕ → ℕ) → ℕ → ℕ → Formula → Formula
opened names m j (atom p ts) = atom (plain (pred_symbol p)) (opened_terms names m j ts)
opened names m j top = top
opened names m j bot = bot
opened names m j (not f) = not (opened names m j f)
opened names m j (and f g) = and (opened names m j f) (opened names m j g)
opened names m j (or f g) = or (opened names m j f) (opened names m j g)
opened names m j (imp f g) = imp (opened names m j f) (opened names m j g)
opened names m j (all f) = all (opened names (m + 1) (j + 1) f)
opened names m j (ex f) = ex (opened names (m + 1) (j + 1) f)

pub count-opened : (names : ℕ → ℕ) (m j : ℕ) (ts : Terms) → count_terms (opened_terms names m j ts) ≡ count_terms ts
count-opened names m j nil = refl
count-opened names m j (cons t ts) = ap (λ n. n + 1) (count-opened names m j ts)

-- a predicate symbol without a body
undefined_plain : (p : Pred) → is_defined (pred_body p) ≡ false → plain (pred_symbol p) ≡ p
undefined_plain (pred s undefined) h = refl
undefined_plain (pred s (defined f)) h = cc

-- what has no index of a quantifier outside stays, where no predicate symbol has a body

module _ (names : ℕ → ℕ) where
  stays : (i m j w : ℕ) → (ltb i j && ltb i w) ≡ true → (if ltb i j then bound i else free (Num (names (m - (i + 1))))) ≡ bound i
  stays i m j w h = rw (and_parts (ltb i j) (ltb i w) h).0 refl

  mutual
    pub opened_closed_term : (t : Term) (m j : ℕ) → is_formed_term_at j t ≡ true → opened_term names m j t ≡ t
    opened_closed_term (free v) m j h = refl
    opened_closed_term (bound i) m j h = stays i m j (2 ^ 32) h
    opened_closed_term (app s ts) m j h = ap (app s) (opened_closed_terms ts m j (and_parts _ _ h).1)

    opened_closed_terms : (ts : Terms) (m j : ℕ) → are_formed_terms_at j ts ≡ true → opened_terms names m j ts ≡ ts
    opened_closed_terms nil m j h = refl
    opened_closed_terms (cons t ts) m j h = λ i. cons (opened_closed_term t m j (and_parts _ _ h).0 i) (opened_closed_terms ts m j (and_parts _ _ h).1 i)

  abbrev Stays : Formula → Type 0
  Stays f = (m j : ℕ) → has_body f ≡ false → is_formed_at j f ≡ true → opened names m j f ≡ f

  both_stay : (c : Formula → Formula → Formula) (f g : Formula) → Stays f → Stays g → (m j : ℕ) → (has_body f || has_body g) ≡ false → (is_formed_at j f && is_formed_at j g) ≡ true
      → c (opened names m j f) (opened names m j g) ≡ c f g
  both_stay c f g p q m j n h = λ i. c (p m j (or_parts _ _ n).0 (and_parts _ _ h).0 i) (q m j (or_parts _ _ n).1 (and_parts _ _ h).1 i)

  pub opened_closed : (f : Formula) → Stays f
  opened_closed (atom p ts) m j n h = λ i. atom (undefined_plain p n i) (opened_closed_terms ts m j (and_parts _ _ h).1 i)
  opened_closed top m j n h = refl
  opened_closed bot m j n h = refl
  opened_closed (not f) m j n h = ap not (opened_closed f m j n h)
  opened_closed (and f g) m j n h = both_stay and f g (opened_closed f) (opened_closed g) m j n h
  opened_closed (or f g) m j n h = both_stay or f g (opened_closed f) (opened_closed g) m j n h
  opened_closed (imp f g) m j n h = both_stay imp f g (opened_closed f) (opened_closed g) m j n h
  opened_closed (all f) m j n h = ap all (opened_closed f (m + 1) (j + 1) n h)
  opened_closed (ex f) m j n h = ap ex (opened_closed f (m + 1) (j + 1) n h)

-- binding the variable of the innermost quantifier around

abbrev pub AreRising : (ℕ → ℕ) → Type 0
AreRising names = (c d : ℕ) → c < d → names c < names d

pub same_number : (n : ℕ) → eq_by_cmp var_cmp (Num n) (Num n) ≡ true
same_number n = unsigned_tied n n ∙ eq-eqb n n refl

module _ (names : ℕ → ℕ) (rising : AreRising names) where
  bound_same : (i j d k : ℕ) → d ≡ k → i ≡ j → bind_term_at (Num (names k)) j (free (Num (names d))) ≡ bound i
  bound_same i j d k level index =
      ap (λ (n : ℕ). bind_term_at (Num (names k)) j (free (Num (names n)))) level ∙ (rw (same_number (names k)) (ap bound (sym index)))

  bound_other : (j d k : ℕ) → d < k → bind_term_at (Num (names k)) j (free (Num (names d))) ≡ free (Num (names d))
  bound_other j d k lower =
      let less : names d < names k = rising d k lower in
      let apart : eq_by_cmp var_cmp (Num (names k)) (Num (names d)) ≡ false = unsigned_tied (names k) (names d) ∙ ne_eqb (names k) (names d) (λ same. absurd (omega (arith, less))) in rw apart refl

  bound_index : (i k m j w : ℕ) → k + (j + 1) ≡ m → (ltb i m && ltb i w) ≡ true
      → bind_term_at (Num (names k)) j (if ltb i j then bound i else free (Num (names (m - (i + 1))))) ≡ (if ltb i (j + 1) then bound i else free (Num (names (m - (i + 1)))))
  bound_index i k m j w e h =
      let fits : i < m = ltb-true i m (and_parts (ltb i m) (ltb i w) h).0 in
      elim (cases_lt i j) [
        | inl lower ↦ rw (lt-ltb i j lower, lt-ltb i (j + 1) (omega arith)) refl
        | inr upper ↦ elim (cases_lt i (j + 1)) [
          | inl last ↦ rw (le-ltb i j upper, lt-ltb i (j + 1) last) (bound_same i j (m - (i + 1)) k (omega arith) (omega arith))
          | inr above ↦ rw (le-ltb i j upper, le-ltb i (j + 1) above) (bound_other j (m - (i + 1)) k (omega arith))
        ]
      ]

  mutual
    bind_opened_term : (t : Term) (k m j : ℕ) → k + (j + 1) ≡ m → is_formed_term_at m t ≡ true → is_free_in_term (Num (names k)) t ≡ false
        → bind_term_at (Num (names k)) j (opened_term names m j t) ≡ opened_term names m (j + 1) t
    bind_opened_term (free v) k m j e h apart = rw apart refl
    bind_opened_term (bound i) k m j e h apart = bound_index i k m j (2 ^ 32) e h
    bind_opened_term (app s ts) k m j e h apart = ap (app s) (bind_opened_terms ts k m j e (and_parts _ _ h).1 apart)

    bind_opened_terms : (ts : Terms) (k m j : ℕ) → k + (j + 1) ≡ m → are_formed_terms_at m ts ≡ true → is_free_in_terms (Num (names k)) ts ≡ false
        → bind_terms_at (Num (names k)) j (opened_terms names m j ts) ≡ opened_terms names m (j + 1) ts
    bind_opened_terms nil k m j e h apart = refl
    bind_opened_terms (cons t ts) k m j e h apart =
        λ i. cons (bind_opened_term t k m j e (and_parts _ _ h).0 (or_parts _ _ apart).0 i) (bind_opened_terms ts k m j e (and_parts _ _ h).1 (or_parts _ _ apart).1 i)

  abbrev Bound : Formula → Type 0
  Bound f = (k m j : ℕ) → k + (j + 1) ≡ m → is_formed_at m f ≡ true → is_free_in (Num (names k)) f ≡ false → bind_at (Num (names k)) j (opened names m j f) ≡ opened names m (j + 1) f

  both_bound : (c : Formula → Formula → Formula) (f g : Formula) → Bound f → Bound g → (k m j : ℕ) → k + (j + 1) ≡ m → (is_formed_at m f && is_formed_at m g) ≡ true → (is_free_in (Num (names k)) f || is_free_in (Num (names k)) g) ≡ false
      → c (bind_at (Num (names k)) j (opened names m j f)) (bind_at (Num (names k)) j (opened names m j g)) ≡ c (opened names m (j + 1) f) (opened names m (j + 1) g)
  both_bound c f g p q k m j e h apart = λ i. c (p k m j e (and_parts _ _ h).0 (or_parts _ _ apart).0 i) (q k m j e (and_parts _ _ h).1 (or_parts _ _ apart).1 i)

  pub bind_opened : (f : Formula) → Bound f
  bind_opened (atom p ts) k m j e h apart = ap (atom (plain (pred_symbol p))) (bind_opened_terms ts k m j e (and_parts _ _ h).1 apart)
  bind_opened top k m j e h apart = refl
  bind_opened bot k m j e h apart = refl
  bind_opened (not f) k m j e h apart = ap not (bind_opened f k m j e h apart)
  bind_opened (and f g) k m j e h apart = both_bound and f g (bind_opened f) (bind_opened g) k m j e h apart
  bind_opened (or f g) k m j e h apart = both_bound or f g (bind_opened f) (bind_opened g) k m j e h apart
  bind_opened (imp f g) k m j e h apart = both_bound imp f g (bind_opened f) (bind_opened g) k m j e h apart
  bind_opened (all f) k m j e h apart = ap all (bind_opened f k (m + 1) (j + 1) (omega arith) h apart)
  bind_opened (ex f) k m j e h apart = ap ex (bind_opened f k (m + 1) (j + 1) (omega arith) h apart)
