-- The law of unfolding: putting all arguments at once is one instance after the other.
use Rattle.std.proofs.Common.{◌≡◌, ℕ, ◌+◌, ◌-◌, ◌<◌, ◌≤◌, true, ltb, eqb, if◌then◌else◌, refl, sym, ap, ◌∙◌, arith}
use Rattle.std.proofs.lemmas.Bool.Decides.{nat_tests}
use Rattle.fol.specs.Syntax.{Term, free, bound, app, Terms, nil, cons, Formula, atom, top, bot, not, and, or, imp, all, ex}
use Rattle.fol.specs.Formed.{count_terms, leading_all}
use Rattle.substitution.specs.Closed.{is_closed_term_at, are_closed_terms_at, IsClosedTerm}
use Rattle.substitution.specs.Instance.{inst_term_at, inst_terms_at, inst_at, inst}
use Rattle.substitution.specs.Unfolding.{argument, put_term_at, put_terms_at, put_at, matrix_under}
use Rattle.substitution.proofs.Booleans.{and_left, and_right}
use Rattle.def_laws.specs.Instances.{instances}
use Rattle.def_laws.proofs.Lifts.{same_place}
use Rattle.def_laws.proofs.Arguments.{choice_of}
use Rattle.def_laws.proofs.Matrices.{none_leads, leading-inst, inst-matrix}

-- no argument changes nothing

mutual
  put-none_term : (l : ℕ) (t : Term) → put_term_at nil l t ≡ t
  put-none_term l (free v) = refl
  put-none_term l (bound i) = refl
  put-none_term l (app s ts) = ap (app s) (put-none_terms l ts)

  put-none_terms : (l : ℕ) (ts : Terms) → put_terms_at nil l ts ≡ ts
  put-none_terms l nil = refl
  put-none_terms l (cons t ts) = λ i. cons (put-none_term l t i) (put-none_terms l ts i)

put-none : (l : ℕ) (f : Formula) → put_at nil l f ≡ f
put-none l (atom p ts) = ap (atom p) (put-none_terms l ts)
put-none l top = refl
put-none l bot = refl
put-none l (not f) = ap not (put-none l f)
put-none l (and f g) = λ i. and (put-none l f i) (put-none l g i)
put-none l (or f g) = λ i. or (put-none l f i) (put-none l g i)
put-none l (imp f g) = λ i. imp (put-none l f i) (put-none l g i)
put-none l (all f) = ap all (put-none (l + 1) f)
put-none l (ex f) = ap ex (put-none (l + 1) f)

-- a term without an index is left as it is

none_below : (i : ℕ) → ltb i 0 ≡ true → i < 0
none_below i h = grind (arith, nat_tests)

mutual
  put-closed_term : (us : Terms) (l : ℕ) (t : Term) → is_closed_term_at 0 t ≡ true → put_term_at us l t ≡ t
  put-closed_term us l (free v) h = refl
  put-closed_term us l (bound i) h = let below : i < 0 = none_below i h in absurd (omega arith)
  put-closed_term us l (app s ts) h = ap (app s) (put-closed_terms us l ts h)

  put-closed_terms : (us : Terms) (l : ℕ) (ts : Terms) → are_closed_terms_at 0 ts ≡ true → put_terms_at us l ts ≡ ts
  put-closed_terms us l nil h = refl
  put-closed_terms us l (cons t ts) h =
      λ i. cons (put-closed_term us l t (and_left _ _ h) i) (put-closed_terms us l ts (and_right (is_closed_term_at 0 t) _ h) i)

-- the first argument by itself, and then the others

module _ (u : Term) (closed : IsClosedTerm u) (us : Terms) where
  first_chosen : (i l : ℕ) → argument (cons u us) (l + 1) i ≡ put_term_at us l (inst_term_at u l (bound i))
  first_chosen i l =
      let level : (l + 1) - 1 ≡ l = omega arith in
      (λ j. if same_place i l j then u else argument us (level j) i)
      ∙ ap (λ t. if eqb i l then t else argument us l i) (sym (put-closed_term us l u closed))
      ∙ sym (choice_of (put_term_at us l) (eqb i l) u (bound i))

  mutual
    first_put_term : (l : ℕ) (t : Term) → put_term_at (cons u us) (l + 1) t ≡ put_term_at us l (inst_term_at u l t)
    first_put_term l (free v) = refl
    first_put_term l (bound i) = first_chosen i l
    first_put_term l (app s ts) = ap (app s) (first_put_terms l ts)

    first_put_terms : (l : ℕ) (ts : Terms) → put_terms_at (cons u us) (l + 1) ts ≡ put_terms_at us l (inst_terms_at u l ts)
    first_put_terms l nil = refl
    first_put_terms l (cons t ts) = λ i. cons (first_put_term l t i) (first_put_terms l ts i)

  first_put : (l : ℕ) (f : Formula) → put_at (cons u us) (l + 1) f ≡ put_at us l (inst_at u l f)
  first_put l (atom p ts) = ap (atom p) (first_put_terms l ts)
  first_put l top = refl
  first_put l bot = refl
  first_put l (not f) = ap not (first_put l f)
  first_put l (and f g) = λ i. and (first_put l f i) (first_put l g i)
  first_put l (or f g) = λ i. or (first_put l f i) (first_put l g i)
  first_put l (imp f g) = λ i. imp (first_put l f i) (first_put l g i)
  first_put l (all f) = ap all (first_put (l + 1) f)
  first_put l (ex f) = ap ex (first_put (l + 1) f)

-- all arguments, put for the leading quantifiers, are one instance after the other
pub put_instances : (ts : Terms) (f : Formula) → are_closed_terms_at 0 ts ≡ true → count_terms ts ≤ leading_all f → put_at ts (count_terms ts) (matrix_under ts f) ≡ instances ts f
put_instances nil f closed few = put-none 0 f
put_instances (cons t ts) (all f) closed few =
    first_put t (and_left _ _ closed) ts (count_terms ts) (matrix_under ts f)
    ∙ ap (put_at ts (count_terms ts)) (inst-matrix t ts f 0 (count_terms ts) (omega arith) (omega arith))
    ∙ put_instances ts (inst f t) (and_right (is_closed_term_at 0 t) _ closed) (omega (arith, leading-inst t 0 f))
put_instances (cons t ts) f closed few = none_leads _ few
