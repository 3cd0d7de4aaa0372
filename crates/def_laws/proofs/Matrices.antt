-- Formulas without their leading universal quantifiers.
use Rattle.std.proofs.Common.{◌≡◌, ℕ, ◌+◌, ◌≤◌, true, refl, sym, ap, subst, ◌∙◌, arith}
use Rattle.fol.specs.Syntax.{Term, Terms, nil, cons, Formula, atom, top, bot, not, and, or, imp, all, ex}
use Rattle.fol.specs.Formed.{count_terms, leading_all}
use Rattle.substitution.specs.Closed.{is_closed_at}
use Rattle.substitution.specs.Instance.{inst_at}
use Rattle.substitution.specs.Unfolding.{matrix_under}

-- lists of as many terms leave the same
pub same_matrix : (us ts : Terms) (f : Formula) → count_terms us ≡ count_terms ts → matrix_under us f ≡ matrix_under ts f
same_matrix nil nil f e = refl
same_matrix nil (cons t ts) f e = absurd (omega arith)
same_matrix (cons u us) nil f e = absurd (omega arith)
same_matrix (cons u us) (cons t ts) (all f) e = same_matrix us ts f (omega arith)
same_matrix (cons u us) (cons t ts) f e = refl

-- what does not see universal quantifiers
pub matrix_keeps : {X : Type 0} (p : Formula → X) → ((f : Formula) → p (all f) ≡ p f) → (ts : Terms) (f : Formula) → p (matrix_under ts f) ≡ p f
matrix_keeps p same nil f = refl
matrix_keeps p same (cons t ts) (all f) = matrix_keeps p same ts f ∙ sym (same f)
matrix_keeps p same (cons t ts) f = refl

-- fewer quantifiers than none
pub none_leads : (n : ℕ) → n + 1 ≤ 0 → {P : Type 0} → P
none_leads n h = absurd (omega arith)

-- its indices are those of the formula and those of the quantifiers that are left out
pub closed-matrix : (ts : Terms) (f : Formula) (k l : ℕ) → l ≡ k + count_terms ts → count_terms ts ≤ leading_all f → is_closed_at k f ≡ true → is_closed_at l (matrix_under ts f) ≡ true
closed-matrix nil f k l level few h = let same : k ≡ l = omega arith in subst (λ (n : ℕ). is_closed_at n f ≡ true) same h
closed-matrix (cons t ts) (all f) k l level few h = closed-matrix ts f (k + 1) l (omega arith) (omega arith) h
closed-matrix (cons t ts) f k l level few h = none_leads _ few

pub leading-inst : (u : Term) (k : ℕ) (f : Formula) → leading_all (inst_at u k f) ≡ leading_all f
leading-inst u k (atom p ts) = refl
leading-inst u k top = refl
leading-inst u k bot = refl
leading-inst u k (not f) = refl
leading-inst u k (and f g) = refl
leading-inst u k (or f g) = refl
leading-inst u k (imp f g) = refl
leading-inst u k (all f) = ap (λ n. n + 1) (leading-inst u (k + 1) f)
leading-inst u k (ex f) = refl

pub inst-matrix : (u : Term) (ts : Terms) (f : Formula) (k l : ℕ) → l ≡ k + count_terms ts → count_terms ts ≤ leading_all f → inst_at u l (matrix_under ts f) ≡ matrix_under ts (inst_at u k f)
inst-matrix u nil f k l level few = let same : l ≡ k = omega arith in ap (λ n. inst_at u n f) same
inst-matrix u (cons t ts) (all f) k l level few = inst-matrix u ts f (k + 1) l (omega arith) (omega arith)
inst-matrix u (cons t ts) f k l level few = none_leads _ few
