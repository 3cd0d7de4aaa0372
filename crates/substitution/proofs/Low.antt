-- A formula whose indices are all below that of an instance is its own instance.
use Rattle.std.proofs.Common.{◌≡◌, ℕ, ◌+◌, ◌-◌, ◌≤◌, ◌==◌, max, if◌then◌else◌, refl, ap, arith}
use Rattle.std.proofs.lemmas.Bool.Decides.{nat_tests}
use Rattle.fol.specs.Syntax.{Term, free, bound, app, Terms, nil, cons, Formula, atom, top, bot, not, and, or, imp, all, ex}
use Rattle.fol.specs.Facts.{term_dangling, terms_dangling, formula_dangling}
use Rattle.substitution.specs.Instance.{inst_term_at, inst_terms_at, inst_at}

max_left : (a b k : ℕ) → max a b ≤ k → a ≤ k
max_left a b k h = omega arith

max_right : (a b k : ℕ) → max a b ≤ k → b ≤ k
max_right a b k h = omega arith

further_in : (d k : ℕ) → d - 1 ≤ k → d ≤ k + 1
further_in d k h = omega arith

index_below : (u : Term) (i k : ℕ) → i + 1 ≤ k → (if i == k then u else bound i) ≡ bound i
index_below u i k h = grind (arith, nat_tests)

mutual
  pub inst-low_term : (u : Term) (k : ℕ) (t : Term) → term_dangling t ≤ k → inst_term_at u k t ≡ t
  inst-low_term u k (free v) h = refl
  inst-low_term u k (bound i) h = index_below u i k h
  inst-low_term u k (app s ts) h = ap (app s) (inst-low_terms u k ts h)

  pub inst-low_terms : (u : Term) (k : ℕ) (ts : Terms) → terms_dangling ts ≤ k → inst_terms_at u k ts ≡ ts
  inst-low_terms u k nil h = refl
  inst-low_terms u k (cons t ts) h =
      λ i. cons (inst-low_term u k t (max_left _ (terms_dangling ts) k h) i) (inst-low_terms u k ts (max_right (term_dangling t) _ k h) i)

pub inst-low : (u : Term) (k : ℕ) (f : Formula) → formula_dangling f ≤ k → inst_at u k f ≡ f
inst-low u k (atom s ts) h = ap (atom s) (inst-low_terms u k ts h)
inst-low u k top h = refl
inst-low u k bot h = refl
inst-low u k (not f) h = ap not (inst-low u k f h)
inst-low u k (and f g) h =
    λ i. and (inst-low u k f (max_left _ (formula_dangling g) k h) i) (inst-low u k g (max_right (formula_dangling f) _ k h) i)
inst-low u k (or f g) h =
    λ i. or (inst-low u k f (max_left _ (formula_dangling g) k h) i) (inst-low u k g (max_right (formula_dangling f) _ k h) i)
inst-low u k (imp f g) h =
    λ i. imp (inst-low u k f (max_left _ (formula_dangling g) k h) i) (inst-low u k g (max_right (formula_dangling f) _ k h) i)
inst-low u k (all f) h = ap all (inst-low u (k + 1) f (further_in _ k h))
inst-low u k (ex f) h = ap ex (inst-low u (k + 1) f (further_in _ k h))

-- the same, of what a call answers on how many quantifiers are needed
pub low_inst : (u : Term) (k : ℕ) (f : Formula) (d : ℕ) → d ≡ formula_dangling f → d ≤ k → inst_at u k f ≡ f
low_inst u k f d is low = inst-low u k f (omega arith)

pub low_inst_term : (u : Term) (k : ℕ) (t : Term) (d : ℕ) → d ≡ term_dangling t → d ≤ k → inst_term_at u k t ≡ t
low_inst_term u k t d is low = inst-low_term u k t (omega arith)

pub low_inst_terms : (u : Term) (k : ℕ) (ts : Terms) (d : ℕ) → d ≡ terms_dangling ts → d ≤ k → inst_terms_at u k ts ≡ ts
low_inst_terms u k ts d is low = inst-low_terms u k ts (omega arith)
