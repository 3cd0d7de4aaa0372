-- Formulas with weak quantifiers in front, and their instances.
use Rattle.std.proofs.Common.{◌≡◌, ℕ, suc, ◌+◌, true, false, not as negated, ◌&&◌, ◌||◌, refl, sym, ap, ◌∙◌, arith}
use Rattle.fol.specs.Syntax.{Term, Terms, nil, cons, Formula, atom, top, bot, not, and, or, imp, all, ex}
use Rattle.fol.specs.Facts.{has_body}
use Rattle.fol.specs.Formed.{count_terms}
use Rattle.substitution.specs.Instance.{inst_at}
use Rattle.substitution.proofs.ShapeLaws.{body-inst_at}
use Rattle.lk_rules.specs.declared.sequent.Side.{Side}
use Rattle.lk_rules.specs.declared.sequent.Side.TheVariants.{Left, Right}
use Rattle.lk_rules.proofs.Subsequents.{and_left, and_right}
use Rattle.search_laws.specs.Truth.{has_quantifier}
use Rattle.search_laws.proofs.Tests.{not_true}
use Rattle.expansion_laws.specs.Proofs.{is_weak_on}
use Rattle.herbrand_laws.specs.Herbrand.{is_prenex, prefix, instance_of, matrix_instance}

-- an instance has the quantifiers that the formula has
pub quantified-inst_at : (u : Term) (f : Formula) (k : ℕ) → has_quantifier (inst_at u k f) ≡ has_quantifier f
quantified-inst_at u (atom s ts) k = refl
quantified-inst_at u top k = refl
quantified-inst_at u bot k = refl
quantified-inst_at u (not f) k = quantified-inst_at u f k
quantified-inst_at u (and f g) k = λ i. quantified-inst_at u f k i || quantified-inst_at u g k i
quantified-inst_at u (or f g) k = λ i. quantified-inst_at u f k i || quantified-inst_at u g k i
quantified-inst_at u (imp f g) k = λ i. quantified-inst_at u f k i || quantified-inst_at u g k i
quantified-inst_at u (all f) k = refl
quantified-inst_at u (ex f) k = refl

-- an instance has as many weak quantifiers in front as the formula
pub prefix-inst_at : (u : Term) (s : Side) (f : Formula) (k : ℕ) → prefix s (inst_at u k f) ≡ prefix s f
prefix-inst_at u Left (all f) k = ap suc (prefix-inst_at u Left f (k + 1))
prefix-inst_at u Right (ex f) k = ap suc (prefix-inst_at u Right f (k + 1))
prefix-inst_at u s f k = refl

-- an instance is weak quantifiers over such a matrix just where the formula is
pub prenex-inst_at : (u : Term) (s : Side) (f : Formula) (k : ℕ) → is_prenex s (inst_at u k f) ≡ is_prenex s f
prenex-inst_at u Left (all f) k = prenex-inst_at u Left f (k + 1)
prenex-inst_at u Right (ex f) k = prenex-inst_at u Right f (k + 1)
prenex-inst_at u s f k = λ i. negated (quantified-inst_at u f k i) && negated (body-inst_at u f k i)

-- the quantifiers of the instance of a weakly quantified formula
pub next_prefix : (s : Side) (f : Formula) (t : Term) → is_weak_on s f ≡ true → prefix s f ≡ suc (prefix s (instance_of f t))
next_prefix Left (all f) t e = ap suc (sym (prefix-inst_at t Left f 0))
next_prefix Right (ex f) t e = ap suc (sym (prefix-inst_at t Right f 0))
next_prefix s f t e = cc

pub next_prenex : (s : Side) (f : Formula) (t : Term) → is_weak_on s f ≡ true → is_prenex s (instance_of f t) ≡ is_prenex s f
next_prenex Left (all f) t e = prenex-inst_at t Left f 0
next_prenex Right (ex f) t e = prenex-inst_at t Right f 0
next_prenex s f t e = cc

-- a formula that has quantifiers in front has a weak one in front
pub weak_front : (s : Side) (f : Formula) (n : ℕ) → n + 1 ≡ prefix s f → is_weak_on s f ≡ true
weak_front Left (all f) n e = refl
weak_front Right (ex f) n e = refl
weak_front s f n e = absurd (omega arith)

-- one that has none in front has none at all
pub plain_without : (s : Side) (f : Formula) → 0 ≡ prefix s f → is_prenex s f ≡ true → has_quantifier f ≡ false
plain_without Left (all f) e h = absurd (omega arith)
plain_without Right (ex f) e h = absurd (omega arith)
plain_without s f e h = not_true (has_quantifier f) (and_left (negated (has_quantifier f)) (negated (has_body f)) h)

-- which is its own matrix instance
pub own_instance : (us : Terms) (f : Formula) → count_terms us ≡ 0 → matrix_instance us f ≡ f
own_instance nil f e = refl
own_instance (cons t us) f e = absurd (omega arith)

-- no predicate symbol of a formula that is weak quantifiers over such a matrix has a body
pub prenex_no_body : (s : Side) (f : Formula) → is_prenex s f ≡ true → has_body f ≡ false
prenex_no_body Left (all f) h = prenex_no_body Left f h
prenex_no_body Right (ex f) h = prenex_no_body Right f h
prenex_no_body s f h = not_true (has_body f) (and_right (negated (has_quantifier f)) (negated (has_body f)) h)

-- the matrix instance by a tuple of a term for each quantifier has no quantifier
pub matrix_plain : (s : Side) (us : Terms) (f : Formula) → count_terms us ≡ prefix s f → is_prenex s f ≡ true → has_quantifier (matrix_instance us f) ≡ false
matrix_plain s nil f n h = plain_without s f n h
matrix_plain s (cons t us) f n h =
    let front = weak_front s f (count_terms us) n in
    let next = next_prefix s f t front in
    matrix_plain s us (instance_of f t) (omega arith) (next_prenex s f t front ∙ h)
