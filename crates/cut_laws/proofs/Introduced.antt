-- The introductions of a formula on one side: the rule for its connective or quantifier, or the rule that unfolds it. Their auxiliary
-- formulas are of lower grade.
use Rattle.std.proofs.Common.{◌≡◌, ℕ, zero, suc, ◌+◌, ◌<◌, ◌≤◌, true, false, ◌||◌, List, [], ◌∷◌, Some, None, IfSome, option_to_list, is_some, refl, sym, ap, subst, ◌∙◌, arith}
use Rattle.std.specs.List.{list_any}
use Rattle.std.specs.Ordering.{eq_by_cmp}
use Rattle.std.proofs.lemmas.Bool.{false_from_ne_true}
use Rattle.fol.specs.declared.symbols.Var.{Var}
use Rattle.fol.specs.Syntax.{Term, free, Terms, Pred, pred, undefined, defined, Formula, atom, top, bot, not, and, or, imp, all, ex}
use Rattle.fol.specs.Order.{formula_cmp}
use Rattle.free_variables.specs.Grade.{grade_of}
use Rattle.substitution.specs.Instance.{inst}
use Rattle.substitution.specs.Unfolding.{unf}
use Rattle.substitution.proofs.ShapeLaws.{grade-inst_at}
use Rattle.substitution.proofs.Unfoldings.{grade-unf}
use Rattle.lk_rules.specs.declared.sequent.Sequent.{Sequent}
use Rattle.lk_rules.specs.declared.sequent.Side.{Side}
use Rattle.lk_rules.specs.declared.sequent.Side.TheVariants.{Left, Right}
use Rattle.lk_rules.specs.declared.rule.Rule.{Rule}
use Rattle.lk_rules.specs.declared.rule.Rule.TheVariants.{TopR, BotL, NegL, NegR, AndL, AndR, OrL, OrR, ImpL, ImpR, AllL, AllR, ExL, ExR, DefL, DefR}
use Rattle.lk_rules.specs.Rules.{has_shape, main, aux}
use Rattle.lk_rules.proofs.Rows.{shape_left, shape_right}
use Rattle.proof_trees.specs.Substitution.{renamed}
use Rattle.cut_laws.specs.Contraction.{moved_rule, opposite}
use Rattle.cut_laws.proofs.Sides.{equal, alone}

-- the rule introduces the formula on that side, and isn't an axiom
pub data IsIntroduction : Side → Rule → Formula → Type 0 where
  right_top : IsIntroduction Right TopR top
  right_not : (b : Formula) → IsIntroduction Right (NegR (not b)) (not b)
  right_and : (b c : Formula) → IsIntroduction Right (AndR (and b c)) (and b c)
  right_or : (b c : Formula) → IsIntroduction Right (OrR (or b c)) (or b c)
  right_imp : (b c : Formula) → IsIntroduction Right (ImpR (imp b c)) (imp b c)
  right_all : (b : Formula) (y : Var) → IsIntroduction Right (AllR (all b) y) (all b)
  right_ex : (b : Formula) (t : Term) → IsIntroduction Right (ExR (ex b) t) (ex b)
  right_def : (p : Pred) (ts : Terms) (b : Formula) → unf (atom p ts) ≡ Some b → IsIntroduction Right (DefR (atom p ts)) (atom p ts)
  left_bot : IsIntroduction Left BotL bot
  left_not : (b : Formula) → IsIntroduction Left (NegL (not b)) (not b)
  left_and : (b c : Formula) → IsIntroduction Left (AndL (and b c)) (and b c)
  left_or : (b c : Formula) → IsIntroduction Left (OrL (or b c)) (or b c)
  left_imp : (b c : Formula) → IsIntroduction Left (ImpL (imp b c)) (imp b c)
  left_all : (b : Formula) (t : Term) → IsIntroduction Left (AllL (all b) t) (all b)
  left_ex : (b : Formula) (y : Var) → IsIntroduction Left (ExL (ex b) y) (ex b)
  left_def : (p : Pred) (ts : Terms) (b : Formula) → unf (atom p ts) ≡ Some b → IsIntroduction Left (DefL (atom p ts)) (atom p ts)

-- what introduces f introduces a, if a is among f alone
at_main : {side : Side} {q : Rule} {a f : Formula} → IsIntroduction side q f → list_any (eq_by_cmp formula_cmp a) (f ∷ []) ≡ true → IsIntroduction side q a
at_main {side} {q} {a} {f} intro m = subst (IsIntroduction side q) (sym (equal a f (alone _ m))) intro

-- a formula that has an unfolding
unfolded : {P : Type 0} (f : Formula) → is_some (unf f) ≡ true → ((b : Formula) → unf f ≡ Some b → P) → P
unfolded {P} f there use_it = elim (unf f) as (λ o. unf f ≡ o → is_some o ≡ true → P) [
  | None ↦ λ e none. cc
  | Some b ↦ λ e some. use_it b e
] refl there

-- a rule that has a as its main formula on that side alone
pub is_introduction : (side : Side) (q : Rule) (a : Formula) → has_shape q ≡ true → list_any (eq_by_cmp formula_cmp a) (main q side) ≡ true
    → list_any (eq_by_cmp formula_cmp a) (main q (opposite side)) ≡ false → IsIntroduction side q a
is_introduction Right TopR a shape m out = at_main right_top m
is_introduction Right (NegR (not b)) a shape m out = at_main (right_not b) m
is_introduction Right (AndR (and b c)) a shape m out = at_main (right_and b c) m
is_introduction Right (OrR (or b c)) a shape m out = at_main (right_or b c) m
is_introduction Right (ImpR (imp b c)) a shape m out = at_main (right_imp b c) m
is_introduction Right (AllR (all b) y) a shape m out = at_main (right_all b y) m
is_introduction Right (ExR (ex b) t) a shape m out = at_main (right_ex b t) m
is_introduction Right (DefR (atom p ts)) a shape m out = unfolded (atom p ts) (sym (shape_right (atom p ts)) ∙ shape) (λ b e. at_main (right_def p ts b e) m)
is_introduction Left BotL a shape m out = at_main left_bot m
is_introduction Left (NegL (not b)) a shape m out = at_main (left_not b) m
is_introduction Left (AndL (and b c)) a shape m out = at_main (left_and b c) m
is_introduction Left (OrL (or b c)) a shape m out = at_main (left_or b c) m
is_introduction Left (ImpL (imp b c)) a shape m out = at_main (left_imp b c) m
is_introduction Left (AllL (all b) t) a shape m out = at_main (left_all b t) m
is_introduction Left (ExL (ex b) y) a shape m out = at_main (left_ex b y) m
is_introduction Left (DefL (atom p ts)) a shape m out = unfolded (atom p ts) (sym (shape_left (atom p ts)) ∙ shape) (λ b e. at_main (left_def p ts b e) m)
is_introduction side q a shape m out = cc

-- its main formula is the one that it introduces
pub introduced : (side : Side) (q : Rule) (a : Formula) → IsIntroduction side q a → main q side ≡ a ∷ []
introduced side q a right_top = refl
introduced side q a intro = refl

-- the rule under a new conclusion
pub introduction-moved : (s : Sequent) (side : Side) (q : Rule) (a : Formula) → IsIntroduction side q a → IsIntroduction side (moved_rule s q) a
introduction-moved s side q a (right_all b y) = right_all b (renamed y s)
introduction-moved s side q a (left_ex b y) = left_ex b (renamed y s)
introduction-moved s side q a intro = intro

-- auxiliary formulas on the same side are of lower grade

pub instance_lower : (b : Formula) (t : Term) → grade_of (inst b t) < grade_of b + 1
instance_lower b t = subst (λ n. n < grade_of b + 1) (sym (grade-inst_at t b 0)) (omega arith)

pub unfolding_lower : (a b : Formula) → unf a ≡ Some b → grade_of b < grade_of a
unfolding_lower a b e = let h : grade_of b + 1 ≤ grade_of a = subst (λ o. IfSome o (λ c. grade_of c + 1 ≤ grade_of a)) e (grade-unf a) in omega arith

abbrev AreLower : Formula → List Formula → Type 0
AreLower a [] = Unit {0}
AreLower a (b ∷ fs) = (grade_of b < grade_of a) × AreLower a fs

lower_unfolding : (a b : Formula) → unf a ≡ Some b → AreLower a (option_to_list (unf a))
lower_unfolding a b e = subst (λ o. AreLower a (option_to_list o)) (sym e) (unfolding_lower a b e, tt)

aux_lower : (side : Side) (q : Rule) (a : Formula) → IsIntroduction side q a → (i : ℕ) → AreLower a (aux q i side)
aux_lower side q a (right_not b) zero = tt
aux_lower side q a (right_and b c) zero = (omega arith, tt)
aux_lower side q a (right_and b c) (suc zero) = (omega arith, tt)
aux_lower side q a (right_or b c) zero = (omega arith, (omega arith, tt))
aux_lower side q a (right_imp b c) zero = (omega arith, tt)
aux_lower side q a (right_all b y) zero = (instance_lower b (free y), tt)
aux_lower side q a (right_ex b t) zero = (instance_lower b t, tt)
aux_lower side q a (right_def (pred s undefined) ts b e) i = tt
aux_lower side q a (right_def (pred s (defined c)) ts b e) zero = lower_unfolding (atom (pred s (defined c)) ts) b e
aux_lower side q a (left_not b) zero = tt
aux_lower side q a (left_and b c) zero = (omega arith, (omega arith, tt))
aux_lower side q a (left_or b c) zero = (omega arith, tt)
aux_lower side q a (left_or b c) (suc zero) = (omega arith, tt)
aux_lower side q a (left_imp b c) (suc zero) = (omega arith, tt)
aux_lower side q a (left_all b t) zero = (instance_lower b t, tt)
aux_lower side q a (left_ex b y) zero = (instance_lower b (free y), tt)
aux_lower side q a (left_def (pred s undefined) ts b e) i = tt
aux_lower side q a (left_def (pred s (defined c)) ts b e) zero = lower_unfolding (atom (pred s (defined c)) ts) b e
aux_lower side q a intro i = tt

-- so the formula isn't among them

another : (a b : Formula) → grade_of b < grade_of a → eq_by_cmp formula_cmp a b ≡ false
another a b h = false_from_ne_true (eq_by_cmp formula_cmp a b) (λ e. let same : grade_of a ≡ grade_of b = ap grade_of (equal a b e) in omega arith)

none_is : (a : Formula) (fs : List Formula) → AreLower a fs → list_any (eq_by_cmp formula_cmp a) fs ≡ false
none_is a [] h = refl
none_is a (f ∷ fs) h = λ i. another a f h.0 i || none_is a fs h.1 i

pub aux_out : (side : Side) (q : Rule) (a : Formula) → IsIntroduction side q a → (i : ℕ) → list_any (eq_by_cmp formula_cmp a) (aux q i side) ≡ false
aux_out side q a intro i = none_is a (aux q i side) (aux_lower side q a intro i)
