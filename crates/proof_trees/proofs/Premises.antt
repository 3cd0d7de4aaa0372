-- What stands in a premise: formulas of the conclusion and auxiliary ones, and so only variables and predicate symbols of the conclusion
-- and of what the rule names.
use Rattle.std.proofs.Common.{◌≡◌, ℕ, zero, suc, Bool, true, false, ◌||◌, List, [], ◌∷◌, Option, Some, None, IfSome, option_to_list, refl, sym, ap, ◌∙◌}
use Rattle.std.specs.List.{All, list_all, list_any}
use Rattle.std.specs.Ordering.{eq_by_cmp}
use Rattle.std.proofs.lemmas.List.Sums.{list_all-from_AllPass}
use Rattle.fol.specs.declared.symbols.Var.{Var}
use Rattle.fol.specs.Syntax.{Pred, pred, undefined, defined, Term, free, Formula, atom, not, and, or, imp, all, ex}
use Rattle.fol.specs.Facts.{has_body}
use Rattle.fol.specs.Order.{var_cmp, pred_cmp, formula_cmp}
use Rattle.fol.specs.OrderLaws.{formula_total}
use Rattle.finite.specs.Finite as set
use Rattle.finite.proofs.Finite.{has-listing, has-adds_each}
use Rattle.free_variables.specs.Occurrence.{is_free_in, is_free_in_term, is_pred_in}
use Rattle.substitution.specs.Instance.{inst}
use Rattle.substitution.proofs.FreeLaws.{free_from-inst_at}
use Rattle.substitution.specs.Unfolding.{unf}
use Rattle.substitution.proofs.ShapeLaws.{preds-inst_at, body-inst_at}
use Rattle.substitution.proofs.Unfoldings.{free-unf}
use Rattle.free_variables.proofs.OccurrenceLaws.{is_pred-pred_list}
use Rattle.lk_rules.specs.declared.sequent.Sequent.{Sequent}
use Rattle.lk_rules.specs.declared.sequent.Side.{Side}
use Rattle.lk_rules.specs.declared.sequent.Side.TheVariants.{Left, Right}
use Rattle.lk_rules.specs.declared.rule.Rule.{Rule}
use Rattle.lk_rules.specs.declared.rule.Rule.TheVariants.{Ax, TopR, BotL, NegL, NegR, AndL, AndR, OrL, OrR, ImpL, ImpR, AllL, AllR, ExL, ExR, DefL, DefR, Cut, Weak}
use Rattle.lk_rules.specs.Formulas.{FormulaSet}
use Rattle.lk_rules.specs.Sequents.{side_of, is_free_in_sequent}
use Rattle.lk_rules.specs.Rules.{IsFormedRule, is_unfolding_rule, has_shape, main, aux, IsWithin, Row}
use Rattle.lk_rules.proofs.Subsequents.{and_left, and_right}
use Rattle.lk_rules.specs.RuleOrder.{formula_of}
use Rattle.proof_trees.specs.Trees.{is_cut, ArePremises}
use Rattle.proof_trees.specs.Occurrence.{passes, is_chosen, is_free_in_rule, is_pred_in_rule, is_pred_in_sequent, has_body_in_sequent}
use Rattle.proof_trees.proofs.Booleans.{or_first, or_second, either, or_more}
use Rattle.proof_trees.proofs.Members.{from_some, some_passes}

-- a test that some formula of a premise's side passes, some formula of the conclusion's side or some auxiliary one passes
passes_within : (p : Formula → Bool) (x s : FormulaSet) (fs : List Formula) → set.IsSubset x (set.adds_each s fs) → list_any p (set.listing x) ≡ true
    → (list_any p (set.listing s) || list_any p fs) ≡ true
passes_within p x s fs h some =
    from_some p (set.listing x)
    (λ f m pass.
    let in_both : (set.has s f || list_any (eq_by_cmp formula_cmp f) fs) ≡ true = sym (has-adds_each formula_total s fs f) ∙ h f (has-listing x f ∙ m) in
    or_more (set.has s f) (list_any (eq_by_cmp formula_cmp f) fs) (list_any p (set.listing s)) (list_any p fs)
    (λ e. some_passes p (set.listing s) f (sym (has-listing s f) ∙ e) pass)
    (λ e. some_passes p fs f e pass)
    in_both)
    some

-- which variables and predicate symbols stand in the auxiliary formulas

one_more : (a b c d : Bool) → ((a || b) ≡ true → c ≡ true) → (a || (b || false)) ≡ true → (c || d) ≡ true
one_more true b c d f e = or_first c d (f refl)
one_more false true c d f e = or_first c d (f refl)
one_more false false c d f e = cc

one : (a c d : Bool) → (a ≡ true → (c || d) ≡ true) → (a || false) ≡ true → (c || d) ≡ true
one true c d f e = f refl
one false c d f e = cc

same : (a d : Bool) → (a || false) ≡ true → (a || d) ≡ true
same a d = one a a d (or_first a d)

first_of_two : (a b d : Bool) → (a || false) ≡ true → ((a || b) || d) ≡ true
first_of_two a b d = one a (a || b) d (λ e. or_first (a || b) d (or_first a b e))

second_of_two : (a b d : Bool) → (b || false) ≡ true → ((a || b) || d) ≡ true
second_of_two a b d = one b (a || b) d (λ e. or_first (a || b) d (or_second a b e))

both_of_two : (a b d : Bool) → (a || (b || false)) ≡ true → ((a || b) || d) ≡ true
both_of_two a b d = one_more a b (a || b) d (λ e. e)

chosen_term : (v : Var) (b : Formula) (t : Term) (d : Bool) → (is_free_in v (inst b t) || false) ≡ true → (is_free_in v b || (is_free_in_term v t || d)) ≡ true
chosen_term v b t d =
    one (is_free_in v (inst b t)) (is_free_in v b) (is_free_in_term v t || d)
    (λ e. or_more _ _ _ _ (λ x. x) (or_first (is_free_in_term v t) d) (free_from-inst_at v t b 0 e))

by_variable : (v : Var) (b : Formula) (y : Var) → (is_free_in v (inst b (free y)) || false) ≡ true → (is_free_in v b || eq_by_cmp var_cmp v y) ≡ true
by_variable v b y = one (is_free_in v (inst b (free y))) (is_free_in v b) (eq_by_cmp var_cmp v y) (free_from-inst_at v (free y) b 0)

alone : (a : Bool) → (a || false) ≡ true → a ≡ true
alone true e = refl
alone false e = e

-- what the unfolding passes, where there is one, is so
unfolding_passes : (p : Formula → Bool) (o : Option Formula) (b : Bool) → IfSome o (λ g. p g ≡ true → b ≡ true) → list_any p (option_to_list o) ≡ true → b ≡ true
unfolding_passes p None b h e = cc
unfolding_passes p (Some g) b h e = h (alone (p g) e)

pub free_in_auxiliary : (v : Var) (r : Rule) (i : ℕ) (side : Side) → IsFormedRule r → list_any (is_free_in v) (aux r i side) ≡ true → is_free_in_rule v r ≡ true
free_in_auxiliary v (NegL (not a)) zero Right h = same (is_free_in v a) _
free_in_auxiliary v (NegR (not a)) zero Left h = same (is_free_in v a) _
free_in_auxiliary v (AndL (and a b)) zero Left h = both_of_two (is_free_in v a) (is_free_in v b) _
free_in_auxiliary v (AndR (and a b)) zero Right h = first_of_two (is_free_in v a) (is_free_in v b) _
free_in_auxiliary v (AndR (and a b)) (suc zero) Right h = second_of_two (is_free_in v a) (is_free_in v b) _
free_in_auxiliary v (OrL (or a b)) zero Left h = first_of_two (is_free_in v a) (is_free_in v b) _
free_in_auxiliary v (OrL (or a b)) (suc zero) Left h = second_of_two (is_free_in v a) (is_free_in v b) _
free_in_auxiliary v (OrR (or a b)) zero Right h = both_of_two (is_free_in v a) (is_free_in v b) _
free_in_auxiliary v (ImpL (imp a b)) zero Right h = first_of_two (is_free_in v a) (is_free_in v b) _
free_in_auxiliary v (ImpL (imp a b)) (suc zero) Left h = second_of_two (is_free_in v a) (is_free_in v b) _
free_in_auxiliary v (ImpR (imp a b)) zero Left h = first_of_two (is_free_in v a) (is_free_in v b) _
free_in_auxiliary v (ImpR (imp a b)) zero Right h = second_of_two (is_free_in v a) (is_free_in v b) _
free_in_auxiliary v (AllL (all b) t) zero Left h = chosen_term v b t false
free_in_auxiliary v (AllR (all b) y) zero Right h = by_variable v b y
free_in_auxiliary v (ExL (ex b) y) zero Left h = by_variable v b y
free_in_auxiliary v (ExR (ex b) t) zero Right h = chosen_term v b t false
free_in_auxiliary v (DefL (atom (pred s (defined b)) ts)) zero Left h = λ e. or_first _ false (unfolding_passes (is_free_in v) (unf (atom (pred s (defined b)) ts)) _ (free-unf v (atom (pred s (defined b)) ts) 0 h) e)
free_in_auxiliary v (DefR (atom (pred s (defined b)) ts)) zero Right h = λ e. or_first _ false (unfolding_passes (is_free_in v) (unf (atom (pred s (defined b)) ts)) _ (free-unf v (atom (pred s (defined b)) ts) 0 h) e)
free_in_auxiliary v (Cut a) zero Right h = same (is_free_in v a) _
free_in_auxiliary v (Cut a) (suc zero) Left h = same (is_free_in v a) _
free_in_auxiliary v Weak zero Left h = λ e. cc
free_in_auxiliary v r i side h = λ e. cc

pred-inst : (q : Pred) (b : Formula) (t : Term) → is_pred_in q (inst b t) ≡ is_pred_in q b
pred-inst q b t = sym (is_pred-pred_list q (inst b t)) ∙ ap (list_any (eq_by_cmp pred_cmp q)) (preds-inst_at t b 0) ∙ is_pred-pred_list q b

body-inst : (b : Formula) (t : Term) → has_body (inst b t) ≡ has_body b
body-inst b t = body-inst_at t b 0

-- a test that a formula passes exactly where a part does
record IsOfParts (p : Formula → Bool) : Type 0 where
  negation : (a : Formula) → p (not a) ≡ p a
  conjunction : (a b : Formula) → p (and a b) ≡ (p a || p b)
  disjunction : (a b : Formula) → p (or a b) ≡ (p a || p b)
  implication : (a b : Formula) → p (imp a b) ≡ (p a || p b)
  universal : (a : Formula) (t : Term) → p (all a) ≡ p (inst a t)
  existential : (a : Formula) (t : Term) → p (ex a) ≡ p (inst a t)

-- a test that an atom passes where its unfolding does, if the rule unfolds it
abbrev KeepsUnfolding : (Formula → Bool) → Rule → Type 0
KeepsUnfolding p (DefL a) = IfSome (unf a) (λ g. p g ≡ true → p a ≡ true)
KeepsUnfolding p (DefR a) = IfSome (unf a) (λ g. p g ≡ true → p a ≡ true)
KeepsUnfolding p r = Unit {0}

part_first : (a b c : Bool) → c ≡ (a || b) → (a || false) ≡ true → c ≡ true
part_first a b c e h = e ∙ or_first a b (alone a h)

part_second : (a b c : Bool) → c ≡ (a || b) → (b || false) ≡ true → c ≡ true
part_second a b c e h = e ∙ or_second a b (alone b h)

part_both : (a b c : Bool) → c ≡ (a || b) → (a || (b || false)) ≡ true → c ≡ true
part_both true b c e h = e
part_both false b c e h = e ∙ alone b h

part_alone : (a c : Bool) → c ≡ a → (a || false) ≡ true → c ≡ true
part_alone a c e h = e ∙ alone a h

-- what an auxiliary formula passes, the rule's formula passes
passes_auxiliary : (p : Formula → Bool) → IsOfParts p → (r : Rule) (i : ℕ) (side : Side) → KeepsUnfolding p r → list_any p (aux r i side) ≡ true → passes p (formula_of r) ≡ true
passes_auxiliary p h (NegL (not a)) zero Right u = part_alone _ _ (h.negation a)
passes_auxiliary p h (NegR (not a)) zero Left u = part_alone _ _ (h.negation a)
passes_auxiliary p h (AndL (and a b)) zero Left u = part_both _ _ _ (h.conjunction a b)
passes_auxiliary p h (AndR (and a b)) zero Right u = part_first _ _ _ (h.conjunction a b)
passes_auxiliary p h (AndR (and a b)) (suc zero) Right u = part_second (p a) _ _ (h.conjunction a b)
passes_auxiliary p h (OrL (or a b)) zero Left u = part_first _ _ _ (h.disjunction a b)
passes_auxiliary p h (OrL (or a b)) (suc zero) Left u = part_second (p a) _ _ (h.disjunction a b)
passes_auxiliary p h (OrR (or a b)) zero Right u = part_both _ _ _ (h.disjunction a b)
passes_auxiliary p h (ImpL (imp a b)) zero Right u = part_first _ _ _ (h.implication a b)
passes_auxiliary p h (ImpL (imp a b)) (suc zero) Left u = part_second (p a) _ _ (h.implication a b)
passes_auxiliary p h (ImpR (imp a b)) zero Left u = part_first _ _ _ (h.implication a b)
passes_auxiliary p h (ImpR (imp a b)) zero Right u = part_second (p a) _ _ (h.implication a b)
passes_auxiliary p h (AllL (all b) t) zero Left u = part_alone _ _ (h.universal b t)
passes_auxiliary p h (AllR (all b) y) zero Right u = part_alone _ _ (h.universal b (free y))
passes_auxiliary p h (ExL (ex b) y) zero Left u = part_alone _ _ (h.existential b (free y))
passes_auxiliary p h (ExR (ex b) t) zero Right u = part_alone _ _ (h.existential b t)
passes_auxiliary p h (DefL (atom (pred s (defined b)) ts)) zero Left u = unfolding_passes p (unf (atom (pred s (defined b)) ts)) _ u
passes_auxiliary p h (DefR (atom (pred s (defined b)) ts)) zero Right u = unfolding_passes p (unf (atom (pred s (defined b)) ts)) _ u
passes_auxiliary p h (Cut a) zero Right u = alone (p a)
passes_auxiliary p h (Cut a) (suc zero) Left u = alone (p a)
passes_auxiliary p h Weak zero Left u = λ e. cc
passes_auxiliary p h r i side u = λ e. cc

pred_of_parts : (q : Pred) → IsOfParts (is_pred_in q)
pred_of_parts q = record {
  negation = λ a. refl;
  conjunction = λ a b. refl;
  disjunction = λ a b. refl;
  implication = λ a b. refl;
  universal = λ a t. sym (pred-inst q a t);
  existential = λ a t. sym (pred-inst q a t);
}

body_of_parts : IsOfParts has_body
body_of_parts = record {
  negation = λ a. refl;
  conjunction = λ a b. refl;
  disjunction = λ a b. refl;
  implication = λ a b. refl;
  universal = λ a t. sym (body-inst a t);
  existential = λ a t. sym (body-inst a t);
}

-- another rule unfolds nothing
keeps_where_none : (p : Formula → Bool) (r : Rule) → is_unfolding_rule r ≡ false → KeepsUnfolding p r
keeps_where_none p (DefL a) n = cc
keeps_where_none p (DefR a) n = cc
keeps_where_none p r n = tt

-- an atom that has an unfolding has a symbol with a body
body_of_unfolding : (a : Formula) → IfSome (unf a) (λ g. has_body g ≡ true → has_body a ≡ true)
body_of_unfolding (atom (pred s undefined) ts) = tt
body_of_unfolding (atom (pred s (defined b)) ts) = λ h. refl
body_of_unfolding a = tt

keeps_bodies : (r : Rule) → KeepsUnfolding has_body r
keeps_bodies (DefL a) = body_of_unfolding a
keeps_bodies (DefR a) = body_of_unfolding a
keeps_bodies r = tt

pub pred_in_auxiliary : (q : Pred) (r : Rule) (i : ℕ) (side : Side) → is_unfolding_rule r ≡ false → list_any (is_pred_in q) (aux r i side) ≡ true → is_pred_in_rule q r ≡ true
pred_in_auxiliary q r i side n = passes_auxiliary (is_pred_in q) (pred_of_parts q) r i side (keeps_where_none (is_pred_in q) r n)

body_in_auxiliary : (r : Rule) (i : ℕ) (side : Side) → list_any has_body (aux r i side) ≡ true → passes has_body (formula_of r) ≡ true
body_in_auxiliary r i side = passes_auxiliary has_body body_of_parts r i side (keeps_bodies r)

-- a test that a formula of the premise passes, a formula of the conclusion passes, or an auxiliary one does and then the rule `named`
premise_passes : (p : Formula → Bool) (named : Bool) (r : Rule) (s : Sequent) (i : ℕ) (x : Sequent) → IsWithin r s i x
    → ((side : Side) → list_any p (aux r i side) ≡ true → named ≡ true)
    → (list_any p (set.listing x.left) || list_any p (set.listing x.right)) ≡ true
    → ((list_any p (set.listing s.left) || list_any p (set.listing s.right)) || named) ≡ true
premise_passes p named r s i x w auxiliary =
    either (list_any p (set.listing x.left)) (list_any p (set.listing x.right))
    (λ e. or_more _ _ _ _ (or_first (list_any p (set.listing s.left)) (list_any p (set.listing s.right))) (auxiliary Left) (passes_within p x.left s.left (aux r i Left) w.left e))
    (λ e. or_more _ _ _ _ (or_second (list_any p (set.listing s.left)) (list_any p (set.listing s.right))) (auxiliary Right) (passes_within p x.right s.right (aux r i Right) w.right e))

pub free_in_premise : (v : Var) (r : Rule) (s : Sequent) (i : ℕ) (x : Sequent) → IsFormedRule r → IsWithin r s i x → is_free_in_sequent v x ≡ true → (is_free_in_sequent v s || is_free_in_rule v r) ≡ true
free_in_premise v r s i x formed w = premise_passes (is_free_in v) (is_free_in_rule v r) r s i x w (λ side. free_in_auxiliary v r i side formed)

pub pred_in_premise : (q : Pred) (r : Rule) (s : Sequent) (i : ℕ) (x : Sequent) → is_unfolding_rule r ≡ false → IsWithin r s i x → is_pred_in_sequent q x ≡ true → (is_pred_in_sequent q s || is_pred_in_rule q r) ≡ true
pred_in_premise q r s i x plain w = premise_passes (is_pred_in q) (is_pred_in_rule q r) r s i x w (λ side. pred_in_auxiliary q r i side plain)

body_in_premise : (r : Rule) (s : Sequent) (i : ℕ) (x : Sequent) → IsWithin r s i x → has_body_in_sequent x ≡ true → (has_body_in_sequent s || passes has_body (formula_of r)) ≡ true
body_in_premise r s i x w = premise_passes has_body (passes has_body (formula_of r)) r s i x w (body_in_auxiliary r i)

-- the formula that a rule names, unless it is a cut, is a main formula

main_passes : (p : Formula → Bool) (r : Rule) → is_cut r ≡ false → passes p (formula_of r) ≡ true → (list_any p (main r Left) || list_any p (main r Right)) ≡ true
main_passes p (Ax a) n h = or_first _ _ (or_first (p a) false h)
main_passes p TopR n h = cc
main_passes p BotL n h = cc
main_passes p (NegL a) n h = or_first _ _ (or_first (p a) false h)
main_passes p (NegR a) n h = or_first (p a) false h
main_passes p (AndL a) n h = or_first _ _ (or_first (p a) false h)
main_passes p (AndR a) n h = or_first (p a) false h
main_passes p (OrL a) n h = or_first _ _ (or_first (p a) false h)
main_passes p (OrR a) n h = or_first (p a) false h
main_passes p (ImpL a) n h = or_first _ _ (or_first (p a) false h)
main_passes p (ImpR a) n h = or_first (p a) false h
main_passes p (AllL a t) n h = or_first _ _ (or_first (p a) false h)
main_passes p (AllR a y) n h = or_first (p a) false h
main_passes p (ExL a y) n h = or_first _ _ (or_first (p a) false h)
main_passes p (ExR a t) n h = or_first (p a) false h
main_passes p (DefL a) n h = or_first _ _ (or_first (p a) false h)
main_passes p (DefR a) n h = or_first (p a) false h
main_passes p (Cut a) n h = cc
main_passes p Weak n h = cc

side_passes : (p : Formula → Bool) (s : FormulaSet) (fs : List Formula) → list_all (set.has s) fs ≡ true → list_any p fs ≡ true → list_any p (set.listing s) ≡ true
side_passes p s [] stands h = cc
side_passes p s (f ∷ fs) stands h =
    either (p f) (list_any p fs)
    (some_passes p (set.listing s) f (sym (has-listing s f) ∙ and_left (set.has s f) (list_all (set.has s) fs) stands))
    (side_passes p s fs (and_right (set.has s f) (list_all (set.has s) fs) stands))
    h

-- without a cut, what stands in the formula of the rule stands in the conclusion
pub main_stands_in : (p : Formula → Bool) (r : Rule) (s : Sequent) → is_cut r ≡ false → ((side : Side) → All (λ f. set.has (side_of s side) f ≡ true) (main r side))
    → passes p (formula_of r) ≡ true → (list_any p (set.listing s.left) || list_any p (set.listing s.right)) ≡ true
main_stands_in p r s n stands h =
    or_more _ _ _ _
    (side_passes p s.left (main r Left) (list_all-from_AllPass (set.has s.left) (main r Left) (stands Left)))
    (side_passes p s.right (main r Right) (list_all-from_AllPass (set.has s.right) (main r Right) (stands Right)))
    (main_passes p r n h)

or_same : (a b : Bool) → (b ≡ true → a ≡ true) → (a || b) ≡ true → a ≡ true
or_same a b f e = either a b (λ x. x) f e

pub free_without_cut : (v : Var) (r : Rule) (s : Sequent) (i : ℕ) (x : Sequent) → IsFormedRule r → is_cut r ≡ false → ((side : Side) → All (λ f. set.has (side_of s side) f ≡ true) (main r side)) → IsWithin r s i x
    → is_free_in_sequent v x ≡ true → (is_free_in_sequent v s || is_chosen v r) ≡ true
free_without_cut v r s i x formed n stands w h =
    either (is_free_in_sequent v s) (is_free_in_rule v r)
    (or_first (is_free_in_sequent v s) (is_chosen v r))
    (or_more (passes (is_free_in v) (formula_of r)) (is_chosen v r) (is_free_in_sequent v s) (is_chosen v r) (main_stands_in (is_free_in v) r s n stands) (λ e. e))
    (free_in_premise v r s i x formed w h)

pub pred_without_cut : (q : Pred) (r : Rule) (s : Sequent) (i : ℕ) (x : Sequent) → is_cut r ≡ false → is_unfolding_rule r ≡ false → ((side : Side) → All (λ f. set.has (side_of s side) f ≡ true) (main r side)) → IsWithin r s i x
    → is_pred_in_sequent q x ≡ true → is_pred_in_sequent q s ≡ true
pred_without_cut q r s i x n plain stands w h =
    or_same (is_pred_in_sequent q s) (is_pred_in_rule q r) (main_stands_in (is_pred_in q) r s n stands) (pred_in_premise q r s i x plain w h)

pub body_without_cut : (r : Rule) (s : Sequent) (i : ℕ) (x : Sequent) → is_cut r ≡ false → ((side : Side) → All (λ f. set.has (side_of s side) f ≡ true) (main r side)) → IsWithin r s i x
    → has_body_in_sequent x ≡ true → has_body_in_sequent s ≡ true
body_without_cut r s i x n stands w h =
    or_same (has_body_in_sequent s) (passes has_body (formula_of r)) (main_stands_in has_body r s n stands) (body_in_premise r s i x w h)

-- the formula of a rule that unfolds it has a symbol with a body
pub body_of_rule : (r : Rule) → has_shape r ≡ true → is_unfolding_rule r ≡ true → passes has_body (formula_of r) ≡ true
body_of_rule (DefL (atom (pred s (defined b)) ts)) shape u = refl
body_of_rule (DefR (atom (pred s (defined b)) ts)) shape u = refl
body_of_rule r shape u = cc

-- what follows of a premise within the rule holds of both premises of a row
on_premise : (P : Sequent → Type 0) (r : Rule) (s : Sequent) (i : ℕ) (premise : Option Sequent) → ((x : Sequent) → IsWithin r s i x → P x) → IfSome premise (IsWithin r s i) → IfSome premise P
on_premise P r s i None f w = tt
on_premise P r s i (Some x) f w = f x w

pub on_premises : (P : Sequent → Type 0) (r : Rule) (s : Sequent) (n : ℕ) (first second : Option Sequent) → Row r s n first second → ((i : ℕ) (x : Sequent) → IsWithin r s i x → P x) → ArePremises first second P
on_premises P r s n first second row f = (on_premise P r s 0 first (f 0) row.first_premise, on_premise P r s 1 second (f 1) row.second_premise)

module _ (r : Rule) (s : Sequent) (n : ℕ) (first second : Option Sequent) (row : Row r s n first second) where
  pub free_in_premises : (v : Var) → IsFormedRule r → ArePremises first second (λ x. is_free_in_sequent v x ≡ true → (is_free_in_sequent v s || is_free_in_rule v r) ≡ true)
  free_in_premises v formed = on_premises _ r s n first second row (λ i x. free_in_premise v r s i x formed)

  pub free_in_premises_without_cut : (v : Var) → IsFormedRule r → is_cut r ≡ false → ArePremises first second (λ x. is_free_in_sequent v x ≡ true → (is_free_in_sequent v s || is_chosen v r) ≡ true)
  free_in_premises_without_cut v formed none = on_premises _ r s n first second row (λ i x. free_without_cut v r s i x formed none row.main_formula)

  pub preds_in_premises : (q : Pred) → is_unfolding_rule r ≡ false → ArePremises first second (λ x. is_pred_in_sequent q x ≡ true → (is_pred_in_sequent q s || is_pred_in_rule q r) ≡ true)
  preds_in_premises q plain = on_premises _ r s n first second row (λ i x. pred_in_premise q r s i x plain)

  pub preds_in_premises_without_cut : (q : Pred) → is_cut r ≡ false → is_unfolding_rule r ≡ false → ArePremises first second (λ x. is_pred_in_sequent q x ≡ true → is_pred_in_sequent q s ≡ true)
  preds_in_premises_without_cut q none plain = on_premises _ r s n first second row (λ i x. pred_without_cut q r s i x none plain row.main_formula)

  pub bodies_in_premises_without_cut : is_cut r ≡ false → ArePremises first second (λ x. has_body_in_sequent x ≡ true → has_body_in_sequent s ≡ true)
  bodies_in_premises_without_cut none = on_premises _ r s n first second row (λ i x. body_without_cut r s i x none row.main_formula)

  pub unfolded_in_conclusion : is_cut r ≡ false → is_unfolding_rule r ≡ true → has_body_in_sequent s ≡ true
  unfolded_in_conclusion none u = main_stands_in has_body r s none row.main_formula (body_of_rule r row.shape u)
