-- What holds of an interpolation, but for the variables of its formula; and that quantifiers keep it.
use Rattle.std.proofs.Common.{◌≡◌, ℕ, ◌+◌, ◌^◌, ◌<◌, Bool, true, false, not, ◌&&◌, ◌||◌, List, [], ◌∷◌, refl, sym, ap, ◌∙◌}
use Rattle.std.specs.List.{AllByRecursion, list_any}
use Rattle.std.specs.Ordering.{eq_by_cmp}
use Rattle.fol.specs.declared.symbols.Var.{Var}
use Rattle.fol.specs.Syntax.{Pred, free, Formula, all, ex}
use Rattle.fol.specs.Order.{var_cmp}
use Rattle.fol.specs.Formed.{is_formed, is_formed_at, IsFormedVar}
use Rattle.finite.specs.Finite as set
use Rattle.free_variables.specs.Occurrence.{is_free_in, is_pred_in}
use Rattle.substitution.specs.Closed.{is_closed_at}
use Rattle.substitution.specs.Instance.{inst, bind, nesting}
use Rattle.substitution.specs.Closing.{closed_over}
use Rattle.substitution.proofs.ImageLaws.{itself}
use Rattle.lk_rules.specs.declared.sequent.Sequent.{Sequent}
use Rattle.lk_rules.specs.declared.sequent.Side.{Side}
use Rattle.lk_rules.specs.declared.sequent.Side.TheVariants.{Left, Right}
use Rattle.lk_rules.specs.declared.rule.Rule.TheVariants.{AllL, AllR, ExL, ExR}
use Rattle.lk_rules.specs.Sequents.{adds_to, is_free_in_sequent}
use Rattle.lk_rules.proofs.Subsequents.{and_both}
use Rattle.proof_trees.specs.Occurrence.{is_pred_in_sequent}
use Rattle.cut_laws.proofs.Sides.{clash}
use Rattle.interp_laws.specs.Interpolation.{Interpolation, part, with_all, with_ex, quantifier_of, quantified, closed_by}
use Rattle.interp_laws.proofs.Bound.{closed-bind_at, nested_less, formed_bound, given_back, formed_before, free_kept, other_kept, pred-bind}
use Rattle.interp_laws.proofs.Members.{some_added, new_in, unless}
use Rattle.interp_laws.proofs.Proofs.{IsProof, over_part}

-- the proofs are proofs of the parts with the interpolant; where `Plain` holds, its predicate symbols are those of both parts; it has no
-- index of a quantifier outside; and it is well formed unless too many quantifiers stand inside one another
pub record Holds (Plain : Type 0) (one two : Sequent) (i : Interpolation) : Type 0 where
  pub first : IsProof one Right i.formula i.first
  pub second : IsProof two Left i.formula i.second
  pub preds : Plain → (q : Pred) (side : Side) → is_pred_in q i.formula ≡ true → is_pred_in_sequent q (part one two side) ≡ true
  pub closed : is_closed_at 0 i.formula ≡ true
  pub formed : (w : ℕ) → w ≡ 2 ^ 32 → nesting i.formula < w → is_formed i.formula ≡ true

-- main formulas on one side

pub stands_left : (s : Sequent) (f : Formula) → ((set.has (adds_to s Left f).left f && true) && true) ≡ true
stands_left s f = and_both _ _ (and_both _ _ (new_in Left s f) refl) refl

pub stands_right : (s : Sequent) (f : Formula) → (set.has (adds_to s Right f).right f && true) ≡ true
stands_right s f = and_both _ _ (new_in Right s f) refl

-- a variable that isn't free in a sequent isn't in it with a formula in which that variable is bound
bound_out : (x : Var) (side : Side) (s : Sequent) (f g : Formula) → is_free_in_sequent x s ≡ false → (is_free_in x g ≡ true → is_free_in x (bind f x) ≡ true) → is_free_in_sequent x (adds_to s side g) ≡ false
bound_out x side s f g out body =
    unless (is_free_in_sequent x (adds_to s side g)) false
    (some_added (is_free_in x) side s g
    (λ h. clash (is_free_in_sequent x s) h out)
    (λ h. let self : not (eq_by_cmp var_cmp x x) ≡ true = other_kept x x f (body h) in clash (not (eq_by_cmp var_cmp x x)) self (ap not (itself x))))
    refl

module _ (Plain : Type 0) (one two : Sequent) (x : Var) (i : Interpolation) (var : IsFormedVar x) (h : Holds Plain one two i) where
  -- the body of the quantified formula is well formed where that is
  before : is_formed_at 1 (bind i.formula x) ≡ true → is_formed i.formula ≡ true
  before formed = formed_before i.formula x h.closed var formed

  after : (w : ℕ) → w ≡ 2 ^ 32 → nesting (bind i.formula x) + 1 < w → is_formed_at 1 (bind i.formula x) ≡ true
  after w is few = formed_bound i.formula x w is (nested_less i.formula x w few) (h.formed w is (nested_less i.formula x w few))

  given : inst (bind i.formula x) (free x) ∷ [] ≡ i.formula ∷ []
  given = ap (λ f. f ∷ []) (given_back i.formula x h.closed)

  -- quantified universally
  all_holds : is_free_in_sequent x one ≡ false → Holds Plain one two (with_all (all (bind i.formula x)) x one two i)
  all_holds out =
      let f : Formula = all (bind i.formula x) in
      record {
        first = over_part (AllR f x) one Right f i.formula i.first
            (record { shape = refl; stands = stands_right one f; eigenvariable = bound_out x Right one i.formula f out (λ e. e); no_cut = refl })
            refl given (λ formed. and_both _ _ formed var) before h.first;
        second = over_part (AllL f (free x)) two Left f i.formula i.second
            (record { shape = refl; stands = stands_left two f; eigenvariable = refl; no_cut = refl })
            refl given (λ formed. and_both _ _ formed var) before h.second;
        preds = λ p q side e. h.preds p q side (sym (pred-bind q i.formula x) ∙ e);
        closed = closed-bind_at x i.formula 0 h.closed;
        formed = after;
      }

  -- and existentially
  ex_holds : is_free_in_sequent x two ≡ false → Holds Plain one two (with_ex (ex (bind i.formula x)) x one two i)
  ex_holds out =
      let f : Formula = ex (bind i.formula x) in
      record {
        first = over_part (ExR f (free x)) one Right f i.formula i.first
            (record { shape = refl; stands = stands_right one f; eigenvariable = refl; no_cut = refl })
            refl given (λ formed. and_both _ _ formed var) before h.first;
        second = over_part (ExL f x) two Left f i.formula i.second
            (record { shape = refl; stands = stands_left two f; eigenvariable = bound_out x Left two i.formula f out (λ e. e); no_cut = refl })
            refl given (λ formed. and_both _ _ formed var) before h.second;
        preds = λ p q side e. h.preds p q side (sym (pred-bind q i.formula x) ∙ e);
        closed = closed-bind_at x i.formula 0 h.closed;
        formed = after;
      }

quantified_holds : (Plain : Type 0) (m : Side) (one two : Sequent) (x : Var) (i : Interpolation) → IsFormedVar x → is_free_in_sequent x (part one two m) ≡ false → Holds Plain one two i → Holds Plain one two (quantified m one two x i)
quantified_holds Plain Right one two x i var out h = all_holds Plain one two x i var h out
quantified_holds Plain Left one two x i var out h = ex_holds Plain one two x i var h out

-- a variable that may be quantified for a part: it isn't free there
pub record IsOutside (s : Sequent) (x : Var) : Type 0 where
  pub formed : IsFormedVar x
  pub out : is_free_in_sequent x s ≡ false

-- several quantifiers
pub closed_holds : (Plain : Type 0) (m : Side) (one two : Sequent) (xs : List Var) (i : Interpolation) → AllByRecursion (IsOutside (part one two m)) xs → Holds Plain one two i → Holds Plain one two (closed_by m one two xs i)
closed_holds Plain m one two [] i outside h = h
closed_holds Plain m one two (x ∷ xs) i outside h =
    quantified_holds Plain m one two x (closed_by m one two xs i) outside.0.formed outside.0.out (closed_holds Plain m one two xs i outside.1 h)

-- what is free in a closed interpolant was so before, and isn't quantified

-- whether a variable is in a list
abbrev pub among_vars : List Var → Var → Bool
among_vars xs w = list_any (eq_by_cmp var_cmp w) xs

pub record Remains (w : Var) (xs : List Var) (f : Formula) : Type 0 where
  pub before : is_free_in w f ≡ true
  pub other : among_vars xs w ≡ false

free_quantified : (m : Side) (one two : Sequent) (w x : Var) (i : Interpolation) → is_free_in w (quantified m one two x i).formula ≡ true → is_free_in w (bind i.formula x) ≡ true
free_quantified Right one two w x i h = h
free_quantified Left one two w x i h = h

neither : (a b : Bool) → not a ≡ true → b ≡ false → (a || b) ≡ false
neither true b e h = cc
neither false b e h = h

pub free_closed : (m : Side) (one two : Sequent) (w : Var) (xs : List Var) (i : Interpolation) → is_free_in w (closed_by m one two xs i).formula ≡ true → Remains w xs i.formula
free_closed m one two w [] i h = record { before = h; other = refl }
free_closed m one two w (x ∷ xs) i h =
    let f : Formula = (closed_by m one two xs i).formula in
    let inside : is_free_in w (bind f x) ≡ true = free_quantified m one two w x (closed_by m one two xs i) h in
    let rest : Remains w xs i.formula = free_closed m one two w xs i (free_kept w x f inside) in
    record { before = rest.before; other = neither (eq_by_cmp var_cmp w x) (among_vars xs w) (other_kept w x f inside) rest.other }

-- the formula is the closure
pub closed_formula : (m : Side) (one two : Sequent) (xs : List Var) (i : Interpolation) → (closed_by m one two xs i).formula ≡ closed_over (quantifier_of m) xs i.formula
closed_formula m one two [] i = refl
closed_formula Right one two (x ∷ xs) i = ap (λ f. all (bind f x)) (closed_formula Right one two xs i)
closed_formula Left one two (x ∷ xs) i = ap (λ f. ex (bind f x)) (closed_formula Left one two xs i)
