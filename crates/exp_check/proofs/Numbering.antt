-- The numbers of variables in a rising list, and the links of edges.
use Rattle.std.proofs.Common.{◌≡◌, ℕ, zero, suc, ◌<◌, Bool, true, false, ◌&&◌, ◌||◌, List, [], ◌∷◌, ◌++◌, length, get_or, eqb, refl, sym, ap, ◌∙◌, arith}
use Rattle.std.specs.Prelude.{Some, None, Result, Ok, Err, nat_eq}
use Rattle.std.specs.Result.{result_ok}
use Rattle.std.specs.List.Sorted.{IsPermutation}
use Rattle.std.proofs.lemmas.Bool.Decides.{nat_tests}
use Rattle.std.proofs.lemmas.List.Sorted.{list_any-IsPermutation, All-permutation}
use Rattle.std.specs.Ordering.{eq_by_cmp, is_eq, ordering_reverse}
use Rattle.std.specs.declared.cmp.Ordering.{Ordering}
use Rattle.std.specs.declared.cmp.Ordering.TheVariants.{Less, Equal, Greater}
use Rattle.std.proofs.lemmas.List.Elements.{All-push}
use Rattle.std.proofs.lemmas.List.Folds.{list_any-append}
use Rattle.std.proofs.Math.Bool.{or-false}
use Rattle.finite.specs.Finite as set
use Rattle.finite.specs.Place.{place, place_by, later}
use Rattle.finite.proofs.Rising.{rising_at, tail_rises}
use Rattle.fol.specs.declared.symbols.Var.{Var}
use Rattle.fol.specs.Order.{var_cmp}
use Rattle.fol.specs.OrderLaws.{var_total}
use Rattle.fol.proofs.OrderTies.{var_ties}
use Rattle.exp_check.specs.Edges.{is_edge, has_edge}
use Rattle.exp_check.specs.Links.{is_link, has_link, IsNumber, AreLinks}
use Rattle.exp_check.specs.declared.dependency.Edge.{Edge}
use Rattle.exp_check.specs.declared.links.Link.{Link}

eqb_suc : (k i : ℕ) → eqb (suc k) (suc i) ≡ eqb k i
eqb_suc k i = grind (arith, nat_tests)

eqb_more : (k : ℕ) → eqb (suc k) 0 ≡ false
eqb_more k = grind (arith, nat_tests)

eqb_less : (i : ℕ) → eqb 0 (suc i) ≡ false
eqb_less i = grind (arith, nat_tests)

-- each later element of a rising list is above the first
above_first : (v w : Var) (vs : List Var) → set.IsRising var_cmp (w ∷ vs) → (i : ℕ) (d : Var) → i < length vs → var_cmp (get_or vs i d) w ≡ Greater
above_first v w vs up i d within =
    var_total.antisymm (get_or vs i d) w ∙ ap ordering_reverse (rising_at var_cmp (w ∷ vs) up 0 (suc i) d (omega arith) (omega arith))

not_at_later : (v w : Var) (vs : List Var) → var_cmp w v ≡ Less → ((i : ℕ) (d : Var) → i < length vs → eq_by_cmp var_cmp (get_or vs i d) v ≡ false)
    → (i : ℕ) (d : Var) → i < length (w ∷ vs) → eq_by_cmp var_cmp (get_or (w ∷ vs) i d) v ≡ false
not_at_later v w vs less h zero d within = ap is_eq less
not_at_later v w vs less h (suc i) d within = h i d (omega arith)

at_later : (v w : Var) (vs : List Var) (k : ℕ) → var_cmp w v ≡ Less → ((i : ℕ) (d : Var) → i < length vs → eq_by_cmp var_cmp (get_or vs i d) v ≡ nat_eq k i)
    → (i : ℕ) (d : Var) → i < length (w ∷ vs) → eq_by_cmp var_cmp (get_or (w ∷ vs) i d) v ≡ nat_eq (suc k) i
at_later v w vs k less h zero d within = ap is_eq less ∙ sym (eqb_more k)
at_later v w vs k less h (suc i) d within = h i d (omega arith) ∙ sym (eqb_suc k i)

later_number : (v w : Var) (vs : List Var) (r : Result ℕ ℕ) → var_cmp w v ≡ Less → IsNumber vs v (result_ok r) → IsNumber (w ∷ vs) v (result_ok (later r))
later_number v w vs (Ok k) less h =
    (omega (arith, h.0), λ i d within. at_later v w vs k less h.1 i d within)
later_number v w vs (Err k) less h = λ i d within. not_at_later v w vs less h i d within

first_number : (v w : Var) (vs : List Var) → set.IsRising var_cmp (w ∷ vs) → var_cmp w v ≡ Equal → (i : ℕ) (d : Var) → i < length (w ∷ vs) → eq_by_cmp var_cmp (get_or (w ∷ vs) i d) v ≡ nat_eq 0 i
first_number v w vs up same zero d within = ap is_eq same
first_number v w vs up same (suc i) d within =
    ap (λ u. eq_by_cmp var_cmp (get_or vs i d) u) (sym (var_ties w v same)) ∙ ap is_eq (above_first v w vs up i d (omega arith)) ∙ sym (eqb_less i)

not_there : (v w : Var) (vs : List Var) → set.IsRising var_cmp (w ∷ vs) → var_cmp w v ≡ Greater → (i : ℕ) (d : Var) → i < length (w ∷ vs) → eq_by_cmp var_cmp (get_or (w ∷ vs) i d) v ≡ false
not_there v w vs up more zero d within = ap is_eq more
not_there v w vs up more (suc i) d within =
    let below : var_cmp v w ≡ Less = var_total.antisymm v w ∙ ap ordering_reverse more in
    let first : var_cmp w (get_or vs i d) ≡ Less = rising_at var_cmp (w ∷ vs) up 0 (suc i) d (omega arith) (omega arith) in
    let all : var_cmp v (get_or vs i d) ≡ Less = var_total.trans v w (get_or vs i d) below first in
    ap is_eq (var_total.antisymm (get_or vs i d) v ∙ ap ordering_reverse all)

-- the place of a variable in a rising list is its number
pub number_by_place : (v : Var) (vs : List Var) → set.IsRising var_cmp vs → IsNumber vs v (result_ok (place var_cmp v vs))
number_by_place v [] up = λ i d within. absurd (omega arith)
number_by_place v (w ∷ vs) up =
    elim (var_cmp w v) as (λ r. var_cmp w v ≡ r → IsNumber (w ∷ vs) v (result_ok (place_by r (place var_cmp v vs)))) [
      | Less ↦ λ k. later_number v w vs (place var_cmp v vs) k (number_by_place v vs (tail_rises var_cmp w vs up))
      | Equal ↦ λ k. (omega arith, first_number v w vs up k)
      | Greater ↦ λ k. not_there v w vs up k
    ] refl

reversed_tie : (r : Ordering) → is_eq (ordering_reverse r) ≡ is_eq r
reversed_tie Less = refl
reversed_tie Equal = refl
reversed_tie Greater = refl

tied_back : (v w : Var) → eq_by_cmp var_cmp v w ≡ eq_by_cmp var_cmp w v
tied_back v w = ap is_eq (var_total.antisymm v w) ∙ reversed_tie (var_cmp w v)

and_nothing : (a b : Bool) → b ≡ false → (a && b) ≡ false
and_nothing true b e = e
and_nothing false b e = refl

module _ (vs : List Var) (es : List Edge) (ls : List Link) where
  edge_more : (e : Edge) (y z : Var) → has_edge (es ++ e ∷ []) y z ≡ (has_edge es y z || is_edge y z e)
  edge_more e y z = list_any-append (is_edge y z) es (e ∷ []) ∙ ap (λ b. has_edge es y z || b) (or-false (is_edge y z e))

  link_more : (l : Link) (i j : ℕ) → has_link (ls ++ l ∷ []) i j ≡ (has_link ls i j || is_link i j l)
  link_more l i j = list_any-append (is_link i j) ls (l ∷ []) ∙ ap (λ b. has_link ls i j || b) (or-false (is_link i j l))

  -- an edge between two variables that have numbers
  pub linked_more : (e : Edge) (p q : ℕ) → IsNumber vs e.before (Some p) → IsNumber vs e.after (Some q) → AreLinks vs es ls → AreLinks vs (es ++ e ∷ []) (ls ++ record { before = p; after = q } ∷ [])
  linked_more e p q first second h = record {
    within = All-push (λ (l : Link). (l.before < length vs) × (l.after < length vs)) ls (record { before = p; after = q }) h.within (first.0, second.0);
    linked = λ i j d in_i in_j.
        link_more (record { before = p; after = q }) i j
        ∙ (λ k. h.linked i j d in_i in_j k || (sym (first.1 i d in_i) k && (sym (second.1 j d in_j) ∙ tied_back (get_or vs j d) e.after) k))
        ∙ sym (edge_more e (get_or vs i d) (get_or vs j d));
  }

  -- one between others
  pub linked_same : (e : Edge) → ((i j : ℕ) (d : Var) → i < length vs → j < length vs → is_edge (get_or vs i d) (get_or vs j d) e ≡ false) → AreLinks vs es ls → AreLinks vs (es ++ e ∷ []) ls
  linked_same e none h = record {
    within = h.within;
    linked = λ i j d in_i in_j.
        h.linked i j d in_i in_j ∙ sym (or-false (has_edge es (get_or vs i d) (get_or vs j d)))
        ∙ ap (λ b. has_edge es (get_or vs i d) (get_or vs j d) || b) (sym (none i j d in_i in_j)) ∙ sym (edge_more e (get_or vs i d) (get_or vs j d));
  }

  pub before_outside : (e : Edge) → IsNumber vs e.before None → AreLinks vs es ls → AreLinks vs (es ++ e ∷ []) ls
  before_outside e none h = linked_same e (λ i j d in_i in_j. ap (λ b. b && eq_by_cmp var_cmp e.after (get_or vs j d)) (none i d in_i)) h

  pub after_outside : (e : Edge) → IsNumber vs e.after None → AreLinks vs es ls → AreLinks vs (es ++ e ∷ []) ls
  after_outside e none h =
      linked_same e (λ i j d in_i in_j. and_nothing (eq_by_cmp var_cmp (get_or vs i d) e.before) (eq_by_cmp var_cmp e.after (get_or vs j d)) (tied_back e.after (get_or vs j d) ∙ none j d in_j)) h

  -- in another order
  pub linked_sorted : (ms : List Link) → IsPermutation ls ms → AreLinks vs es ls → AreLinks vs es ms
  linked_sorted ms perm h = record {
    within = All-permutation (λ (l : Link). (l.before < length vs) × (l.after < length vs)) ls ms perm h.within;
    linked = λ i j d in_i in_j. sym (list_any-IsPermutation (is_link i j) ls ms perm) ∙ h.linked i j d in_i in_j;
  }

pub linked_none : (vs : List Var) → AreLinks vs [] []
linked_none vs = record { within = λ k d within. absurd (omega arith); linked = λ i j d in_i in_j. refl }
