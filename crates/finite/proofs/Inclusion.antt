-- Inclusion of rising lists by a walk over both.
use Rattle.std.proofs.Common.{◌≡◌, ℕ, ◌<◌, length, drop, length-drop, arith, Bool, true, false, ◌&&◌, ◌||◌, List, [], ◌∷◌, refl, sym, ap, ◌∙◌}
use Rattle.std.specs.declared.cmp.Ordering.{Ordering}
use Rattle.std.specs.declared.cmp.Ordering.TheVariants.{Less, Equal, Greater}
use Rattle.std.specs.Cmp.{IsTotalOrder}
use Rattle.std.specs.Ordering.{is_eq, eq_by_cmp, match_ordering}
use Rattle.std.specs.List.{list_all, list_any}
use Rattle.std.proofs.Math.ListN.{drop_of_length-le}
use Rattle.finite.specs.Finite.{IsRising, of_rising, subset}
use Rattle.finite.proofs.Rising.{IsBelow, first, second, less, head_below, tail_rises, below_none, below_less, below_tied, turned, turned_less}
use Rattle.finite.proofs.Finite.{listing-of_rising, has-of_rising}

module _ {K : Type 0} (R : K → K → Ordering) where
  -- the walk at x, where `on` is the walk over what follows x
  abbrev pub within_step : K → (List K → Bool) → List K → Bool
  within_step x on [] = false
  within_step x on (y ∷ ys) = match_ordering (R x y) false (on ys) (within_step x on ys)

  -- whether each element of the first list ties with one of the second, where both rise
  abbrev pub within : List K → List K → Bool
  within [] ys = true
  within (x ∷ xs) ys = within_step x (within xs) ys

  within_none : (xs : List K) → 0 < length xs → within xs [] ≡ false
  within_none [] l = absurd (omega arith)
  within_none (x ∷ xs) l = refl

  -- nothing is left of the second list, and something of the first
  pub within_past : (xs ys : List K) (i j : ℕ) → i < length xs → j ≡ length ys → within xs ys ≡ within (drop i xs) (drop j ys) → false ≡ within xs ys
  within_past xs ys i j l e so =
      let over : drop j ys ≡ [] = drop_of_length-le ys {i = j} (omega arith) in
      sym (so ∙ ap (within (drop i xs)) over ∙ within_none (drop i xs) (omega (arith, length-drop i xs)))

  abbrev among : List K → K → Bool
  among ys x = list_any (eq_by_cmp R x) ys

  module _ (o : IsTotalOrder R) where
    -- an element below all that are looked for may go
    all_above : (y : K) (ys xs : List K) → IsBelow R y xs → list_all (among ys) xs ≡ list_all (among (y ∷ ys)) xs
    all_above y ys [] h = refl
    all_above y ys (x ∷ xs) h =
        let above = turned_less R o y x (less _ (first _ _ h)) in
        λ i. (is_eq (sym above i) || among ys x) && all_above y ys xs (second _ _ h) i

    within-step : (x : K) (xs : List K) → IsBelow R x xs → ((zs : List K) → IsRising R zs → within xs zs ≡ list_all (among zs) xs)
        → (ys : List K) → IsRising R ys → within_step x (within xs) ys ≡ list_all (among ys) (x ∷ xs)
    within-step x xs h on [] g = refl
    within-step x xs h on (y ∷ ys) g =
        let rest = tail_rises R y ys g in
        elim (R x y) as (λ r. R x y ≡ r → match_ordering r false (within xs ys) (within_step x (within xs) ys) ≡ ((is_eq r || among ys x) && list_all (among (y ∷ ys)) xs)) [
          | Less ↦ λ e. ap (λ b. b && list_all (among (y ∷ ys)) xs) (sym (below_none R x ys (below_less R o y x ys e (head_below R y ys g))))
          | Equal ↦ λ e. on ys rest ∙ all_above y ys xs (below_tied R o x y xs e h)
          | Greater ↦ λ e. within-step x xs h on ys rest ∙ ap (λ b. among ys x && b) (all_above y ys xs (below_less R o x y xs (turned R o x y e) h))
        ] refl

    within-all : (xs ys : List K) → IsRising R xs → IsRising R ys → within xs ys ≡ list_all (among ys) xs
    within-all [] ys h g = refl
    within-all (x ∷ xs) ys h g = within-step x xs (head_below R x xs h) (λ zs. within-all xs zs (tail_rises R x xs h)) ys g

    -- the walk answers inclusion of the sets
    pub within-subset : (xs ys : List K) → IsRising R xs → IsRising R ys → within xs ys ≡ subset (of_rising {R = R} xs) (of_rising ys)
    within-subset xs ys h g =
        within-all xs ys h g ∙ sym (λ i. list_all (λ q. has-of_rising R ys g q i) (listing-of_rising R xs h i))
