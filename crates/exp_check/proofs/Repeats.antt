-- What the first pair and the first free variable of a sorted list are.
use Rattle.std.proofs.Common.{◌≡◌, ℕ, ◌+◌, ◌<◌, ◌≤◌, zero, suc, Bool, true, false, cond, ◌&&◌, ◌||◌, List, [], ◌∷◌, length, get_or, drop, refl, sym, ap, ◌∙◌, subst, arith}
use Rattle.std.specs.Prelude.{Option, Some, None, nat_lt, if◌then◌else◌}
use Rattle.std.specs.List.{list_any}
use Rattle.std.specs.List.Sorted.{IsSorted, IsPermutation}
use Rattle.std.specs.Cmp.{alike_right}
use Rattle.std.specs.Ordering.{eq_by_cmp, is_eq, is_lt, ordering_reverse}
use Rattle.std.specs.declared.cmp.Ordering.TheVariants.{Less, Equal, Greater}
use Rattle.std.proofs.lemmas.Bool.{and_parts}
use Rattle.std.proofs.lemmas.List.{at_drop_more, drop_all}
use Rattle.std.proofs.Math.Bool.{or-true}
use Rattle.std.specs.Cmp.Derive.{both_true}
use Rattle.fol.proofs.OrderTies.{var_ties}
use Rattle.std.proofs.lemmas.List.Sorted.{sum_by-IsPermutation, list_any-IsPermutation}
use Rattle.fol.specs.declared.symbols.Var.{Var}
use Rattle.fol.specs.Order.{var_cmp}
use Rattle.fol.specs.OrderLaws.{var_total}
use Rattle.lk_rules.specs.declared.sequent.Sequent.{Sequent}
use Rattle.lk_rules.specs.Sequents.{is_free_in_sequent}
use Rattle.expansion_laws.specs.Eigenvariables.{times, is_repeated, is_free_eigenvariable, IsLeast}
use Rattle.exp_check.specs.Eigenvariables.{first_pair, first_free}
use Rattle.expansion_laws.proofs.Times.{equal_back, self_tied, times_more, at_most_once, more_than_once, at_most_back, more_back}

turned : (v w : Var) → var_cmp v w ≡ Greater → var_cmp w v ≡ Less
turned v w e = var_total.antisymm w v ∙ ap ordering_reverse e

tail_sorted : (v : Var) (vs : List Var) → IsSorted var_cmp (v ∷ vs) → IsSorted var_cmp vs
tail_sorted v vs h k d low high =
    let P : ℕ → Type 0 = λ n. is_lt (var_cmp (get_or (v ∷ vs) n d) (get_or vs k d)) ≡ false in
    let next : suc k + 1 ≡ suc (k + 1) = omega arith in
    subst P next (h (suc k) d (omega arith) (omega arith))

-- a variable below the first of a sorted list is below the second
below_second : (w v u : Var) (vs : List Var) → IsSorted var_cmp (v ∷ u ∷ vs) → var_cmp w v ≡ Less → var_cmp w u ≡ Less
below_second w v u vs h e =
    let not_less : is_lt (var_cmp u v) ≡ false = h 0 v (omega arith) (omega arith) in
    elim (var_cmp u v) as (λ r. var_cmp u v ≡ r → var_cmp w u ≡ Less) [
      | Less ↦ λ k. let less : is_lt (var_cmp u v) ≡ true = ap is_lt k in cc
      | Equal ↦ λ k. let back : var_cmp v u ≡ Equal = var_total.antisymm v u ∙ ap ordering_reverse k in sym (alike_right var_total _ _ w back) ∙ e
      | Greater ↦ λ k. var_total.trans w v u e (turned u v k)
    ] refl

-- and stands nowhere in it
none_below : (w v : Var) (vs : List Var) → IsSorted var_cmp (v ∷ vs) → var_cmp w v ≡ Less → times (v ∷ vs) w ≡ 0
none_below w v [] h e = rw e refl
none_below w v (u ∷ us) h e = rw e (none_below w u us (tail_sorted v (u ∷ us) h) (below_second w v u us h e))

none_there : (w v : Var) (vs : List Var) → IsSorted var_cmp (v ∷ vs) → var_cmp w v ≡ Less → list_any (eq_by_cmp var_cmp w) (v ∷ vs) ≡ false
none_there w v [] h e = rw e refl
none_there w v (u ∷ us) h e = rw e (none_there w u us (tail_sorted v (u ∷ us) h) (below_second w v u us h e))

-- the first is below the second of a sorted list where they differ
first_below : (v u : Var) (us : List Var) → IsSorted var_cmp (v ∷ u ∷ us) → eq_by_cmp var_cmp v u ≡ false → var_cmp v u ≡ Less
first_below v u us h e =
    let not_less : is_lt (var_cmp u v) ≡ false = h 0 v (omega arith) (omega arith) in
    elim (var_cmp v u) as (λ r. var_cmp v u ≡ r → var_cmp v u ≡ Less) [
      | Less ↦ λ k. k
      | Equal ↦ λ k. let tie : eq_by_cmp var_cmp v u ≡ true = ap is_eq k in cc
      | Greater ↦ λ k. let less : is_lt (var_cmp u v) ≡ true = ap is_lt (turned v u k) in cc
    ] refl

-- what isn't repeated in the rest isn't in the whole
once_more : (v u w : Var) (us : List Var) → IsSorted var_cmp (v ∷ u ∷ us) → eq_by_cmp var_cmp v u ≡ false → is_repeated (u ∷ us) w ≡ false → is_repeated (v ∷ u ∷ us) w ≡ false
once_more v u w us h differ once =
    elim (eq_by_cmp var_cmp w v) as (λ b. eq_by_cmp var_cmp w v ≡ b → is_repeated (v ∷ u ∷ us) w ≡ false) [
      | true ↦ λ k.
          let less : var_cmp w u ≡ Less = var_total.congr w v u (equal_back (var_cmp w v) k) ∙ first_below v u us h differ in
          let none : times (u ∷ us) w ≡ 0 = none_below w u us (tail_sorted v (u ∷ us) h) less in
          let many : times (v ∷ u ∷ us) w ≡ 1 + times (u ∷ us) w = times_more v w (u ∷ us) true k in
          at_most_once (v ∷ u ∷ us) w (omega (arith, many, none))
      | false ↦ λ k.
          let many : times (v ∷ u ∷ us) w ≡ 0 + times (u ∷ us) w = times_more v w (u ∷ us) false k in
          let few = at_most_back (u ∷ us) w once in
          at_most_once (v ∷ u ∷ us) w (omega (arith, many, few))
    ] refl

still_repeated : (v w : Var) (vs : List Var) → is_repeated vs w ≡ true → is_repeated (v ∷ vs) w ≡ true
still_repeated v w vs h =
    let many = times_more v w vs (eq_by_cmp var_cmp w v) refl in
    let twice = more_back vs w h in
    more_than_once (v ∷ vs) w (omega (arith, many, twice))

-- the first of a sorted list that is followed by itself is the least that is repeated
pub repeated_least : (vs : List Var) → IsSorted var_cmp vs → IsLeast (is_repeated vs) (first_pair vs)
repeated_least [] h = λ w. refl
repeated_least (v ∷ []) h = λ w. elim (eq_by_cmp var_cmp w v) as (λ b. eq_by_cmp var_cmp w v ≡ b → is_repeated (v ∷ []) w ≡ false) [
  | true ↦ λ k. at_most_once (v ∷ []) w (let many = times_more v w [] true k in omega (arith, many))
  | false ↦ λ k. at_most_once (v ∷ []) w (let many = times_more v w [] false k in omega (arith, many))
] refl
repeated_least (v ∷ u ∷ us) h =
    elim (eq_by_cmp var_cmp v u) as (λ b. eq_by_cmp var_cmp v u ≡ b → IsLeast (is_repeated (v ∷ u ∷ us)) (if b then Some v else first_pair (u ∷ us))) [
      | true ↦ λ k. (
        let first = times_more v v (u ∷ us) true (self_tied v) in
            let second = times_more u v us true k in
            more_than_once (v ∷ u ∷ us) v (omega (arith, first, second)),
        λ w less. at_most_once (v ∷ u ∷ us) w (let none = none_below w v (u ∷ us) h less in omega (arith, none)),
      )
      | false ↦ λ k.
          elim (first_pair (u ∷ us)) as (λ o. IsLeast (is_repeated (u ∷ us)) o → IsLeast (is_repeated (v ∷ u ∷ us)) o) [
            | None ↦ λ inner w. once_more v u w us h k (inner w)
            | Some x ↦ λ inner. (still_repeated v x (u ∷ us) inner.0, λ w less. once_more v u w us h k (inner.1 w less))
          ] (repeated_least (u ∷ us) (tail_sorted v (u ∷ us) h))
    ] refl

and_no : (a b : Bool) → b ≡ false → (a && b) ≡ false
and_no true b h = h
and_no false b h = refl

-- a variable that isn't free doesn't make another the least
not_here : (s : Sequent) (v w : Var) (vs : List Var) → is_free_in_sequent v s ≡ false → is_free_eigenvariable s vs w ≡ false → is_free_eigenvariable s (v ∷ vs) w ≡ false
not_here s v w vs shut rest =
    elim (eq_by_cmp var_cmp w v) as (λ b. eq_by_cmp var_cmp w v ≡ b → ((b || list_any (eq_by_cmp var_cmp w) vs) && is_free_in_sequent w s) ≡ false) [
      | true ↦ λ k. ap (λ u. is_free_in_sequent u s) (var_ties w v (equal_back (var_cmp w v) k)) ∙ shut
      | false ↦ λ k. rest
    ] refl

also_there : (s : Sequent) (v w : Var) (vs : List Var) → is_free_eigenvariable s vs w ≡ true → is_free_eigenvariable s (v ∷ vs) w ≡ true
also_there s v w vs h =
    let both = and_parts (list_any (eq_by_cmp var_cmp w) vs) (is_free_in_sequent w s) h in
    both_true (ap (λ b. eq_by_cmp var_cmp w v || b) both.0 ∙ or-true (eq_by_cmp var_cmp w v)) both.1

-- the first of a sorted list that is free is the least that is
pub free_least : (s : Sequent) (vs : List Var) → IsSorted var_cmp vs → IsLeast (is_free_eigenvariable s vs) (first_free s vs)
free_least s [] h = λ w. refl
free_least s (v ∷ vs) h =
    elim (is_free_in_sequent v s) as (λ b. is_free_in_sequent v s ≡ b → IsLeast (is_free_eigenvariable s (v ∷ vs)) (if b then Some v else first_free s vs)) [
      | true ↦ λ k. (
        both_true (ap (λ b. b || list_any (eq_by_cmp var_cmp v) vs) (self_tied v)) k,
        λ w less. ap (λ b. b && is_free_in_sequent w s) (none_there w v vs h less),
      )
      | false ↦ λ k.
          elim (first_free s vs) as (λ o. IsLeast (is_free_eigenvariable s vs) o → IsLeast (is_free_eigenvariable s (v ∷ vs)) o) [
            | None ↦ λ inner w. not_here s v w vs k (inner w)
            | Some x ↦ λ inner. (also_there s v x vs inner.0, λ w less. not_here s v w vs k (inner.1 w less))
          ] (free_least s vs (tail_sorted v vs h))
    ] refl

-- tests that agree have the same least variable
same_least : (p q : Var → Bool) → ((w : Var) → p w ≡ q w) → (o : Option Var) → IsLeast p o → IsLeast q o
same_least p q same None h = λ w. sym (same w) ∙ h w
same_least p q same (Some v) h = (sym (same v) ∙ h.0, λ w less. sym (same w) ∙ h.1 w less)

-- what is found in the sorted list is so of the list
pub twice_found : (vs sorted : List Var) (o : Option Var) → IsPermutation vs sorted → IsSorted var_cmp sorted → o ≡ first_pair sorted → IsLeast (is_repeated vs) o
twice_found vs sorted o perm up found =
    same_least (is_repeated sorted) (is_repeated vs) (λ w. ap (nat_lt 1) (sum_by-IsPermutation (λ u. cond (eq_by_cmp var_cmp w u) 1 0) vs sorted perm)) o
    (subst (IsLeast (is_repeated sorted)) (sym found) (repeated_least sorted up))

pub free_found : (s : Sequent) (vs sorted : List Var) (o : Option Var) → IsPermutation vs sorted → IsSorted var_cmp sorted → o ≡ first_free s sorted → IsLeast (is_free_eigenvariable s vs) o
free_found s vs sorted o perm up found =
    same_least (is_free_eigenvariable s sorted) (is_free_eigenvariable s vs) (λ w. ap (λ b. b && is_free_in_sequent w s) (sym (list_any-IsPermutation (eq_by_cmp var_cmp w) vs sorted perm))) o
    (subst (IsLeast (is_free_eigenvariable s sorted)) (sym found) (free_least s sorted up))

-- the ends of the walks
pub pair_end : (vs : List Var) (k : ℕ) → length vs ≤ k + 1 → first_pair (drop k vs) ≡ None
pair_end [] k h = ap first_pair (drop_all k [] (omega arith))
pair_end (v ∷ []) zero h = refl
pair_end (v ∷ u ∷ us) zero h = absurd (omega arith)
pair_end (v ∷ vs) (suc k) h = pair_end vs k (omega arith)

pub free_there : (s : Sequent) (vs : List Var) (k : ℕ) (v : Var) (b : Bool) → k < length vs → v ≡ get_or vs k v → b ≡ is_free_in_sequent v s → b ≡ true → first_free s (drop k vs) ≡ Some v
free_there s vs k v b within is free_is free =
    at_drop_more (first_free s) vs k v within ∙ ap (λ u. first_free s (u ∷ drop (k + 1) vs)) (sym is) ∙ ap (λ c. if c then Some v else first_free s (drop (k + 1) vs)) (sym free_is ∙ free)

pub not_free_there : (s : Sequent) (vs : List Var) (k : ℕ) (v : Var) (b : Bool) → k < length vs → v ≡ get_or vs k v → b ≡ is_free_in_sequent v s → b ≡ false
    → first_free s (drop k vs) ≡ first_free s (drop (k + 1) vs)
not_free_there s vs k v b within is free_is shut =
    at_drop_more (first_free s) vs k v within ∙ ap (λ u. first_free s (u ∷ drop (k + 1) vs)) (sym is) ∙ ap (λ c. if c then Some v else first_free s (drop (k + 1) vs)) (sym free_is ∙ shut)
