-- How often a variable stands in a list.
use Rattle.std.proofs.Common.{◌≡◌, ◌+◌, ◌<◌, ◌≤◌, Bool, true, false, cond, ◌||◌, List, ◌∷◌, refl, ap, ◌∙◌, arith}
use Rattle.std.specs.Prelude.{if◌then◌else◌}
use Rattle.std.specs.Ordering.{eq_by_cmp, is_eq, ordering_reverse}
use Rattle.std.specs.declared.cmp.Ordering.{Ordering}
use Rattle.std.specs.declared.cmp.Ordering.TheVariants.{Less, Equal, Greater}
use Rattle.std.proofs.lemmas.Bool.Decides.{nat_tests}
use Rattle.std.proofs.lemmas.List.Sums.{sum_by-cons}
use Rattle.fol.specs.declared.symbols.Var.{Var}
use Rattle.fol.specs.Order.{var_cmp}
use Rattle.fol.specs.OrderLaws.{var_total}
use Rattle.expansion_laws.specs.Eigenvariables.{times, is_repeated}

pub equal_back : (r : Ordering) → is_eq r ≡ true → r ≡ Equal
equal_back Less h = cc
equal_back Equal h = refl
equal_back Greater h = cc

own_reverse : (r : Ordering) → r ≡ ordering_reverse r → is_eq r ≡ true
own_reverse Less h = cc
own_reverse Equal h = refl
own_reverse Greater h = cc

pub self_tied : (v : Var) → eq_by_cmp var_cmp v v ≡ true
self_tied v = own_reverse (var_cmp v v) (var_total.antisymm v v)

-- the number of times with one more variable
pub times_more : (v w : Var) (vs : List Var) (b : Bool) → eq_by_cmp var_cmp w v ≡ b → times (v ∷ vs) w ≡ (if b then 1 else 0) + times vs w
times_more v w vs b h = sum_by-cons (λ u. cond (eq_by_cmp var_cmp w u) 1 0) v vs ∙ ap (λ c. (if c then 1 else 0) + times vs w) h

pub at_most_once : (vs : List Var) (w : Var) → times vs w ≤ 1 → is_repeated vs w ≡ false
at_most_once vs w h = grind (arith, nat_tests)

pub more_than_once : (vs : List Var) (w : Var) → 1 < times vs w → is_repeated vs w ≡ true
more_than_once vs w h = grind (arith, nat_tests)

pub at_most_back : (vs : List Var) (w : Var) → is_repeated vs w ≡ false → times vs w ≤ 1
at_most_back vs w h = grind (arith, nat_tests)

pub more_back : (vs : List Var) (w : Var) → is_repeated vs w ≡ true → 1 < times vs w
more_back vs w h = grind (arith, nat_tests)

pub or_parts : (a b : Bool) → (a || b) ≡ false → (a ≡ false) × (b ≡ false)
or_parts true b h = cc
or_parts false b h = (refl, h)
