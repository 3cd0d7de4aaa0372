-- The trees of a list.
use Rattle.std.proofs.Common.{◌≡◌, ◌<◌, Bool, true, List, [], ◌∷◌, arith}
use Rattle.std.specs.List.{AllByRecursion, list_any}
use Rattle.proof_trees.proofs.Booleans.{or_first, or_second, either}
use Rattle.fol.specs.declared.symbols.Var.{Var}
use Rattle.expansion_laws.specs.Dependency.{strongs}
use Rattle.building_laws.specs.Lists.{Placed, strongs_in_list}
use Rattle.building_laws.proofs.Counting.{count, count-append, either_counted}

-- p is in the list
pub data In (p : Placed) : List Placed → Type 0 where
  at_front : (l : List Placed) → In p (p ∷ l)
  behind : (q : Placed) (l : List Placed) → In p l → In p (q ∷ l)

-- what holds of each tree holds of one that is in the list
pub all_in : (P : Placed → Type 0) (p : Placed) (l : List Placed) → In p l → AllByRecursion P l → P p
all_in P p _ (at_front l) h = h.0
all_in P p _ (behind q l i) h = all_in P p l i h.1

-- what holds of each one that is in the list holds of each tree
pub all_of : (P : Placed → Type 0) (l : List Placed) → ((p : Placed) → In p l → P p) → AllByRecursion P l
all_of P [] each = tt
all_of P (p ∷ l) each = (each p (at_front l), all_of P l (λ q i. each q (behind p l i)))

-- where one that is in the list passes, some tree passes
pub any_in : (t : Placed → Bool) (p : Placed) (l : List Placed) → In p l → t p ≡ true → list_any t l ≡ true
any_in t p _ (at_front l) e = or_first (t p) (list_any t l) e
any_in t p _ (behind q l i) e = or_second (t q) (list_any t l) (any_in t p l i e)

-- where some tree passes, what follows from any that does
pub from_any : {P : Type 0} (t : Placed → Bool) (l : List Placed) → ((p : Placed) → In p l → t p ≡ true → P) → list_any t l ≡ true → P
from_any t [] use_it e = cc
from_any t (p ∷ l) use_it e = either (t p) (list_any t l) (use_it p (at_front l)) (from_any t l (λ q i. use_it q (behind p l i))) e

-- the variables of a list are those of its trees

pub counted_in : (v : Var) (p : Placed) (l : List Placed) → In p l → 0 < count v (strongs p.tree) → 0 < count v (strongs_in_list l)
counted_in v p _ (at_front l) h = let sum = count-append v (strongs p.tree) (strongs_in_list l) in omega arith
counted_in v p _ (behind q l i) h =
    let rest = counted_in v p l i h in
    let sum = count-append v (strongs q.tree) (strongs_in_list l) in
    omega arith

pub from_counted : {P : Type 0} (v : Var) (l : List Placed) → ((p : Placed) → In p l → 0 < count v (strongs p.tree) → P) → 0 < count v (strongs_in_list l) → P
from_counted v [] use_it h = absurd (omega arith)
from_counted v (p ∷ l) use_it h =
    either_counted (count v (strongs p.tree)) (count v (strongs_in_list l)) (count v (strongs_in_list (p ∷ l))) (count-append v (strongs p.tree) (strongs_in_list l))
    (use_it p (at_front l))
    (from_counted v l (λ q i. use_it q (behind p l i)))
    h
