-- What is there exactly where something else is.
use Rattle.std.proofs.Common.{◌≡◌, Option, Some, None, sym, ◌∙◌}
use Rattle.std.specs.Prelude.{Result, Err, IfSome, IsErrAnd}
use Rattle.std.proofs.lemmas.Result.{err_from_is_err_and}
use Rattle.arena_building.specs.Building.{IsAnswered}

pub if_answered : {A B : Type 0} (Q : B → Type 0) (o : Option A) (p : Option B) → IsAnswered (λ _. Q) o p → IfSome p Q
if_answered Q None None h = tt
if_answered Q None (Some y) h = absurd h
if_answered Q (Some x) None h = tt
if_answered Q (Some x) (Some y) h = h

pub answered_by : {A B C : Type 0} (P : B → Type 0) (Q : C → Type 0) (o : Option A) (p : Option B) (q : Option C) → IsAnswered (λ _. P) o p → IsAnswered (λ _. Q) p q → IsAnswered (λ _. Q) o q
answered_by P Q None None q h k = k
answered_by P Q None (Some y) q h k = absurd h
answered_by P Q (Some x) None q h k = absurd h
answered_by P Q (Some x) (Some y) q h k = k

-- the fault that a `?` passes on
same_fault : {T E : Type 0} (x y : E) → ◌≡◌ {A = Result T E} (Err x) (Err y) → x ≡ y
same_fault x y h = cc

pub passed_on : {T U E : Type 0} (r : Result T E) (x y : E) → IsErrAnd r (λ z. z ≡ y) → r ≡ Err x → ◌≡◌ {A = Result U E} (Err y) (Err x)
passed_on r x y h e =
    let p = err_from_is_err_and r h in
    let is : y ≡ x = sym p.2 ∙ same_fault p.0 x (sym p.1 ∙ e) in
    λ i. Err (is i)
