-- The variables that are read, each none of those before it, and those that were seen.
use Rattle.std.proofs.Common.{◌≡◌, ℕ, ◌+◌, ◌<◌, suc, Bool, true, false, ◌||◌, cond, if◌then◌else◌, List, [], ◌∷◌, ◌++◌, length, get_or, drop, map, Option, Some, None, is_some, Ok, Err, refl, sym, ap, ◌∙◌, arith}
use Rattle.std.specs.Ordering.{eq_by_cmp}
use Rattle.std.proofs.lemmas.List.Folds.{list_any-append}
use Rattle.std.proofs.lemmas.Cmp.{eq_by_cmp_equiv}
use Rattle.fol.specs.declared.symbols.Var.{Var}
use Rattle.fol.specs.Order.{var_cmp}
use Rattle.fol.specs.OrderLaws.{var_total}
use Rattle.free_variables.specs.Fresh.{is_among}
use Rattle.serde_json.specs.Data.{Data}
use Rattle.serde_json.specs.Find.{as_str}
use Rattle.job_lang.specs.Fields.{Reading, ◌>>=◌, or_fault}
use Rattle.job_lang.specs.Definitions.{wrong_variable, whole_of, variables_behind}
use Rattle.job_lang.proofs.Each.{drop_here}

or_neither : (a b : Bool) → (a || (b || false)) ≡ (a || b)
or_neither true b = refl
or_neither false true = refl
or_neither false false = refl

-- one more variable is among those that are seen
seen_more : {A : Type 0} (b : Bool) (o : Option A) (a : A) → is_some (cond b (Some a) o) ≡ (is_some o || b)
seen_more true None a = refl
seen_more true (Some x) a = refl
seen_more false None a = refl
seen_more false (Some x) a = refl

pub among_more : {A : Type 0} (v w : Var) (vs : List Var) (o : Option A) (a : A) → is_some o ≡ is_among w vs
    → is_some (cond (eq_by_cmp var_cmp v w) (Some a) o) ≡ is_among w (vs ++ v ∷ [])
among_more v w vs o a is =
    seen_more (eq_by_cmp var_cmp v w) o a
    ∙ ((λ i. is i || (eq_by_cmp_equiv var_total).symm v w i)
    ∙ (sym (or_neither (is_among w vs) (eq_by_cmp var_cmp w v)) ∙ sym (list_any-append (eq_by_cmp var_cmp w) vs (v ∷ []))))

-- what is read behind some variables, by the next element
module _ (vs : List Var) (i : ℕ) (d : Data) (ds : List Data) (v : Var) (is : whole_of (as_str d) ≡ Some v) where
  by_next : (b : Bool) → is_among v vs ≡ b
      → variables_behind vs i (d ∷ ds) ≡ (if b then Err (wrong_variable i) else variables_behind (vs ++ v ∷ []) (suc i) ds)
  by_next b among =
      ap (λ o. or_fault (wrong_variable i) o >>= λ w. if is_among w vs then Err (wrong_variable i) else variables_behind (vs ++ w ∷ []) (suc i) ds) is
      ∙ ap (λ (x : Bool). if x then Err (wrong_variable i) else variables_behind (vs ++ v ∷ []) (suc i) ds) among

-- the same of the elements of a list from the one with number i on
module _ {V : Type 0} (h : V → Data) (xs : List V) (i : ℕ) (x : V) (vs : List Var) (within : i < length xs) (at : x ≡ get_or xs i x)
    (so_far : variables_behind vs i (map h (drop i xs)) ≡ variables_behind [] 0 (map h xs)) where
  here : variables_behind [] 0 (map h xs) ≡ variables_behind vs i (h x ∷ map h (drop (i + 1) xs))
  here = sym so_far ∙ ap (λ ys. variables_behind vs i (map h ys)) (drop_here xs i x within at)

  pub one_more : (v : Var) → whole_of (as_str (h x)) ≡ Some v → is_among v vs ≡ false
      → variables_behind (vs ++ v ∷ []) (i + 1) (map h (drop (i + 1) xs)) ≡ variables_behind [] 0 (map h xs)
  one_more v is new =
      ap (λ (k : ℕ). variables_behind (vs ++ v ∷ []) k (map h (drop (i + 1) xs))) next
      ∙ sym (by_next vs i (h x) (map h (drop (i + 1) xs)) v is false new) ∙ sym here
    where
      next : i + 1 ≡ suc i
      next = omega arith
