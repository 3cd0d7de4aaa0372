-- What lists contain that are made of others, and the parts of a list of formulas.
use Rattle.std.proofs.Common.{◌≡◌, ℕ, Bool, true, false, ◌||◌, cond, List, [], ◌∷◌, ◌++◌, map, filter, refl, sym, ap, subst, ◌∙◌, ⊎_elim, arith}
use Rattle.std.specs.Prelude.{Contains, Some, slice_get}
use Rattle.std.proofs.lemmas.Option.{slice_get_within, get_or_from_slice_get}
use Rattle.std.specs.List.{All, flat_map, list_all, list_any}
use Rattle.std.specs.Ordering.{eq_by_cmp}
use Rattle.std.proofs.lemmas.List.Elements.{All-contains, All-cons, All-nil, Contains-append_left, Contains-append_right, Contains-append_cases}
use Rattle.fol.specs.Syntax.{Formula}
use Rattle.fol.specs.Order.{formula_cmp}
use Rattle.proof_trees.proofs.Booleans.{or_first, or_second, either}
use Rattle.proof_trees.proofs.FormulaSets.{tied}
use Rattle.substitution.proofs.Booleans.{and_both, and_left, and_right}
use Rattle.clause_laws.specs.Choices.{sublists, choices}
use Rattle.clause_laws.proofs.Sets.{is_in}

module _ {X : Type 0} where
  pub contains_head : (x : X) (xs : List X) → Contains (x ∷ xs) x
  contains_head x xs = (0, omega arith, refl)

  pub contains_later : (x : X) (xs : List X) (y : X) → Contains xs y → Contains (x ∷ xs) y
  contains_later x xs y h = Contains-append_right (x ∷ []) xs y h

  pub contains_none : {P : Type 0} (x : X) → Contains [] x → P
  contains_none {P} x h = let Q : X → Type 0 = λ y. P in All-contains Q [] x (All-nil Q) h

  pub only_one : (x y : X) → Contains (x ∷ []) y → x ≡ y
  only_one x y h = let Q : X → Type 0 = λ z. x ≡ z in All-contains Q (x ∷ []) y (All-cons Q x [] refl (All-nil Q)) h

  pub from_contains : {P : Type 0} (x : X) (xs : List X) (y : X) → (x ≡ y → P) → (Contains xs y → P) → Contains (x ∷ xs) y → P
  from_contains x xs y here later h = ⊎_elim (λ e. here (only_one x y e)) later (Contains-append_cases (x ∷ []) xs y h)

  pub from_both : {P : Type 0} (xs ys : List X) (y : X) → (Contains xs y → P) → (Contains ys y → P) → Contains (xs ++ ys) y → P
  from_both xs ys y one two h = ⊎_elim one two (Contains-append_cases xs ys y h)

  pub all_contained : (P : X → Type 0) (xs : List X) → ((x : X) → Contains xs x → P x) → All P xs
  all_contained P [] each = All-nil P
  all_contained P (x ∷ xs) each = All-cons P x xs (each x (contains_head x xs)) (all_contained P xs (λ y later. each y (contains_later x xs y later)))

  pub contains_slice_get : (xs : List X) (i : ℕ) (x : X) → slice_get xs i ≡ Some x → Contains xs x
  contains_slice_get xs i x at = (i, slice_get_within xs i x at, get_or_from_slice_get xs i x x at)

  -- tests

  pub from_any : {P : Type 0} (p : X → Bool) (xs : List X) → ((x : X) → Contains xs x → p x ≡ true → P) → list_any p xs ≡ true → P
  from_any p [] use_it e = cc
  from_any p (x ∷ xs) use_it e = either (p x) (list_any p xs) (use_it x (contains_head x xs)) (from_any p xs (λ y later. use_it y (contains_later x xs y later))) e

  pub any_contained : (p : X → Bool) (xs : List X) (x : X) → Contains xs x → p x ≡ true → list_any p xs ≡ true
  any_contained p [] x h e = contains_none x h
  any_contained p (y ∷ xs) x h e =
      from_contains y xs x
      (λ here. or_first (p y) (list_any p xs) (ap p here ∙ e))
      (λ later. or_second (p y) (list_any p xs) (any_contained p xs x later e))
      h

  pub all_pass_contained : (p : X → Bool) (xs : List X) → list_all p xs ≡ true → (x : X) → Contains xs x → p x ≡ true
  all_pass_contained p [] e x h = contains_none x h
  all_pass_contained p (y ∷ xs) e x h = from_contains y xs x (λ here. ap p (sym here) ∙ and_left (p y) (list_all p xs) e) (all_pass_contained p xs (and_right (p y) (list_all p xs) e) x) h

  pub contained_all_pass : (p : X → Bool) (xs : List X) → ((x : X) → Contains xs x → p x ≡ true) → list_all p xs ≡ true
  contained_all_pass p [] each = refl
  contained_all_pass p (x ∷ xs) each = and_both (p x) (list_all p xs) (each x (contains_head x xs)) (contained_all_pass p xs (λ y later. each y (contains_later x xs y later)))

  kept_if : (x : X) (xs : List X) (y : X) (b : Bool) → Contains xs y → Contains (cond b (x ∷ xs) xs) y
  kept_if x xs y true h = contains_later x xs y h
  kept_if x xs y false h = h

  pub contains-filter : (p : X → Bool) (xs : List X) (x : X) → Contains xs x → p x ≡ true → Contains (filter p xs) x
  contains-filter p [] x h e = h
  contains-filter p (y ∷ xs) x h e =
      from_contains y xs x
      (λ here. subst (λ (b : Bool). Contains (cond b (y ∷ filter p xs) (filter p xs)) x) (sym (ap p here ∙ e)) (subst (Contains (y ∷ filter p xs)) here (contains_head y (filter p xs))))
      (λ later. kept_if y (filter p xs) x (p y) (contains-filter p xs x later e))
      h

module _ {X Y : Type 0} where
  pub contains-map : (f : X → Y) (xs : List X) (x : X) → Contains xs x → Contains (map f xs) (f x)
  contains-map f [] x h = contains_none x h
  contains-map f (z ∷ xs) x h =
      from_contains z xs x
      (λ here. subst (λ (w : X). Contains (f z ∷ map f xs) (f w)) here (contains_head (f z) (map f xs)))
      (λ later. contains_later (f z) (map f xs) (f x) (contains-map f xs x later))
      h

  pub from_map : {P : Type 0} (f : X → Y) (xs : List X) (y : Y) → ((x : X) → Contains xs x → f x ≡ y → P) → Contains (map f xs) y → P
  from_map f [] y use_it h = contains_none y h
  from_map f (z ∷ xs) y use_it h = from_contains (f z) (map f xs) y (use_it z (contains_head z xs)) (from_map f xs y (λ x later. use_it x (contains_later z xs x later))) h

  pub contains-flat_map : (f : X → List Y) (xs : List X) (x : X) (y : Y) → Contains xs x → Contains (f x) y → Contains (flat_map f xs) y
  contains-flat_map f [] x y h g = contains_none x h
  contains-flat_map f (z ∷ xs) x y h g =
      from_contains z xs x
      (λ here. Contains-append_left (f z) (flat_map f xs) y (subst (λ (w : X). Contains (f w) y) (sym here) g))
      (λ later. Contains-append_right (f z) (flat_map f xs) y (contains-flat_map f xs x y later g))
      h

  pub from_flat_map : {P : Type 0} (f : X → List Y) (xs : List X) (y : Y) → ((x : X) → Contains xs x → Contains (f x) y → P) → Contains (flat_map f xs) y → P
  from_flat_map f [] y use_it h = contains_none y h
  from_flat_map f (z ∷ xs) y use_it h =
      from_both (f z) (flat_map f xs) y (use_it z (contains_head z xs)) (from_flat_map f xs y (λ x later. use_it x (contains_later z xs x later))) h

-- a filter keeps one of the sublists, and one of the choices where it keeps any

abbrev front : Formula → List Formula → List Formula
front f gs = f ∷ gs

kept_sublist : (f : Formula) (fs gs : List Formula) (b : Bool) → Contains (sublists fs) gs → Contains (sublists (f ∷ fs)) (cond b (f ∷ gs) gs)
kept_sublist f fs gs true h = Contains-append_left (map (front f) (sublists fs)) (sublists fs) (f ∷ gs) (contains-map (front f) (sublists fs) gs h)
kept_sublist f fs gs false h = Contains-append_right (map (front f) (sublists fs)) (sublists fs) gs h

pub filter_sublist : (p : Formula → Bool) (fs : List Formula) → Contains (sublists fs) (filter p fs)
filter_sublist p [] = contains_head [] []
filter_sublist p (f ∷ fs) = kept_sublist f fs (filter p fs) (p f) (filter_sublist p fs)

kept_choice : (f : Formula) (fs gs : List Formula) (b : Bool) → Contains (sublists fs) gs → (b ≡ false → Contains (choices fs) gs) → Contains (choices (f ∷ fs)) (cond b (f ∷ gs) gs)
kept_choice f fs gs true h g = Contains-append_left (map (front f) (sublists fs)) (choices fs) (f ∷ gs) (contains-map (front f) (sublists fs) gs h)
kept_choice f fs gs false h g = Contains-append_right (map (front f) (sublists fs)) (choices fs) gs (g refl)

left_over : (b c : Bool) → (b || c) ≡ true → b ≡ false → c ≡ true
left_over true c e d = cc
left_over false c e d = e

pub filter_choice : (p : Formula → Bool) (fs : List Formula) → list_any p fs ≡ true → Contains (choices fs) (filter p fs)
filter_choice p [] e = cc
filter_choice p (f ∷ fs) e = kept_choice f fs (filter p fs) (p f) (filter_sublist p fs) (λ out. filter_choice p fs (left_over (p f) (list_any p fs) e out))

-- the members of a sublist are members, and a choice has one

pub sublist_members : (fs gs : List Formula) → Contains (sublists fs) gs → (q : Formula) → is_in gs q ≡ true → is_in fs q ≡ true
sublist_members [] gs h q e =
    from_contains [] [] gs (λ here. ap (λ ks. is_in ks q) here ∙ e) (contains_none gs) h
sublist_members (f ∷ fs) gs h q e =
    from_both (map (front f) (sublists fs)) (sublists fs) gs
    (from_map (front f) (sublists fs) gs (λ ks at is.
    either (eq_by_cmp formula_cmp q f) (is_in ks q)
    (or_first (eq_by_cmp formula_cmp q f) (is_in fs q))
    (λ later. or_second (eq_by_cmp formula_cmp q f) (is_in fs q) (sublist_members fs ks at q later))
    (ap (λ js. is_in js q) is ∙ e)))
    (λ rest. or_second (eq_by_cmp formula_cmp q f) (is_in fs q) (sublist_members fs gs rest q e))
    h

pub choice_members : (fs gs : List Formula) → Contains (choices fs) gs → (q : Formula) → is_in gs q ≡ true → is_in fs q ≡ true
choice_members [] gs h q e = contains_none gs h
choice_members (f ∷ fs) gs h q e =
    from_both (map (front f) (sublists fs)) (choices fs) gs
    (λ with_first. sublist_members (f ∷ fs) gs (Contains-append_left (map (front f) (sublists fs)) (sublists fs) gs with_first) q e)
    (λ rest. or_second (eq_by_cmp formula_cmp q f) (is_in fs q) (choice_members fs gs rest q e))
    h

pub choice_has_one : {P : Type 0} (fs gs : List Formula) → ((q : Formula) → is_in gs q ≡ true → P) → Contains (choices fs) gs → P
choice_has_one [] gs use_it h = contains_none gs h
choice_has_one (f ∷ fs) gs use_it h =
    from_both (map (front f) (sublists fs)) (choices fs) gs
    (from_map (front f) (sublists fs) gs (λ ks at is. use_it f (ap (λ js. is_in js f) (sym is) ∙ or_first (eq_by_cmp formula_cmp f f) (is_in ks f) (tied f f refl))))
    (choice_has_one fs gs use_it)
    h
