-- States in which each strong quantifier that is used has its variable, and the variables on the path to one are given before its own or
-- stand in the proof.
use Rattle.std.proofs.Common.{◌≡◌, ◌⊎◌, inl, inr, ℕ, ◌<◌, true, false, List, length, sym, ap, subst, ◌∙◌}
use Rattle.fol.specs.declared.symbols.Var.{Var}
use Rattle.fol.specs.Syntax.{Term, free}
use Rattle.free_variables.specs.Fresh.{is_among}
use Rattle.free_variables.specs.Occurrence.{is_free_in_term}
use Rattle.finite.specs.Finite as set
use Rattle.proof_trees.proofs.Booleans.{either}
use Rattle.search_laws.proofs.Tests.{split, clash}
use Rattle.substitution.proofs.ImageLaws.{same_var}
use Rattle.expansion_laws.specs.Proofs.{is_strong_on}
use Rattle.extraction_laws.specs.Addresses.{Address, via, is_listed, formula_at, side_at}
use Rattle.extraction_laws.specs.States.{State, with_address, opened, instantiated, named, place_of, nth_outside, variable_at, Includes}
use Rattle.extraction_laws.proofs.Marks.{stays_listed, is_there, old_or_new, old_or_marked, place_stays, own_place, place_below, place_outside}
use Rattle.extraction_laws.proofs.Paths.{on_path}

module _ (vs : List Var) where
  -- y is in the list or is one of the first n variables outside it
  abbrev pub Before : ℕ → Var → Type 0
  Before n y = (is_among y vs ≡ true) ⊎ ((k : ℕ) × ((k < n) × (y ≡ nth_outside vs k)))

  -- y is in the list or is the variable of an address that has got one
  abbrev pub Known : State → Var → Type 0
  Known st y = (is_among y vs ≡ true) ⊎ ((b : Address) × ((is_listed b st.names ≡ true) × (y ≡ variable_at vs st b)))

  -- so is each variable on the path
  abbrev pub KnownPath : State → Address → Type 0
  KnownPath st a = (y : Var) → on_path y a ≡ true → Known st y

  pub known_later : (x y : State) → Includes x y → (v : Var) → Known x v → Known y v
  known_later x y h v (inl e) = inl e
  known_later x y h v (inr e) = inr (e.0, (h.names e.0 e.1.0, e.1.1 ∙ ap (nth_outside vs) (sym (h.places e.0 e.1.0))))

  pub path_later : (x y : State) → Includes x y → (a : Address) → KnownPath x a → KnownPath y a
  path_later x y h a known v e = known_later x y h v (known v e)

  before_all : (st : State) (y : Var) → Known st y → Before (length st.names) y
  before_all st y (inl e) = inl e
  before_all st y (inr e) = inr (place_of e.0 st.names, (place_below e.0 st.names e.1.0, e.1.1))

  pub record Proper (st : State) : Type 0 where
    pub strong_named : (a : Address) → set.has st.opened a ≡ true → is_strong_on (side_at a) (formula_at a) ≡ true → is_listed a st.names ≡ true
    pub ordered : (a : Address) → is_listed a st.names ≡ true → (y : Var) → on_path y a ≡ true → Before (place_of a st.names) y

  -- marks that keep a state so

  pub proper_opened : (a : Address) (st : State) → Proper st → (is_strong_on (side_at a) (formula_at a) ≡ true → is_listed a st.names ≡ true) → Proper (opened a st)
  proper_opened a st p h = record {
    strong_named = λ b there strong. old_or_marked st.opened b a
        (λ old. p.strong_named b old strong)
        (λ new. subst (λ c. is_listed c st.names ≡ true) (sym new) (h (ap (λ c. is_strong_on (side_at c) (formula_at c)) (sym new) ∙ strong)))
        there;
    ordered = p.ordered;
  }

  pub proper_instantiated : (a : Address) (t : Term) (st : State) → Proper st → Proper (instantiated a t st)
  proper_instantiated a t st p = record { strong_named = p.strong_named; ordered = p.ordered }

  pub proper_named : (a : Address) (st : State) → Proper st → KnownPath st a → Proper (named a st)
  proper_named a st p known = record {
    strong_named = λ b there strong. stays_listed b a st.names (p.strong_named b there strong);
    ordered = λ b there. place_before b there (split (is_listed b st.names) (λ e. inl e) (λ e. inr e));
  } where
    place_before : (b : Address) → is_listed b (with_address st.names a) ≡ true → (is_listed b st.names ≡ true) ⊎ (is_listed b st.names ≡ false) → (y : Var) → on_path y b ≡ true → Before (place_of b (with_address st.names a)) y
    place_before b there (inl old) y e = subst (λ n. Before n y) (sym (place_stays b a st.names old)) (p.ordered b old y e)
    place_before b there (inr new) y e =
        let same : b ≡ a = old_or_new b a st.names (λ old. clash (is_listed b st.names) old new) (λ is. is) there in
        subst (λ n. Before n y)
        (sym (ap (λ c. place_of b (with_address st.names c)) (sym same) ∙ (own_place b st.names ∙ place_outside b st.names new)))
        (before_all st y (known y (ap (on_path y) (sym same) ∙ e)))

  -- a strong quantifier at an address is used, and has its variable
  pub proper_strong : (a : Address) (st : State) → Proper st → KnownPath st a → Proper (named a (opened a st))
  proper_strong a st p known = proper_opened a (named a st) (proper_named a st p known) (λ _. is_there a st.names)

  -- at an address with a path as before
  pub known_instance : (a : Address) (t : Term) (st : State) → KnownPath st a → ((y : Var) → is_free_in_term y t ≡ true → Known st y) → KnownPath st (via a t)
  known_instance a t st known of_term y = either (is_free_in_term y t) (on_path y a) (of_term y) (known y)

  -- the variable of an address that has got one is known
  pub known_variable : (a : Address) (st : State) → is_listed a st.names ≡ true → (y : Var) → is_free_in_term y (free (variable_at vs st a)) ≡ true → Known st y
  known_variable a st there y e = inr (a, (there, same_var y (variable_at vs st a) e))
