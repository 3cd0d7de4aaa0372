-- A variable of an instance term above a strong quantifier has a lower number than that quantifier's variable.
use Rattle.std.proofs.Common.{◌≡◌, ◌⊎◌, inl, inr, ℕ, ◌<◌, Bool, true, false, ◌&&◌, ◌||◌, List, [], ◌∷◌, refl, sym, ap, subst}
use Rattle.std.specs.Ordering.{eq_by_cmp}
use Rattle.fol.specs.declared.symbols.Var.{Var}
use Rattle.fol.specs.Syntax.{Term, free, all, ex}
use Rattle.fol.specs.Order.{var_cmp}
use Rattle.free_variables.specs.Fresh.{is_among}
use Rattle.free_variables.specs.Occurrence.{is_free_in_term}
use Rattle.substitution.proofs.ImageLaws.{same_var}
use Rattle.finite.specs.Finite as set
use Rattle.lk_rules.specs.declared.sequent.Side.TheVariants.{Left, Right}
use Rattle.lk_rules.proofs.Subsequents.{and_left, and_right}
use Rattle.proof_trees.proofs.Booleans.{either}
use Rattle.search_laws.proofs.Tests.{clash}
use Rattle.expansion_laws.specs.Expansions.{Exp}
use Rattle.expansion_laws.specs.Dependency.{is_above, is_above_in}
use Rattle.extraction_laws.specs.Addresses.{Address, part, via, is_listed, formula_at, side_at}
use Rattle.extraction_laws.specs.States.{State, instances_by, terms_at, if_opened, strong_at, place_of, nth_outside, number_of, variable_at, tree_at}
use Rattle.extraction_laws.proofs.Built.{of_tree, on_each_side}
use Rattle.extraction_laws.proofs.Grades.{Rises, at_each}
use Rattle.extraction_laws.proofs.Paths.{From, from_itself, from_part, from_via, on_path, stays_on_path}
use Rattle.extraction_laws.proofs.Proper.{Proper}
use Rattle.extraction_laws.proofs.Strongs.{strong_given}
use Rattle.extraction_laws.proofs.Unrolled.{of_part, of_instance, tree-flat, tree-not, tree-and, tree-or, tree-imp, tree-all, tree-ex}
use Rattle.extraction_laws.proofs.Variables.{nth_rises}

module _ (vs : List Var) (st : State) (proper : Proper vs st) (y z : Var) where
  abbrev tree : Address → Exp
  tree = tree_at vs st

  -- z is the variable of an address that is reached from a, and y is on the path to that; or it was above already
  pub record Above (above : Bool) (a : Address) : Type 0 where
    pub at : Address
    pub from : From a at
    pub given : is_listed at st.names ≡ true
    pub variable : z ≡ variable_at vs st at
    pub earlier : (above ≡ true) ⊎ (on_path y at ≡ true)

  above_part : (above : Bool) (a : Address) (i : ℕ) → Above above (part a i) → Above above a
  above_part above a i p = record { at = p.at; from = from_part a i p.at p.from; given = p.given; variable = p.variable; earlier = p.earlier }

  above_instance : (above : Bool) (a : Address) (t : Term) → Above above (via a t) → Above above a
  above_instance above a t p = record { at = p.at; from = from_via a t p.at p.from; given = p.given; variable = p.variable; earlier = p.earlier }

  -- y may be in the term of the instance
  above_term : (above : Bool) (a : Address) (t : Term) → Above (above || is_free_in_term y t) (via a t) → Above above (via a t)
  above_term above a t p = record { at = p.at; from = p.from; given = p.given; variable = p.variable; earlier = sooner p.earlier } where
    sooner : ((above || is_free_in_term y t) ≡ true) ⊎ (on_path y p.at ≡ true) → (above ≡ true) ⊎ (on_path y p.at ≡ true)
    sooner (inr e) = inr e
    sooner (inl e) = either above (is_free_in_term y t) (λ h. inl h) (λ h. inr (stays_on_path y (via a t) p.at p.from (lemma h))) e where
      lemma : is_free_in_term y t ≡ true → (is_free_in_term y t || on_path y a) ≡ true
      lemma h = ap (λ b. b || on_path y a) h

  abbrev Ordered : Address → Type 0
  Ordered a = (above : Bool) → is_above y z above (tree a) ≡ true → Above above a

  ordered_at : (a : Address) (e : Exp) → tree a ≡ if_opened st a e → (set.has st.opened a ≡ true → (above : Bool) → is_above y z above e ≡ true → Above above a) → Ordered a
  ordered_at a e is here = of_tree vs st (λ x. (above : Bool) → is_above y z above x ≡ true → Above above a) a e is (λ above h. cc) here

  of_two : (a : Address) → Ordered (part a 0) → Ordered (part a 1) → (above : Bool) → (is_above y z above (of_part vs st a 0) || is_above y z above (of_part vs st a 1)) ≡ true → Above above a
  of_two a first second above =
      either (is_above y z above (of_part vs st a 0)) (is_above y z above (of_part vs st a 1))
      (λ h. above_part above a 0 (first above h))
      (λ h. above_part above a 1 (second above h))

  of_instances : (a : Address) → ((t : Term) → Ordered (via a t)) → (above : Bool) (ts : List Term) → is_above_in y z above (instances_by (of_instance vs st a) ts) ≡ true → Above above a
  of_instances a each above [] h = cc
  of_instances a each above (t ∷ ts) h =
      either (is_above y z (above || is_free_in_term y t) (of_instance vs st a t)) (is_above_in y z above (instances_by (of_instance vs st a) ts))
      (λ e. above_instance above a t (above_term above a t (each t (above || is_free_in_term y t) e)))
      (of_instances a each above ts)
      h

  of_strong : (a : Address) → is_listed a st.names ≡ true → ((t : Term) → Ordered (via a t)) → (above : Bool) → is_above y z above (strong_at vs st a (of_instance vs st a)) ≡ true → Above above a
  of_strong a there each above =
      let v : Var = variable_at vs st a in
      either (above && eq_by_cmp var_cmp v z) (is_above y z above (of_instance vs st a (free v)))
      (λ e. record { at = a; from = from_itself a; given = there; variable = sym (same_var v z (and_right above _ e)); earlier = inl (and_left above _ e) })
      (λ e. above_instance above a (free v) (each (free v) above e))

  ordering : Rises Ordered
  ordering = record {
    flat = λ a h. ordered_at a _ (tree-flat vs st (formula_at a) a refl h) (λ _ above e. cc);
    negation = λ a f e h. ordered_at a _ (tree-not vs st f a e) (λ _ above k. above_part above a 0 (h above k));
    conjunction = λ a f g e h k. ordered_at a _ (tree-and vs st f g a e) (λ _. of_two a h k);
    disjunction = λ a f g e h k. ordered_at a _ (tree-or vs st f g a e) (λ _. of_two a h k);
    implication = λ a f g e h k. ordered_at a _ (tree-imp vs st f g a e) (λ _. of_two a h k);
    universal = λ a f e h. ordered_at a _ (tree-all vs st f a e) (λ used. on_each_side (λ x. (above : Bool) → is_above y z above x ≡ true → Above above a) (side_at a) _ _
        (λ _ above. of_instances a h above (terms_at st a))
        (λ s. of_strong a (strong_given vs st proper a Right (all f) e s refl used) h));
    existential = λ a f e h. ordered_at a _ (tree-ex vs st f a e) (λ used. on_each_side (λ x. (above : Bool) → is_above y z above x ≡ true → Above above a) (side_at a) _ _
        (λ s. of_strong a (strong_given vs st proper a Left (ex f) e s refl used) h)
        (λ _ above. of_instances a h above (terms_at st a)));
  }

  -- so a variable outside the list has a lower number
  lower : (a : Address) → Above false a → is_among y vs ≡ false → number_of y < number_of z
  lower a p out = of_earlier p.earlier where
    of_earlier : (false ≡ true) ⊎ (on_path y p.at ≡ true) → number_of y < number_of z
    of_earlier (inl e) = cc
    of_earlier (inr e) = of_before (proper.ordered p.at p.given y e) where
      of_before : (is_among y vs ≡ true) ⊎ ((k : ℕ) × ((k < place_of p.at st.names) × (y ≡ nth_outside vs k))) → number_of y < number_of z
      of_before (inl h) = clash (is_among y vs) h out
      of_before (inr h) =
          subst (λ v. number_of v < number_of z) (sym h.1.1)
          (subst (λ v. number_of (nth_outside vs h.0) < number_of v) (sym p.variable) (nth_rises vs h.0 (place_of p.at st.names) h.1.0))

  pub lower-tree : (a : Address) → is_above y z false (tree_at vs st a) ≡ true → is_among y vs ≡ false → number_of y < number_of z
  lower-tree a h out = lower a (at_each Ordered ordering a false h) out
