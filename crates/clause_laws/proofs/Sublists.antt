-- The choices are the sublists that aren't empty, and how the sublists grow at either end.
use Rattle.std.proofs.Common.{◌≡◌, ◌↔◌, List, [], ◌∷◌, ◌++◌, map, sym, ap, subst, ◌∙◌, ◌⊎◌, inl, inr, ⊎_elim}
use Rattle.std.specs.Prelude.{Contains}
use Rattle.std.proofs.lemmas.List.Elements.{Contains-append_left, Contains-append_right}
use Rattle.fol.specs.Syntax.{Formula}
use Rattle.clause_laws.specs.Choices.{sublists, choices}
use Rattle.clause_laws.proofs.Lists.{contains_head, contains_none, from_contains, from_both, contains-map, from_map}

abbrev front : Formula → List Formula → List Formula
front f gs = f ∷ gs

-- with a formula in front

pub with_front : (f : Formula) (fs gs : List Formula) → Contains (sublists fs) gs → Contains (sublists (f ∷ fs)) (f ∷ gs)
with_front f fs gs h = Contains-append_left (map (front f) (sublists fs)) (sublists fs) (f ∷ gs) (contains-map (front f) (sublists fs) gs h)

pub without_front : (f : Formula) (fs gs : List Formula) → Contains (sublists fs) gs → Contains (sublists (f ∷ fs)) gs
without_front f fs gs h = Contains-append_right (map (front f) (sublists fs)) (sublists fs) gs h

-- choices

choice_sublist : (fs gs : List Formula) → Contains (choices fs) gs → Contains (sublists fs) gs
choice_sublist [] gs h = contains_none gs h
choice_sublist (f ∷ fs) gs h =
    from_both (map (front f) (sublists fs)) (choices fs) gs
    (Contains-append_left (map (front f) (sublists fs)) (sublists fs) gs)
    (λ later. without_front f fs gs (choice_sublist fs gs later))
    h

choice_not_empty : (fs gs : List Formula) → Contains (choices fs) gs → gs ≡ [] → ⊥
choice_not_empty [] gs h none = contains_none gs h
choice_not_empty (f ∷ fs) gs h none =
    from_both (map (front f) (sublists fs)) (choices fs) gs
    (from_map (front f) (sublists fs) gs (λ ks at is. let no : f ∷ ks ≡ [] = is ∙ none in cc))
    (λ later. choice_not_empty fs gs later none)
    h

sublist_choice : (fs gs : List Formula) → Contains (sublists fs) gs → (gs ≡ [] → ⊥) → Contains (choices fs) gs
sublist_choice [] gs h some = from_contains [] [] gs (λ here. absurd (some (sym here))) (contains_none gs) h
sublist_choice (f ∷ fs) gs h some =
    from_both (map (front f) (sublists fs)) (sublists fs) gs
    (Contains-append_left (map (front f) (sublists fs)) (choices fs) gs)
    (λ later. Contains-append_right (map (front f) (sublists fs)) (choices fs) gs (sublist_choice fs gs later some))
    h

pub choices-sublists : (fs gs : List Formula) → Contains (choices fs) gs ↔ (Contains (sublists fs) gs × (gs ≡ [] → ⊥))
choices-sublists fs gs = (λ h. (choice_sublist fs gs h, choice_not_empty fs gs h), λ both. sublist_choice fs gs both.0 both.1)

-- with a formula at the end

abbrev EndsIn : List Formula → Formula → List Formula → Type 0
EndsIn fs f hs = (gs : List Formula) × Contains (sublists fs) gs × (hs ≡ gs ++ f ∷ [])

grown : (fs : List Formula) (f : Formula) (hs : List Formula) → Contains (sublists (fs ++ f ∷ [])) hs → Contains (sublists fs) hs ⊎ EndsIn fs f hs
grown [] f hs h =
    from_contains (f ∷ []) ([] ∷ []) hs
    (λ here. inr ([], contains_head [] [], sym here))
    inl
    h
grown (g ∷ fs) f hs h =
    from_both (map (front g) (sublists (fs ++ f ∷ []))) (sublists (fs ++ f ∷ [])) hs
    (from_map (front g) (sublists (fs ++ f ∷ [])) hs (λ ks at is.
    ⊎_elim
    (λ old. inl (subst (Contains (sublists (g ∷ fs))) is (with_front g fs ks old)))
    (λ (e : EndsIn fs f ks). inr (g ∷ e.0, with_front g fs e.0 e.1, sym is ∙ ap (front g) e.2))
    (grown fs f ks at)))
    (λ later.
    ⊎_elim
    (λ old. inl (without_front g fs hs old))
    (λ (e : EndsIn fs f hs). inr (e.0, without_front g fs e.0 e.1, e.2))
    (grown fs f hs later))
    h

stays : (fs : List Formula) (f : Formula) (hs : List Formula) → Contains (sublists fs) hs → Contains (sublists (fs ++ f ∷ [])) hs
stays [] f hs h = without_front f [] hs h
stays (g ∷ fs) f hs h =
    from_both (map (front g) (sublists fs)) (sublists fs) hs
    (from_map (front g) (sublists fs) hs (λ ks at is. subst (Contains (sublists ((g ∷ fs) ++ f ∷ []))) is (with_front g (fs ++ f ∷ []) ks (stays fs f ks at))))
    (λ later. without_front g (fs ++ f ∷ []) hs (stays fs f hs later))
    h

ended : (fs : List Formula) (f : Formula) (gs : List Formula) → Contains (sublists fs) gs → Contains (sublists (fs ++ f ∷ [])) (gs ++ f ∷ [])
ended [] f gs h = from_contains [] [] gs (λ here. subst (λ (ks : List Formula). Contains (sublists (f ∷ [])) (ks ++ f ∷ [])) here (with_front f [] [] (contains_head [] []))) (contains_none gs) h
ended (g ∷ fs) f gs h =
    from_both (map (front g) (sublists fs)) (sublists fs) gs
    (from_map (front g) (sublists fs) gs (λ ks at is. subst (λ (js : List Formula). Contains (sublists ((g ∷ fs) ++ f ∷ [])) (js ++ f ∷ [])) is (with_front g (fs ++ f ∷ []) (ks ++ f ∷ []) (ended fs f ks at))))
    (λ later. without_front g (fs ++ f ∷ []) (gs ++ f ∷ []) (ended fs f gs later))
    h

pub sublists-grown : (fs : List Formula) (f : Formula) (hs : List Formula) → Contains (sublists (fs ++ f ∷ [])) hs ↔ (Contains (sublists fs) hs ⊎ ((gs : List Formula) × Contains (sublists fs) gs × (hs ≡ gs ++ f ∷ [])))
sublists-grown fs f hs = (
  grown fs f hs,
  ⊎_elim (stays fs f hs) (λ (e : EndsIn fs f hs). subst (Contains (sublists (fs ++ f ∷ []))) (sym e.2) (ended fs f e.0 e.1)),
)
