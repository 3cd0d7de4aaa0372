-- What the names of a list are given, name by name.
use Rattle.std.proofs.Common.{◌≡◌, ℕ, ◌+◌, ◌<◌, ◌≤◌, Bool, true, false, List, [], ◌∷◌, ◌++◌, length, get_or, drop, map, refl, sym, ap, ◌∙◌, subst, append_assoc, append-nil, drop-cons, add-one, suc, arith}
use Rattle.std.proofs.lemmas.List.{drop_all}
use Rattle.fol.specs.Syntax.{Pred}
use Rattle.operation_laws.specs.Given.{Found, missing, wanting, found, definition_given, both, in_front, definitions_given}
use Rattle.held_values.specs.declared.held.Held.{Held}
use Rattle.held_values.specs.Means.{sense}
use Rattle.operations.specs.declared.answers.Absent.{Absent}
use Rattle.operations.specs.declared.answers.Absent.TheVariants as absent
use Rattle.operations.specs.Means.{FindsNone}

-- what all names are given, by what those before a place are given (`wants`: one of their jobs wanted memory) and what the others are
pub behind : Bool → List Pred → Found (List Pred) → Found (List Pred)
behind wants ds (missing r) = missing r
behind wants ds wanting = wanting
behind true ds (found es) = wanting
behind false ds (found es) = found (ds ++ es)

pub behind_none : (f : Found (List Pred)) → f ≡ behind false [] f
unfolding behind
behind_none (missing r) = refl
behind_none wanting = refl
behind_none (found es) = refl

-- one more name is given a definition
behind_found : (wants : Bool) (ds : List Pred) (d : Pred) (rest : Found (List Pred)) → behind wants ds (in_front (both (found d) rest)) ≡ behind wants (ds ++ d ∷ []) rest
unfolding behind
behind_found wants ds d (missing r) = refl
behind_found wants ds d wanting = refl
behind_found true ds d (found es) = refl
behind_found false ds d (found es) = ap found (sym (append_assoc ds (d ∷ []) es))

-- the job of one more name wanted memory
behind_wanting : (wants : Bool) (ds : List Pred) (rest : Found (List Pred)) → behind wants ds (in_front (both wanting rest)) ≡ behind true ds rest
unfolding behind
behind_wanting wants ds (missing r) = refl
behind_wanting wants ds wanting = refl
behind_wanting wants ds (found es) = refl

-- one more name has a fault
behind_fault : (wants : Bool) (ds : List Pred) (a : Absent) (f : Found Pred) (rest : Found (List Pred)) → FindsNone a f → (a ≡ absent.Wanting → ⊥)
    → FindsNone a (behind wants ds (in_front (both f rest)))
unfolding behind
behind_fault wants ds (absent.Refused r) f rest is other = subst (λ x. FindsNone (absent.Refused r) (behind wants ds (in_front (both x rest)))) (sym is) refl
behind_fault wants ds absent.Unnamed (missing r) rest shows other = shows
behind_fault wants ds absent.Unnamed wanting rest shows other = absurd shows
behind_fault wants ds absent.Unnamed (found d) rest shows other = absurd shows
behind_fault wants ds absent.Wanting f rest is other = absurd (other refl)
behind_fault wants ds absent.Unmade f rest is other = elim is [ ]

-- after some names, of those of a list
pub record AreGivenTo (texts : List (List ℕ)) (hs : List Held) (i : ℕ) (wants : Bool) (ds : List Pred) : Type 0 where
  pub is : definitions_given texts (map sense hs) ≡ behind wants ds (definitions_given (drop i texts) (map sense (drop i hs)))

pub given_first : (texts : List (List ℕ)) (hs : List Held) → AreGivenTo texts hs 0 false []
given_first texts hs = record { is = behind_none (definitions_given texts (map sense hs)) }

module _ (texts : List (List ℕ)) (hs : List Held) (i : ℕ) (wants : Bool) (ds : List Pred) (so_far : AreGivenTo texts hs i wants ds)
    (text : List ℕ) (h : Held) (within : i < length texts) (as_many : length hs ≡ length texts) (at : text ≡ get_or texts i text) (held_at : h ≡ get_or hs i h) where
  abbrev others : Found (List Pred)
  others = definitions_given (drop (i + 1) texts) (map sense (drop (i + 1) hs))

  given_here : definitions_given texts (map sense hs) ≡ behind wants ds (in_front (both (definition_given text (sense h)) others))
  given_here =
      so_far.is
      ∙ (λ k. behind wants ds (definitions_given (texts_here k) (map sense (held_here k))))
    where
      texts_here : drop i texts ≡ text ∷ drop (i + 1) texts
      texts_here = rw add-one (drop-cons texts i text within ∙ ap (λ y. y ∷ drop (suc i) texts) (sym at))

      held_here : drop i hs ≡ h ∷ drop (i + 1) hs
      held_here = rw add-one (drop-cons hs i h (omega (arith, within, as_many)) ∙ ap (λ y. y ∷ drop (suc i) hs) (sym held_at))

  pub given_next : (d : Pred) → definition_given text (sense h) ≡ found d → AreGivenTo texts hs (i + 1) wants (ds ++ d ∷ [])
  given_next d is =
      record { is = given_here ∙ (ap (λ f. behind wants ds (in_front (both f others))) is ∙ behind_found wants ds d others) }

  pub given_want : definition_given text (sense h) ≡ wanting → AreGivenTo texts hs (i + 1) true ds
  given_want is = record { is = given_here ∙ (ap (λ f. behind wants ds (in_front (both f others))) is ∙ behind_wanting wants ds others) }

  pub given_more : (d : Pred) → definition_given text (sense h) ≡ found d → (b : Bool) → b ≡ wants → (es : List Pred) × AreGivenTo texts hs (i + 1) b es
  given_more d is b same = (ds ++ d ∷ [], subst (λ w. AreGivenTo texts hs (i + 1) w (ds ++ d ∷ [])) (sym same) (given_next d is))

  pub given_wanted : definition_given text (sense h) ≡ wanting → (b : Bool) → b ≡ true → (es : List Pred) × AreGivenTo texts hs (i + 1) b es
  given_wanted is b same = (ds, subst (λ w. AreGivenTo texts hs (i + 1) w ds) (sym same) (given_want is))

  pub given_fault : (a : Absent) → FindsNone a (definition_given text (sense h)) → (a ≡ absent.Wanting → ⊥) → FindsNone a (definitions_given texts (map sense hs))
  given_fault a none other = subst (FindsNone a) (sym given_here) (behind_fault wants ds a (definition_given text (sense h)) others none other)

-- after all names
pub given_all : (texts : List (List ℕ)) (hs : List Held) (i : ℕ) (ds : List Pred) → length texts ≤ i → AreGivenTo texts hs i false ds
    → definitions_given texts (map sense hs) ≡ found ds
unfolding behind
given_all texts hs i ds all so_far =
    so_far.is ∙ (ap (λ ts. behind false ds (definitions_given ts (map sense (drop i hs)))) (drop_all i texts all) ∙ ap found (append-nil ds))

pub wanted_all : (texts : List (List ℕ)) (hs : List Held) (i : ℕ) (ds : List Pred) → length texts ≤ i → AreGivenTo texts hs i true ds
    → definitions_given texts (map sense hs) ≡ wanting
unfolding behind
wanted_all texts hs i ds all so_far =
    so_far.is ∙ ap (λ ts. behind true ds (definitions_given ts (map sense (drop i hs)))) (drop_all i texts all)
