-- Choices of a list's members.
use Rattle.std.proofs.Common.{◌≢◌, ◌<◌, List, [], ◌∷◌, ◌++◌, map, length, refl, arith}
use Rattle.std.specs.Prelude.{Contains}
use Rattle.std.specs.List.{All, AllByRecursion}
use Rattle.std.proofs.lemmas.List.Elements.{All-from_recursion, recursion_from_All, All-contains, All-contains_itself}
use Rattle.fol.specs.Syntax.{Formula}
use Rattle.clause_laws.specs.Choices.{sublists, choices}
use Rattle.clause_laws.proofs.Lists.{contains_head}
use Rattle.clause_laws.proofs.Sublists.{choices-sublists}

module _ {X : Type 0} (Q : X → Type 0) where
  both_each : (xs ys : List X) → AllByRecursion Q xs → AllByRecursion Q ys → AllByRecursion Q (xs ++ ys)
  both_each [] ys h k = k
  both_each (x ∷ xs) ys h k = (h.0, both_each xs ys h.1 k)

module _ (P : Formula → Type 0) where
  put_each : (f : Formula) → P f → (fss : List (List Formula)) → AllByRecursion (AllByRecursion P) fss → AllByRecursion (AllByRecursion P) (map (λ gs. f ∷ gs) fss)
  put_each f p [] h = tt
  put_each f p (fs ∷ fss) h = ((p, h.0), put_each f p fss h.1)

  sublists_each : (fs : List Formula) → AllByRecursion P fs → AllByRecursion (AllByRecursion P) (sublists fs)
  sublists_each [] h = (tt, tt)
  sublists_each (f ∷ fs) h = both_each (AllByRecursion P) (map (λ gs. f ∷ gs) (sublists fs)) (sublists fs) (put_each f h.0 (sublists fs) (sublists_each fs h.1)) (sublists_each fs h.1)

  choices_each : (fs : List Formula) → AllByRecursion P fs → AllByRecursion (AllByRecursion P) (choices fs)
  choices_each [] h = tt
  choices_each (f ∷ fs) h = both_each (AllByRecursion P) (map (λ gs. f ∷ gs) (sublists fs)) (choices fs) (put_each f h.0 (sublists fs) (sublists_each fs h.1)) (choices_each fs h.1)

  -- what holds of each member holds of each that is chosen
  pub chosen_each : (fs gs : List Formula) → All P fs → Contains (choices fs) gs → All P gs
  chosen_each fs gs h chosen =
      All-from_recursion P gs (All-contains (AllByRecursion P) (choices fs) gs (All-from_recursion (AllByRecursion P) (choices fs) (choices_each fs (recursion_from_All P fs h))) chosen)

pub some_chosen : (gs : List Formula) → gs ≢ [] → 0 < length gs
some_chosen [] apart = absurd (apart refl)
some_chosen (g ∷ gs) apart = omega arith

-- one that is chosen is a member
pub one_chosen : (fs gs : List Formula) → Contains (choices fs) gs → (f : Formula) × Contains gs f × Contains fs f
one_chosen fs [] chosen = absurd (((choices-sublists fs []).0 chosen).1 refl)
one_chosen fs (g ∷ gs) chosen = (g, contains_head g gs, All-contains (Contains fs) (g ∷ gs) g (chosen_each (Contains fs) fs (g ∷ gs) (All-contains_itself fs) chosen) (contains_head g gs))
