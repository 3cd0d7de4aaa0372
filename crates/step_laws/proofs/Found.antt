-- The first formula that is looked for, and what it means that there is none.
use Rattle.std.proofs.Common.{◌≡◌, Bool, true, false, ◌||◌, cond, List, [], ◌∷◌, Option, Some, None, refl, subst}
use Rattle.std.specs.Prelude.{◌↔◌}
use Rattle.std.specs.List.{All, find, list_any}
use Rattle.std.proofs.lemmas.List.Elements.{All-head, All-tail}
use Rattle.fol.specs.Syntax.{Formula}
use Rattle.fol.specs.Facts.{has_body}
use Rattle.fol.specs.Formed.{IsFormed}
use Rattle.finite.specs.Finite as set
use Rattle.lk_rules.specs.declared.sequent.Sequent.{Sequent}
use Rattle.proof_trees.specs.Occurrence.{has_body_in_sequent}
use Rattle.step_laws.specs.Faults.{on_sides, first_defined}

-- nothing is found exactly where nothing passes
pub find_none : {X : Type 0} (p : X → Bool) (xs : List X) → find p xs ≡ None → list_any p xs ≡ false
find_none p [] h = refl
find_none p (x ∷ xs) h =
    elim (p x) as (λ b. cond b (Some x) (find p xs) ≡ None → (b || list_any p xs) ≡ false) [
      | true ↦ λ e. cc
      | false ↦ λ e. find_none p xs e
    ] h

pub none_found : {X : Type 0} (p : X → Bool) (xs : List X) → list_any p xs ≡ false → find p xs ≡ None
none_found p [] h = refl
none_found p (x ∷ xs) h =
    elim (p x) as (λ b. (b || list_any p xs) ≡ false → cond b (Some x) (find p xs) ≡ None) [
      | true ↦ λ e. cc
      | false ↦ λ e. none_found p xs e
    ] h

-- nothing is found on either side
pub sides_none : (l r : Option Formula) → on_sides l r ≡ None → (l ≡ None) × (r ≡ None)
sides_none (Some f) r h = absurd (cc)
sides_none None (Some g) h = absurd (cc)
sides_none None None h = (refl, refl)

or_none : (a b : Bool) → (a || b) ≡ false → (a ≡ false) × (b ≡ false)
or_none true b h = absurd (cc)
or_none false b h = (refl, h)

-- no formula has a body exactly where the sequent has none
pub plain_found : (s : Sequent) → (first_defined s ≡ None) ↔ (has_body_in_sequent s ≡ false)
plain_found s = (
  λ h. let both = sides_none (find has_body (set.listing s.left)) (find has_body (set.listing s.right)) h in
      λ i. find_none has_body (set.listing s.left) both.0 i || find_none has_body (set.listing s.right) both.1 i,
  λ h. let both = or_none (list_any has_body (set.listing s.left)) (list_any has_body (set.listing s.right)) h in
      λ i. on_sides (none_found has_body (set.listing s.left) both.0 i) (none_found has_body (set.listing s.right) both.1 i),
)

-- what is found in a list of well-formed formulas is well formed
pub found_formed : (p : Formula → Bool) (fs : List Formula) (f : Formula) → All IsFormed fs → find p fs ≡ Some f → IsFormed f
found_formed p [] f h e = cc
found_formed p (g ∷ fs) f h e =
    elim (p g) as (λ b. cond b (Some g) (find p fs) ≡ Some f → IsFormed f) [
      | true ↦ λ found. let same : g ≡ f = cc in subst (λ (x : Formula). IsFormed x) same (All-head IsFormed g fs h)
      | false ↦ λ found. found_formed p fs f (All-tail IsFormed g fs h) found
    ] e
