-- The step that is taken at a list: a rule without premises, or at one tree, which is replaced in each premise.
use Rattle.std.proofs.Common.{◌≡◌, List, [], ◌∷◌, ◌++◌, map, Option, Some, None, refl, subst, ◌∙◌}
use Rattle.std.specs.Prelude.{option_map}
use Rattle.std.specs.List.{AllByRecursion}
use Rattle.lk_rules.specs.declared.rule.Rule.{Rule}
use Rattle.building_laws.specs.Lists.{Placed, leaf_sequent, strongs_in_list}
use Rattle.building_laws.specs.Building.{Step, or_else, closing_rule, closing, parts, instance_at, within, first_step, step_at}
use Rattle.building_laws.proofs.Inside.{In, at_front, behind}
use Rattle.building_laws.proofs.Replaced.{Replaced, here, later}

pub some_same : {X : Type 0} (x y : X) → Some x ≡ Some y → x ≡ y
some_same x y e = cc

-- each list of the second kind is l with one of the first in place of p
abbrev pub AllReplaced : Placed → List Placed → List (List Placed) → List (List Placed) → Type 0
AllReplaced p l [] [] = Unit {0}
AllReplaced p l [] (m ∷ ms) = ⊥
AllReplaced p l (ps ∷ pss) [] = ⊥
AllReplaced p l (ps ∷ pss) (m ∷ ms) = Replaced p ps l m × AllReplaced p l pss ms

replaced_here : (p : Placed) (l : List Placed) (pss : List (List Placed)) → AllReplaced p (p ∷ l) pss (map (λ ps. ps ++ l) pss)
replaced_here p l [] = tt
replaced_here p l (ps ∷ pss) = (here l, replaced_here p l pss)

replaced_later : (p q : Placed) (l : List Placed) (pss ms : List (List Placed)) → AllReplaced p l pss ms → AllReplaced p (q ∷ l) pss (map (λ m. q ∷ m) ms)
replaced_later p q l [] [] h = tt
replaced_later p q l [] (m ∷ ms) h = absurd h
replaced_later p q l (ps ∷ pss) [] h = absurd h
replaced_later p q l (ps ∷ pss) (m ∷ ms) h = (later q l m h.0, replaced_later p q l pss ms h.1)

-- the step at a list is that of one of its trees
pub record IsTaken (at : Placed → Option Step) (l : List Placed) (t : Step) : Type 0 where
  pub tree : Placed
  pub inside : In tree l
  pub step : Step
  pub taken : at tree ≡ Some step
  pub rule : t.rule ≡ step.rule
  pub premises : AllReplaced tree l step.premises t.premises

module _ (at : Placed → Option Step) where
  pub first_taken : (l : List Placed) (t : Step) → first_step at l ≡ Some t → IsTaken at l t
  first_taken [] t e = cc
  first_taken (p ∷ l) t e =
      elim (at p) as (λ o. at p ≡ o → or_else (option_map (within (λ ps. ps ++ l)) o) (option_map (within (λ ps. p ∷ ps)) (first_step at l)) ≡ Some t → IsTaken at (p ∷ l) t) [
        | Some u ↦ λ h is. subst (IsTaken at (p ∷ l)) (some_same (within (λ ps. ps ++ l) u) t is) (record { tree = p; inside = at_front l; step = u; taken = h; rule = refl; premises = replaced_here p l u.premises })
        | None ↦ λ _. elim (first_step at l) as (λ o. first_step at l ≡ o → option_map (within (λ ps. p ∷ ps)) o ≡ Some t → IsTaken at (p ∷ l) t) [
          | None ↦ λ _ none. cc
          | Some u ↦ λ h is.
              let k : IsTaken at l u = first_taken l u h in
              subst (IsTaken at (p ∷ l)) (some_same (within (λ ps. p ∷ ps) u) t is)
              (record { tree = k.tree; inside = behind p l k.inside; step = k.step; taken = k.taken; rule = k.rule; premises = replaced_later k.tree p l k.step.premises u.premises k.premises })
        ] refl
      ] refl e

  -- where there is none, no tree has one
  pub none_taken : (l : List Placed) → first_step at l ≡ None → AllByRecursion (λ p. at p ≡ None) l
  none_taken [] e = tt
  none_taken (p ∷ l) e =
      elim (at p) as (λ o. at p ≡ o → or_else (option_map (within (λ ps. ps ++ l)) o) (option_map (within (λ ps. p ∷ ps)) (first_step at l)) ≡ None → AllByRecursion (λ q. at q ≡ None) (p ∷ l)) [
        | Some u ↦ λ _ some. cc
        | None ↦ λ h. elim (first_step at l) as (λ o. first_step at l ≡ o → option_map (within (λ ps. p ∷ ps)) o ≡ None → AllByRecursion (λ q. at q ≡ None) (p ∷ l)) [
          | None ↦ λ none _. (h, none_taken l none)
          | Some u ↦ λ _ some. cc
        ] refl
      ] refl e

-- the step at a list is without premises, or that at a tree, or that at an instance
pub step_cases : {P : Type 0} (l : List Placed) (t : Step) → ((r : Rule) → closing_rule (leaf_sequent l) ≡ Some r → closing r ≡ t → P) → (IsTaken parts l t → P) → (IsTaken (instance_at (strongs_in_list l)) l t → P)
    → step_at l ≡ Some t → P
unfolding step_at
step_cases {P} l t closes apart chosen e =
    elim (closing_rule (leaf_sequent l)) as (λ o. closing_rule (leaf_sequent l) ≡ o → or_else (option_map closing o) (or_else (first_step parts l) (first_step (instance_at (strongs_in_list l)) l)) ≡ Some t → P) [
      | Some r ↦ λ h is. closes r h (some_same (closing r) t is)
      | None ↦ λ _. elim (first_step parts l) as (λ o. first_step parts l ≡ o → or_else o (first_step (instance_at (strongs_in_list l)) l) ≡ Some t → P) [
        | Some u ↦ λ h is. apart (first_taken parts l t (h ∙ is))
        | None ↦ λ _ is. chosen (first_taken (instance_at (strongs_in_list l)) l t is)
      ] refl
    ] refl e

-- where there is no step, none of the three is there
pub record IsStuck (l : List Placed) : Type 0 where
  pub open_leaves : closing_rule (leaf_sequent l) ≡ None
  pub whole : AllByRecursion (λ p. parts p ≡ None) l
  pub unready : AllByRecursion (λ p. instance_at (strongs_in_list l) p ≡ None) l

pub no_step : (l : List Placed) → step_at l ≡ None → IsStuck l
unfolding step_at
no_step l e =
    elim (closing_rule (leaf_sequent l)) as (λ o. closing_rule (leaf_sequent l) ≡ o → or_else (option_map closing o) (or_else (first_step parts l) (first_step (instance_at (strongs_in_list l)) l)) ≡ None → IsStuck l) [
      | Some r ↦ λ _ is. cc
      | None ↦ λ h. elim (first_step parts l) as (λ o. first_step parts l ≡ o → or_else o (first_step (instance_at (strongs_in_list l)) l) ≡ None → IsStuck l) [
        | Some u ↦ λ _ is. cc
        | None ↦ λ none is. record { open_leaves = h; whole = none_taken parts l none; unready = none_taken (instance_at (strongs_in_list l)) l is }
      ] refl
    ] refl e
