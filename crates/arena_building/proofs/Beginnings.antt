-- A list whose first instance has a closed term: that is ready, whatever the variables are.
use Rattle.std.proofs.Common.{◌≡◌, ℕ, suc, Bool, true, false, cond, List, [], ◌∷◌, Some, None, refl, sym, ap, subst, ◌∙◌}
use Rattle.std.specs.Prelude.{not, if◌then◌else◌, option_map, is_some}
use Rattle.std.specs.Option.{unwrap_or}
use Rattle.std.specs.List.{list_any, slice_get}
use Rattle.fol.specs.Syntax.{Term}
use Rattle.fol.specs.Facts.{is_term_open}
use Rattle.finite.specs.Finite as set
use Rattle.free_variables.specs.Sets.{VarSet}
use Rattle.free_variables.proofs.ShutLaws.{list-shut_term}
use Rattle.expansion_laws.specs.Expansions.{Exp, wk, leaf, neg, conj, disj, impl, weak, strong, Insts, none, more}
use Rattle.building_laws.specs.Lists.{Placed}
use Rattle.arena_building.specs.Choosing.{has_some, ready_place, ready_in, first_closed_of, first_closed, begins_closed, IsAsReady}
use Rattle.arena_building.proofs.Places.{first_place, position_is}

-- a closed term is ready
closed_ready : (vs : VarSet) (t : Term) → not (is_term_open t) ≡ true → has_some vs t ≡ false
closed_ready vs t h = ap (list_any (set.has vs)) (list-shut_term t (turned (is_term_open t) h))
  where
    turned : (b : Bool) → not b ≡ true → b ≡ false
    turned true e = cc
    turned false e = refl

-- what is ready at a root by what its first instance is
module _ (vs ws : VarSet) where
  none_of : (is : Insts) → first_closed_of is ≡ None → ready_place vs is ≡ None
  none_of none h = refl
  none_of (more t e is) h = cc

  first_of : (is : Insts) → first_closed_of is ≡ Some true → ready_place vs is ≡ Some 0
  first_of none h = cc
  first_of (more t e is) h =
      let closed : not (is_term_open t) ≡ true = cc in
      ap (λ b. if b then option_map suc (ready_place vs is) else Some 0) (closed_ready vs t closed)

none_ready : (vs : VarSet) (e : Exp) → first_closed e ≡ None → ready_in vs e ≡ None
none_ready vs (wk f) h = refl
none_ready vs (leaf f) h = refl
none_ready vs (neg e) h = refl
none_ready vs (conj d e) h = refl
none_ready vs (disj d e) h = refl
none_ready vs (impl d e) h = refl
none_ready vs (weak f is) h = none_of vs vs is h
none_ready vs (strong f y e) h = refl

first_ready : (vs : VarSet) (e : Exp) → first_closed e ≡ Some true → ready_in vs e ≡ Some 0
first_ready vs (wk f) h = cc
first_ready vs (leaf f) h = cc
first_ready vs (neg e) h = cc
first_ready vs (conj d e) h = cc
first_ready vs (disj d e) h = cc
first_ready vs (impl d e) h = cc
first_ready vs (weak f is) h = first_of vs vs is h
first_ready vs (strong f y e) h = cc

module _ (vs ws : VarSet) where
  same_place : (l : List Placed) → begins_closed l ≡ true → first_place (λ p. is_some (ready_in ws p.tree)) l ≡ first_place (λ p. is_some (ready_in vs p.tree)) l
  same_place [] h = cc
  same_place (p ∷ l) h =
      elim (first_closed p.tree) as (λ o. first_closed p.tree ≡ o → unwrap_or o (begins_closed l) ≡ true
      → cond (is_some (ready_in ws p.tree)) (Some 0) (option_map suc (first_place (λ p. is_some (ready_in ws p.tree)) l)) ≡ cond (is_some (ready_in vs p.tree)) (Some 0) (option_map suc (first_place (λ p. is_some (ready_in vs p.tree)) l))) [
        | None ↦ λ e k. λ i. cond (is_some ((none_ready ws p.tree e ∙ sym (none_ready vs p.tree e)) i)) (Some 0) (option_map suc (same_place l k i))
        | Some b ↦ λ e k.
            let closed : first_closed p.tree ≡ Some true = e ∙ ap Some k in
            ap (λ o. cond (is_some o) (Some 0) (option_map suc (first_place (λ p. is_some (ready_in ws p.tree)) l))) (first_ready ws p.tree closed)
            ∙ ap (λ o. cond (is_some o) (Some 0) (option_map suc (first_place (λ p. is_some (ready_in vs p.tree)) l))) (sym (first_ready vs p.tree closed))
      ] refl h

  same_instance : (l : List Placed) (n : ℕ) (p : Placed) → begins_closed l ≡ true → first_place (λ q. is_some (ready_in ws q.tree)) l ≡ Some n → slice_get l n ≡ Some p → ready_in ws p.tree ≡ ready_in vs p.tree
  same_instance [] n p h e there = cc
  same_instance (q ∷ l) n p h e there =
      elim (first_closed q.tree) as (λ o. first_closed q.tree ≡ o → unwrap_or o (begins_closed l) ≡ true → ready_in ws p.tree ≡ ready_in vs p.tree) [
        | None ↦ λ f k. later (none_ready ws q.tree f) (λ m placed got. same_instance l m p k placed got)
        | Some b ↦ λ f k. here (f ∙ ap Some k)
      ] refl h
    where
      here : first_closed q.tree ≡ Some true → ready_in ws p.tree ≡ ready_in vs p.tree
      here closed =
          let front = sym (ap (λ o. cond (is_some o) (Some 0) (option_map suc (first_place (λ q. is_some (ready_in ws q.tree)) l))) (first_ready ws q.tree closed)) ∙ e in
          let zero_is : 0 ≡ n = cc in
          let got : slice_get (q ∷ l) 0 ≡ Some p = subst (λ m. slice_get (q ∷ l) m ≡ Some p) (sym zero_is) there in
          let same : q ≡ p = cc in
          subst (λ (r : Placed). ready_in ws r.tree ≡ ready_in vs r.tree) same (first_ready ws q.tree closed ∙ sym (first_ready vs q.tree closed))

      later : ready_in ws q.tree ≡ None → ((m : ℕ) → first_place (λ q. is_some (ready_in ws q.tree)) l ≡ Some m → slice_get l m ≡ Some p → ready_in ws p.tree ≡ ready_in vs p.tree) → ready_in ws p.tree ≡ ready_in vs p.tree
      later unready after_it =
          let behind : option_map suc (first_place (λ q. is_some (ready_in ws q.tree)) l) ≡ Some n = sym (ap (λ o. cond (is_some o) (Some 0) (option_map suc (first_place (λ q. is_some (ready_in ws q.tree)) l))) unready) ∙ e in
          elim (first_place (λ q. is_some (ready_in ws q.tree)) l) as (λ o. first_place (λ q. is_some (ready_in ws q.tree)) l ≡ o → option_map suc o ≡ Some n → ready_in ws p.tree ≡ ready_in vs p.tree) [
            | None ↦ λ _ g. cc
            | Some m ↦ λ placed g.
                let after : suc m ≡ n = cc in
                after_it m placed (subst (λ i. slice_get (q ∷ l) i ≡ Some p) (sym after) there)
          ] refl behind

pub closed_as_ready : (ws vs : VarSet) (l : List Placed) → begins_closed l ≡ true → IsAsReady ws vs l
closed_as_ready ws vs l h = record {
  place = position_is (λ (p : Placed). is_some (ready_in ws p.tree)) l ∙ (same_place vs ws l h ∙ sym (position_is (λ (p : Placed). is_some (ready_in vs p.tree)) l));
  instance = λ n p e there. same_instance vs ws l n p h (sym (position_is (λ (q : Placed). is_some (ready_in ws q.tree)) l) ∙ e) there;
}
