-- The first instance that is ready, by its place.
use Rattle.std.proofs.Common.{◌≡◌, ℕ, zero, suc, ◌<◌, Bool, true, false, if◌then◌else◌, cond, List, [], ◌∷◌, map, length, Option, Some, None, refl, sym, ap, subst, ◌∙◌, arith}
use Rattle.std.specs.Prelude.{not, option_map}
use Rattle.std.specs.Option.{IsSome, is_some}
use Rattle.std.specs.List.{remove, slice_get, position}
use Rattle.fol.specs.declared.symbols.Var.{Var}
use Rattle.fol.specs.Syntax.{Term, Formula}
use Rattle.finite.specs.Finite as set
use Rattle.free_variables.specs.Sets.{VarSet}
use Rattle.lk_rules.specs.declared.sequent.Side.{Side}
use Rattle.expansion_laws.specs.Expansions.{Exp, wk, leaf, neg, conj, disj, impl, weak, strong, Insts, none, more}
use Rattle.exp_tree.specs.declared.expansion.Inst.{Inst}
use Rattle.exp_tree.specs.Shown.{insts_of}
use Rattle.building_laws.specs.Lists.{Placed}
use Rattle.building_laws.specs.Building.{Chosen, behind, first_ready, instantiated, instance_of, instance_at, Step}
use Rattle.arena_building.specs.Choosing.{has_some, instances_in, ready_place, ready_in, chosen}
use Rattle.arena_building.specs.Dividing.{chosen_of, chosen_step}
use Rattle.arena_building.proofs.Variables.{ready_by_set}
use Rattle.arena_building.proofs.Places.{first_place, first_mapped, position_is}

-- the instance at the place, where there is one
abbrev pub at_place : Insts → Option ℕ → Option Chosen
at_place is None = None
at_place is (Some n) = chosen is n

at_next : (t : Term) (e : Exp) (is : Insts) (o : Option ℕ) → at_place (more t e is) (option_map suc o) ≡ option_map (behind t e) (at_place is o)
at_next t e is None = refl
at_next t e is (Some n) = refl

-- by one test or the other
next_by : (vs : List Var) (t : Term) (e : Exp) (is : Insts) (b : Bool) → first_ready vs is ≡ at_place is (ready_place (set.of_list vs) is)
    → (if not b then Some (record { term = t; tree = e; others = is }) else option_map (behind t e) (first_ready vs is)) ≡ at_place (more t e is) (if b then option_map suc (ready_place (set.of_list vs) is) else Some 0)
next_by vs t e is true h = ap (option_map (behind t e)) h ∙ sym (at_next t e is (ready_place (set.of_list vs) is))
next_by vs t e is false h = refl

first_placed : (vs : List Var) (is : Insts) → first_ready vs is ≡ at_place is (ready_place (set.of_list vs) is)
first_placed vs none = refl
first_placed vs (more t e is) =
    ap (λ b. if b then Some (record { term = t; tree = e; others = is }) else option_map (behind t e) (first_ready vs is)) (ready_by_set vs t)
    ∙ next_by vs t e is (has_some (set.of_list vs) t) (first_placed vs is)

-- the step of the instance at the place, where there is one
abbrev pub step_at_place : Placed → Option ℕ → Option Step
step_at_place p None = None
step_at_place p (Some n) = chosen_step p n

weak_placed : (s : Side) (f : Formula) (is : Insts) (o : Option ℕ) → option_map (instantiated s f) (at_place is o) ≡ step_at_place (record { side = s; tree = weak f is }) o
weak_placed s f is None = refl
weak_placed s f is (Some n) = refl

tree_placed : (vs : List Var) (s : Side) (e : Exp) → instance_of vs s e ≡ step_at_place (record { side = s; tree = e }) (ready_in (set.of_list vs) e)
tree_placed vs s (wk f) = refl
tree_placed vs s (leaf f) = refl
tree_placed vs s (neg e) = refl
tree_placed vs s (conj d e) = refl
tree_placed vs s (disj d e) = refl
tree_placed vs s (impl d e) = refl
tree_placed vs s (weak f is) = ap (option_map (instantiated s f)) (first_placed vs is) ∙ weak_placed s f is (ready_place (set.of_list vs) is)
tree_placed vs s (strong f y e) = refl

pub instance_placed : (vs : List Var) (p : Placed) → instance_at vs p ≡ step_at_place p (ready_in (set.of_list vs) p.tree)
instance_placed vs p = tree_placed vs p.side p.tree

-- the instance at a place of a list
pub chosen_listed : (is : List Inst) (n : ℕ) (i : Inst) → slice_get is n ≡ Some i → chosen (insts_of is) n ≡ Some (record { term = i.term; tree = i.child; others = insts_of (remove is n) })
chosen_listed [] n i e = cc
chosen_listed (j ∷ is) zero i e = let same : j ≡ i = cc in λ k. Some (record { term = (same k).term; tree = (same k).child; others = insts_of is })
chosen_listed (j ∷ is) (suc n) i e = ap (option_map (behind j.term j.child)) (chosen_listed is n i e)

-- a place with an instance is within the list
pub chosen_within : (is : List Inst) (n : ℕ) (c : Chosen) → chosen (insts_of is) n ≡ Some c → n < length is
chosen_within [] n c e = cc
chosen_within (i ∷ is) zero c e = omega arith
chosen_within (i ∷ is) (suc n) c e =
    elim (chosen (insts_of is) n) as (λ o. chosen (insts_of is) n ≡ o → option_map (behind i.term i.child) o ≡ Some c → suc n < length (i ∷ is)) [
      | None ↦ λ _ h. cc
      | Some d ↦ λ g _. let less = chosen_within is n d g in omega arith
    ] refl e

-- where one is ready, there is an instance at its place
pub ready_within : (vs : VarSet) (is : Insts) (n : ℕ) → ready_place vs is ≡ Some n → (c : Chosen) × (chosen is n ≡ Some c)
ready_within vs none n e = cc
ready_within vs (more t d is) n e =
    elim (has_some vs t) as (λ b. (if b then option_map suc (ready_place vs is) else Some 0) ≡ Some n → (c : Chosen) × (chosen (more t d is) n ≡ Some c)) [
      | true ↦ elim (ready_place vs is) as (λ o. ready_place vs is ≡ o → option_map suc o ≡ Some n → (c : Chosen) × (chosen (more t d is) n ≡ Some c)) [
        | None ↦ λ _ h. cc
        | Some m ↦ λ g h.
            let one = ready_within vs is m g in
            let next : suc m ≡ n = cc in
            subst (λ k. (c : Chosen) × (chosen (more t d is) k ≡ Some c)) next (behind t d one.0, ap (option_map (behind t d)) one.1)
      ] refl
      | false ↦ λ h. let next : 0 ≡ n = cc in subst (λ k. (c : Chosen) × (chosen (more t d is) k ≡ Some c)) next (record { term = t; tree = d; others = is }, refl)
    ] e

-- the place of the first instance that is ready, as a place of a list
turned_place : (b : Bool) (o : Option ℕ) → cond (not b) (Some 0) (option_map suc o) ≡ (if b then option_map suc o else Some 0)
turned_place true o = refl
turned_place false o = refl

in_order : (vs : VarSet) (is : List Inst) → first_place (λ i. not (has_some vs i.term)) is ≡ ready_place vs (insts_of is)
in_order vs [] = refl
in_order vs (i ∷ is) = ap (λ o. cond (not (has_some vs i.term)) (Some 0) (option_map suc o)) (in_order vs is) ∙ turned_place (has_some vs i.term) (ready_place vs (insts_of is))

pub ready_listed : (vs : VarSet) (is : List Inst) → position (λ i. not (has_some vs i.term)) is ≡ ready_place vs (insts_of is)
ready_listed vs is = position_is (λ (i : Inst). not (has_some vs i.term)) is ∙ in_order vs is

-- the same of instances that are lent
pub ready_lent : {X : Type 0} (f : X → Inst) (vs : VarSet) (xs : List X) → position (λ x. not (has_some vs (f x).term)) xs ≡ ready_place vs (insts_of (map f xs))
ready_lent f vs xs = position_is (λ x. not (has_some vs (f x).term)) xs ∙ (sym (first_mapped (λ (i : Inst). not (has_some vs i.term)) f xs) ∙ in_order vs (map f xs))

-- the step by an instance of a list
pub instance_within : (s : Side) (e : Exp) (f : Formula) (is : List Inst) (n : ℕ) → e ≡ weak f (insts_of is) → IsSome (chosen_of s e n) → n < length is
instance_within s e f is n h some =
    let there : IsSome (option_map (instantiated s f) (chosen (insts_of is) n)) = subst (λ d. IsSome (chosen_of s d n)) h some in
    elim (chosen (insts_of is) n) as (λ o. chosen (insts_of is) n ≡ o → IsSome (option_map (instantiated s f) o) → n < length is) [
      | None ↦ λ _ k. cc
      | Some c ↦ λ g _. chosen_within is n c g
    ] refl there

pub instance_taken : (s : Side) (e : Exp) (f : Formula) (is : List Inst) (n : ℕ) (i : Inst) → e ≡ weak f (insts_of is) → slice_get is n ≡ Some i
    → chosen_of s e n ≡ Some (instantiated s f (record { term = i.term; tree = i.child; others = insts_of (remove is n) }))
instance_taken s e f is n i h g = ap (λ d. chosen_of s d n) h ∙ ap (option_map (instantiated s f)) (chosen_listed is n i g)

-- an instance of a tree is ready just where there is a step by one
placed_alike : (s : Side) (e : Exp) (vs : VarSet) → is_some (step_at_place (record { side = s; tree = e }) (ready_in vs e)) ≡ is_some (ready_in vs e)
placed_alike s (wk f) vs = refl
placed_alike s (leaf f) vs = refl
placed_alike s (neg e) vs = refl
placed_alike s (conj d e) vs = refl
placed_alike s (disj d e) vs = refl
placed_alike s (impl d e) vs = refl
placed_alike s (weak f is) vs =
    elim (ready_place vs is) as (λ o. ready_place vs is ≡ o → is_some (step_at_place (record { side = s; tree = weak f is }) o) ≡ is_some o) [
      | None ↦ λ _. refl
      | Some n ↦ λ g. let one = ready_within vs is n g in ap (λ o. is_some (option_map (instantiated s f) o)) one.1
    ] refl
placed_alike s (strong f y e) vs = refl

pub ready_alike : (vs : List Var) (p : Placed) → is_some (instance_at vs p) ≡ is_some (ready_in (set.of_list vs) p.tree)
ready_alike vs p = ap is_some (instance_placed vs p) ∙ placed_alike p.side p.tree (set.of_list vs)

pub position_alike : (vs : List Var) (l : List Placed) → position (λ p. is_some (instance_at vs p)) l ≡ position (λ p. is_some (ready_in (set.of_list vs) p.tree)) l
position_alike vs l = λ i. position (λ p. ready_alike vs p i) l

-- there is an instance at the place that is ready
chosen_ready : (s : Side) (e : Exp) (vs : VarSet) (n : ℕ) → ready_in vs e ≡ Some n → IsSome (chosen_of s e n)
chosen_ready s (wk f) vs n e = cc
chosen_ready s (leaf f) vs n e = cc
chosen_ready s (neg d) vs n e = cc
chosen_ready s (conj c d) vs n e = cc
chosen_ready s (disj c d) vs n e = cc
chosen_ready s (impl c d) vs n e = cc
chosen_ready s (weak f is) vs n e =
    let one = ready_within vs is n e in
    subst (λ o. IsSome (option_map (instantiated s f) o)) (sym one.1) refl
chosen_ready s (strong f y d) vs n e = cc

pub ready_there : (vs : VarSet) (p : Placed) (n : ℕ) → ready_in vs p.tree ≡ Some n → IsSome (chosen_step p n)
ready_there vs p n e = chosen_ready p.side p.tree vs n e

-- the place of the first that is ready among the instances at a root
pub ready_at_root : (vs : VarSet) (e : Exp) (is : List Inst) → instances_in e ≡ Some (insts_of is) → position (λ i. not (has_some vs i.term)) is ≡ ready_in vs e
ready_at_root vs (wk f) is h = cc
ready_at_root vs (leaf f) is h = cc
ready_at_root vs (neg e) is h = cc
ready_at_root vs (conj d e) is h = cc
ready_at_root vs (disj d e) is h = cc
ready_at_root vs (impl d e) is h = cc
ready_at_root vs (weak f js) is h = let same : insts_of is ≡ js = cc in ready_listed vs is ∙ ap (ready_place vs) same
ready_at_root vs (strong f y e) is h = cc
