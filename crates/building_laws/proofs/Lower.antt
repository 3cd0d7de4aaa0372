-- The premises of each step weigh less than the list.
use Rattle.std.proofs.Common.{◌≡◌, ℕ, ◌+◌, ◌<◌, true, false, if◌then◌else◌, List, [], ◌∷◌, Option, Some, None, refl, subst, arith}
use Rattle.std.specs.Prelude.{option_map}
use Rattle.std.specs.List.{AllByRecursion}
use Rattle.fol.specs.declared.symbols.Var.{Var}
use Rattle.lk_rules.specs.declared.sequent.Side.{Side}
use Rattle.lk_rules.specs.declared.sequent.Side.TheVariants.{Left, Right}
use Rattle.expansion_laws.specs.Expansions.{Exp, wk, leaf, neg, conj, disj, impl, weak, strong, Insts, none, more}
use Rattle.building_laws.specs.Lists.{Placed, on, strongs_in_list, weight, weight_in, weight_of}
use Rattle.building_laws.specs.Building.{Step, conjuncts, disjuncts, parts_of, parts, Chosen, behind, is_ready, first_ready, instantiated, instance_of, instance_at, step_at}
use Rattle.building_laws.proofs.Replaced.{weighed_new}
use Rattle.building_laws.proofs.Taking.{some_same, AllReplaced, IsTaken, step_cases}

-- the lists of the premises, where there is a step
abbrev pub lists_of : Option Step → List (List Placed)
lists_of None = []
lists_of (Some t) = t.premises

-- each list weighs less than n
abbrev pub AreLighter : ℕ → List (List Placed) → Type 0
AreLighter n = AllByRecursion (λ ps. weight_of ps < n)

conjuncts_lighter : (s : Side) (p q : Placed) (n : ℕ) → weight p.tree + weight q.tree < n → AreLighter n (conjuncts s p q)
conjuncts_lighter Left p q n l = (omega arith, tt)
conjuncts_lighter Right p q n l = (omega arith, (omega arith, tt))

disjuncts_lighter : (s : Side) (p q : Placed) (n : ℕ) → weight p.tree + weight q.tree < n → AreLighter n (disjuncts s p q)
disjuncts_lighter Left p q n l = (omega arith, (omega arith, tt))
disjuncts_lighter Right p q n l = (omega arith, tt)

parts_lighter : (s : Side) (e : Exp) → AreLighter (weight e) (lists_of (parts_of s e))
parts_lighter s (wk f) = tt
parts_lighter s (leaf f) = tt
parts_lighter s (neg e) = (omega arith, tt)
parts_lighter s (conj d e) = conjuncts_lighter s (on s d) (on s e) (weight (conj d e)) (omega arith)
parts_lighter s (disj d e) = disjuncts_lighter s (on s d) (on s e) (weight (disj d e)) (omega arith)
parts_lighter s (impl d e) = disjuncts_lighter s _ (on s e) (weight (impl d e)) (omega arith)
parts_lighter s (weak f is) = tt
parts_lighter s (strong f y e) = (omega arith, tt)

-- an instance and the others weigh together less than all
pub chosen_lighter : (vs : List Var) (is : Insts) (c : Chosen) → first_ready vs is ≡ Some c → weight_in c.others + weight c.tree < weight_in is
chosen_lighter vs none c e = cc
chosen_lighter vs (more t d is) c e =
    elim (is_ready vs t) as (λ b. (if b then Some (record { term = t; tree = d; others = is }) else option_map (behind t d) (first_ready vs is)) ≡ Some c → weight_in c.others + weight c.tree < weight_in (more t d is)) [
      | true ↦ λ h.
          let all : Chosen = record { term = t; tree = d; others = is } in
          subst (λ k. weight_in k.others + weight k.tree < weight_in (more t d is)) (some_same all c h) (omega arith)
      | false ↦ elim (first_ready vs is) as (λ o. first_ready vs is ≡ o → option_map (behind t d) o ≡ Some c → weight_in c.others + weight c.tree < weight_in (more t d is)) [
        | None ↦ λ _ h. cc
        | Some k ↦ λ g h.
            let rest = chosen_lighter vs is k g in
            subst (λ k. weight_in k.others + weight k.tree < weight_in (more t d is)) (some_same (behind t d k) c h) (omega arith)
      ] refl
    ] e

instance_lighter : (vs : List Var) (s : Side) (e : Exp) → AreLighter (weight e) (lists_of (instance_of vs s e))
instance_lighter vs s (weak f is) =
    elim (first_ready vs is) as (λ o. first_ready vs is ≡ o → AreLighter (weight (weak f is)) (lists_of (option_map (instantiated s f) o))) [
      | None ↦ λ _. tt
      | Some c ↦ λ h. let lighter = chosen_lighter vs is c h in (omega arith, tt)
    ] refl
instance_lighter vs s e = tt

-- in place of a tree, lighter ones make the list lighter
replaced_lighter : (p : Placed) (l : List Placed) (pss ms : List (List Placed)) → AllReplaced p l pss ms → AreLighter (weight p.tree) pss → AreLighter (weight_of l) ms
replaced_lighter p l [] [] h less = tt
replaced_lighter p l [] (m ∷ ms) h less = absurd h
replaced_lighter p l (ps ∷ pss) [] h less = absurd h
replaced_lighter p l (ps ∷ pss) (m ∷ ms) h less =
    let sum = weighed_new p ps l m h.0 in
    let first = less.0 in
    (omega arith, replaced_lighter p l pss ms h.1 less.1)

taken_lighter : (at : Placed → Option Step) → ((p : Placed) → AreLighter (weight p.tree) (lists_of (at p))) → (l : List Placed) (t : Step) → IsTaken at l t → AreLighter (weight_of l) t.premises
taken_lighter at lighter l t h = replaced_lighter h.tree l h.step.premises t.premises h.premises (subst (λ o. AreLighter (weight h.tree.tree) (lists_of o)) h.taken (lighter h.tree))

-- each premise of a step weighs less
pub step_lighter : (l : List Placed) (t : Step) → step_at l ≡ Some t → AreLighter (weight_of l) t.premises
step_lighter l t =
    step_cases l t
    (λ r _ is. subst (λ u. AreLighter (weight_of l) u.premises) is tt)
    (taken_lighter parts (λ p. parts_lighter p.side p.tree) l t)
    (taken_lighter (instance_at (strongs_in_list l)) (λ p. instance_lighter (strongs_in_list l) p.side p.tree) l t)
