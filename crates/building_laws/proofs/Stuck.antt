-- A list of which all holds that holds of each list that is visited has a step.
use Rattle.std.proofs.Common.{◌≡◌, ℕ, zero, suc, ◌<◌, true, false, if◌then◌else◌, List, Option, Some, None, refl, ap, ◌∙◌, arith}
use Rattle.std.specs.Prelude.{option_map}
use Rattle.std.proofs.lemmas.Bool.{not-false}
use Rattle.std.specs.List.{list_any}
use Rattle.fol.specs.declared.symbols.Var.{Var}
use Rattle.fol.specs.Syntax.{Term, Formula, atom, top, bot, not, and, or, imp, all, ex}
use Rattle.finite.specs.Finite as set
use Rattle.free_variables.specs.Occurrence.{is_free_in_term}
use Rattle.lk_rules.specs.declared.sequent.Side.{Side}
use Rattle.lk_rules.specs.declared.sequent.Side.TheVariants.{Left, Right}
use Rattle.proof_trees.proofs.Booleans.{or_first, or_second}
use Rattle.search_laws.specs.Truth.{Assignment}
use Rattle.search_laws.proofs.Tests.{clash, not_true}
use Rattle.expansion_laws.specs.Expansions.{Exp, wk, leaf, neg, conj, disj, impl, weak, strong, Insts, none, more}
use Rattle.expansion_laws.specs.Building.{is_flat, is_built}
use Rattle.expansion_laws.specs.Dependency.{strongs, strongs_in, is_above, is_above_in}
use Rattle.expansion_laws.specs.Helping.{helps, helped, some_helped}
use Rattle.building_laws.specs.Lists.{Placed, on, strongs_in_list, leaf_sequent}
use Rattle.building_laws.specs.Building.{behind, is_ready, first_ready, instantiated, parts_of, parts, instance_of, instance_at, step_at}
use Rattle.building_laws.proofs.Above.{above_all}
use Rattle.building_laws.proofs.Counting.{count, count-append, either_counted, some_counted}
use Rattle.building_laws.proofs.Inside.{In, all_in, any_in, from_any, from_counted}
use Rattle.building_laws.proofs.Invariant.{IsProvable}
use Rattle.building_laws.proofs.Leaves.{IsOpen, leaf_there, leaves_open}
use Rattle.building_laws.proofs.Right.{IsRight, is_helping, is_over}
use Rattle.building_laws.proofs.Taking.{IsStuck, no_step}

unmapped : {X Y : Type 0} (h : X → Y) (o : Option X) → option_map h o ≡ None → o ≡ None
unmapped h None e = refl
unmapped h (Some x) e = cc

-- where no instance is ready, a variable of the list is free in the first one's term, and none is ready after it
pub record IsUnready (vs : List Var) (t : Term) (is : Insts) : Type 0 where
  pub blocked : list_any (λ v. is_free_in_term v t) vs ≡ true
  pub others : first_ready vs is ≡ None

unready : (vs : List Var) (t : Term) (d : Exp) (is : Insts) → first_ready vs (more t d is) ≡ None → IsUnready vs t is
unready vs t d is e =
    elim (is_ready vs t) as (λ b. is_ready vs t ≡ b → (if b then Some (record { term = t; tree = d; others = is }) else option_map (behind t d) (first_ready vs is)) ≡ None → IsUnready vs t is) [
      | true ↦ λ _ h. cc
      | false ↦ λ h none_later. record { blocked = not-false _ h; others = unmapped (behind t d) (first_ready vs is) none_later }
    ] refl e

-- then a variable of the list is above each strong quantifier in them
blocked_in : {P : Type 0} (vs : List Var) (z : Var) (is : Insts) → first_ready vs is ≡ None → ((y : Var) → 0 < count y vs → is_above_in y z false is ≡ true → P) → 0 < count z (strongs_in is) → P
blocked_in vs z none e use_it h = absurd (omega arith)
blocked_in vs z (more t d is) e use_it h =
    let k : IsUnready vs t is = unready vs t d is e in
    either_counted (count z (strongs d)) (count z (strongs_in is)) (count z (strongs_in (more t d is))) (count-append z (strongs d) (strongs_in is))
    (λ here. some_counted (λ v. is_free_in_term v t) vs
    (λ y inside free. use_it y inside (or_first (is_above y z (is_free_in_term y t) d) (is_above_in y z false is) (ap (λ b. is_above y z b d) free ∙ above_all y z d here)))
    k.blocked)
    (blocked_in vs z is k.others (λ y inside over. use_it y inside (or_second (is_above y z (is_free_in_term y t) d) (is_above_in y z false is) over)))
    h

-- the same of a tree for which there is no step
blocked_at : {P : Type 0} (vs : List Var) (z : Var) (s : Side) (e : Exp) → parts_of s e ≡ None → instance_of vs s e ≡ None → ((y : Var) → 0 < count y vs → is_above y z false e ≡ true → P) → 0 < count z (strongs e) → P
blocked_at vs z s (wk f) a b use_it h = absurd (omega arith)
blocked_at vs z s (leaf f) a b use_it h = absurd (omega arith)
blocked_at vs z s (neg e) a b use_it h = cc
blocked_at vs z s (conj d e) a b use_it h = cc
blocked_at vs z s (disj d e) a b use_it h = cc
blocked_at vs z s (impl d e) a b use_it h = cc
blocked_at vs z s (weak f is) a b use_it h = blocked_in vs z is (unmapped (instantiated s f) (first_ready vs is) b) use_it h
blocked_at vs z s (strong f y e) a b use_it h = cc

module _ (rank : Var → ℕ) (l : List Placed) (h : IsProvable rank l) (k : IsStuck l) where
  -- so each variable has one of lower rank
  descend : (n : ℕ) (z : Var) → rank z < n → 0 < count z (strongs_in_list l) → ⊥
  descend zero z low inside = omega arith
  descend (suc n) z low inside =
      from_counted z l
      (λ p there.
      blocked_at (strongs_in_list l) z p.side p.tree (all_in (λ q. parts q ≡ None) p l there k.whole) (all_in (λ q. instance_at (strongs_in_list l) q ≡ None) p l there k.unready)
      (λ y also over.
      let lower = h.ranked y z also (any_in (is_over y z) p l there over) in
      descend n y (omega arith) also))
      inside

  -- so there are none
  no_variable : (z : Var) → 0 < count z (strongs_in_list l) → ⊥
  no_variable z = descend (suc (rank z)) z (omega arith)

  -- so there are no instances
  no_instance : (t : Term) (d : Exp) (is : Insts) → first_ready (strongs_in_list l) (more t d is) ≡ None → ⊥
  no_instance t d is e = some_counted (λ v. is_free_in_term v t) (strongs_in_list l) (λ v inside free. no_variable v inside) (unready (strongs_in_list l) t d is e).blocked

  open_leaves : IsOpen (leaf_sequent l)
  open_leaves = leaves_open (leaf_sequent l) k.open_leaves

  -- just the leaves on the left are true
  abbrev left_leaves : Assignment
  left_leaves = (leaf_sequent l).left

  leaf_helps_not : (s : Side) (f : Formula) → In (on s (leaf f)) l → is_flat f ≡ true → helps left_leaves s f ≡ true → ⊥
  leaf_helps_not Left (atom r ts) i flat e = clash (set.has left_leaves (atom r ts)) (leaf_there l Left (atom r ts) i) (not_true (set.has left_leaves (atom r ts)) e)
  leaf_helps_not Right (atom r ts) i flat e = clash (set.has (leaf_sequent l).right (atom r ts)) (leaf_there l Right (atom r ts) i) (open_leaves.apart (atom r ts) e)
  leaf_helps_not Left top i flat e = cc
  leaf_helps_not Right top i flat e = clash (set.has (leaf_sequent l).right top) (leaf_there l Right top i) open_leaves.no_truth
  leaf_helps_not Left bot i flat e = clash (set.has (leaf_sequent l).left bot) (leaf_there l Left bot i) open_leaves.no_falsity
  leaf_helps_not Right bot i flat e = cc
  leaf_helps_not s (not f) i flat e = cc
  leaf_helps_not s (and f g) i flat e = cc
  leaf_helps_not s (or f g) i flat e = cc
  leaf_helps_not s (imp f g) i flat e = cc
  leaf_helps_not s (all f) i flat e = cc
  leaf_helps_not s (ex f) i flat e = cc

  instances_help_not : (s : Side) (is : Insts) → first_ready (strongs_in_list l) is ≡ None → some_helped left_leaves s is ≡ true → ⊥
  instances_help_not s none e m = cc
  instances_help_not s (more t d is) e m = no_instance t d is e

  tree_helps_not : (s : Side) (e : Exp) → In (on s e) l → is_built e ≡ true → parts_of s e ≡ None → instance_of (strongs_in_list l) s e ≡ None → helped left_leaves s e ≡ true → ⊥
  tree_helps_not s (wk f) i built a b m = cc
  tree_helps_not s (leaf f) i built a b m = leaf_helps_not s f i built m
  tree_helps_not s (neg e) i built a b m = cc
  tree_helps_not s (conj d e) i built a b m = cc
  tree_helps_not s (disj d e) i built a b m = cc
  tree_helps_not s (impl d e) i built a b m = cc
  tree_helps_not s (weak f is) i built a b m = instances_help_not s is (unmapped (instantiated s f) (first_ready (strongs_in_list l) is) b) m
  tree_helps_not s (strong f y e) i built a b m = cc

  -- and no tree helps, but one does
  contradiction : ⊥
  contradiction =
      from_any (is_helping left_leaves) l
      (λ p there.
      tree_helps_not p.side p.tree there (all_in IsRight p l there h.right).built (all_in (λ q. parts q ≡ None) p l there k.whole)
      (all_in (λ q. instance_at (strongs_in_list l) q ≡ None) p l there k.unready))
      (h.helps left_leaves)

pub never_stuck : (rank : Var → ℕ) (l : List Placed) → IsProvable rank l → step_at l ≡ None → ⊥
never_stuck rank l h e = contradiction rank l h (no_step l e)
