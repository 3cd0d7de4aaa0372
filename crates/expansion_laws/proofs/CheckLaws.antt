-- What the check comes to, by its conditions.
use Rattle.std.proofs.Common.{◌≡◌, ◌↔◌, ℕ, true, List, inl, inr, ⊎_elim, refl, sym, ap, subst, ◌∙◌}
use Rattle.std.specs.Prelude.{◌⊎◌, Option, Some, None, IsNone, Result, Ok, Err, nat_lt, if◌then◌else◌}
use Rattle.std.specs.List.{All, find}
use Rattle.fol.specs.declared.symbols.Var.{Var}
use Rattle.lk_rules.specs.declared.sequent.Sequent.{Sequent}
use Rattle.lk_rules.specs.declared.sequent.Side.TheVariants.{Left, Right}
use Rattle.proof_trees.specs.Trees.{Tree}
use Rattle.search_laws.specs.Search.{Walk, proved, falsified, visits, walk}
use Rattle.search_laws.specs.Truth.{Assignment, IsPropositional, IsTautology}
use Rattle.search_laws.proofs.Tests.{split}
use Rattle.expansion_laws.specs.Building.{is_built}
use Rattle.expansion_laws.specs.Dependency.{Expansion, strongs_of}
use Rattle.expansion_laws.specs.Proofs.{stands, shallow_sequent, IsExpansionProof}
use Rattle.expansion_laws.specs.Sequents.{deep_sequent}
use Rattle.search_laws.specs.declared.fault.SearchFault.{SearchFault}
use Rattle.search_laws.specs.declared.fault.SearchFault.TheVariants as search
use Rattle.search_laws.specs.Budgets.{verdict, found}
use Rattle.expansion_laws.specs.declared.fault.ExpFault.{ExpFault}
use Rattle.expansion_laws.specs.declared.fault.ExpFault.TheVariants.{EigenTwice, EigenFree, Cycle, Falsified, Budget}
use Rattle.step_laws.specs.Faults.{or_fault}
use Rattle.expansion_laws.specs.Checking.{searched, checking}
use Rattle.expansion_laws.specs.Cycles.{variables, cycle}
use Rattle.expansion_laws.specs.Eigenvariables.{is_repeated, is_free_eigenvariable, IsLeast}
use Rattle.expansion_laws.proofs.Conditions.{distinct_by, fresh_by}
use Rattle.expansion_laws.proofs.CycleLaws.{acyclic_shown}
use Rattle.expansion_laws.proofs.LeastLaws.{least_repeated, repeated_is, least_free, free_is}

-- no fault, where the trees are answered
no_fault : {A : Type 0} (fault : A → ExpFault) (o : Option A) (rest : Result Expansion ExpFault) (y : Expansion) → or_fault fault o rest ≡ Ok y → (o ≡ None) × (rest ≡ Ok y)
no_fault fault None rest y e = (refl, e)
no_fault fault (Some a) rest y e = cc

a_proof : (x y : Expansion) (r : Result Tree SearchFault) → searched x r ≡ Ok y → (y ≡ x) × ((t : Tree) × (r ≡ Ok t))
a_proof x y (Ok t) e = let same : x ≡ y = cc in (sym same, (t, refl))
a_proof x y (Err (search.Falsified a)) e = cc
a_proof x y (Err search.Budget) e = cc
a_proof x y (Err search.Memory) e = cc

is_proved : (w : Walk) (t : Tree) → verdict w ≡ Ok t → w ≡ proved t
is_proved (proved u) t e = let same : u ≡ t = cc in ap proved same
is_proved (falsified n a) t e = cc

found_proved : (n : ℕ) (w : Walk) (t : Tree) → found n w ≡ Ok t → w ≡ proved t
found_proved n w t e =
    split (nat_lt n (visits w))
    (λ over. let no : Err search.Budget ≡ Ok t = sym (ap (λ b. if b then Err search.Budget else verdict w) over) ∙ e in cc)
    (λ within. is_proved w t (sym (ap (λ b. if b then Err search.Budget else verdict w) within) ∙ e))

none_is : {A : Type 0} (o : Option A) → IsNone o → o ≡ None
none_is None h = refl
none_is (Some a) h = cc

is_none : {A : Type 0} (o : Option A) → o ≡ None → IsNone o
is_none None e = refl
is_none (Some a) e = cc

module _ (found_just : (s : Sequent) → IsPropositional s → (IsTautology s ↔ ((t : Tree) × (walk s ≡ proved t))))
    (unquantified : (x : Expansion) → All (λ e. is_built e ≡ true) x.left → All (λ e. is_built e ≡ true) x.right → IsPropositional (deep_sequent x)) where
  -- trees that pass are an expansion proof
  pub passes : (x y : Expansion) (n : ℕ) → All (λ e. is_built e ≡ true) x.left → All (λ e. is_built e ≡ true) x.right → All (λ e. stands Left e ≡ true) x.left → All (λ e. stands Right e ≡ true) x.right
      → checking x n ≡ Ok y → (y ≡ x) × IsExpansionProof x (shallow_sequent x)
  unfolding checking
  passes x y n built_left built_right stand_left stand_right e =
      let vs = strongs_of x in
      let s = shallow_sequent x in
      let first = no_fault EigenTwice (find (is_repeated vs) (variables x)) (or_fault EigenFree (find (is_free_eigenvariable s vs) (variables x)) (or_fault Cycle (cycle x) (searched x (found n (walk (deep_sequent x)))))) y e in
      let second = no_fault EigenFree (find (is_free_eigenvariable s vs) (variables x)) (or_fault Cycle (cycle x) (searched x (found n (walk (deep_sequent x))))) y first.1 in
      let third = no_fault Cycle (cycle x) (searched x (found n (walk (deep_sequent x)))) y second.1 in
      let fourth = a_proof x y (found n (walk (deep_sequent x))) third.1 in (
        fourth.0,
        record {
          built_left = built_left;
          built_right = built_right;
          stand_left = stand_left;
          stand_right = stand_right;
          formulas = refl;
          distinct = (distinct_by vs (find (is_repeated vs) (variables x)) (least_repeated x)).0 (is_none (find (is_repeated vs) (variables x)) first.0);
          fresh = (fresh_by s vs (find (is_free_eigenvariable s vs) (variables x)) (least_free x s)).0 (is_none (find (is_free_eigenvariable s vs) (variables x)) second.0);
          acyclic = (acyclic_shown x).0 third.0;
          tautology = (found_just (deep_sequent x) (unquantified x built_left built_right)).1 (fourth.1.0, found_proved n (walk (deep_sequent x)) fourth.1.0 fourth.1.1);
        },
      )

module _ (x : Expansion) where
  -- a variable of two strong quantifiers
  pub twice : (v : Var) → IsLeast (is_repeated (strongs_of x)) (Some v) → (n : ℕ) → checking x n ≡ Err (EigenTwice v)
  unfolding checking
  twice v h n =
      ap
      (λ o. or_fault EigenTwice o (or_fault EigenFree (find (is_free_eigenvariable (shallow_sequent x) (strongs_of x)) (variables x)) (or_fault Cycle (cycle x) (searched x (found n (walk (deep_sequent x)))))))
      (repeated_is x (Some v) h)

  module _ (once : IsLeast (is_repeated (strongs_of x)) None) where
    -- the rest, where they differ
    differ : (n : ℕ) → checking x n ≡ or_fault EigenFree (find (is_free_eigenvariable (shallow_sequent x) (strongs_of x)) (variables x)) (or_fault Cycle (cycle x) (searched x (found n (walk (deep_sequent x)))))
    unfolding checking
    differ n =
        ap
        (λ o. or_fault EigenTwice o (or_fault EigenFree (find (is_free_eigenvariable (shallow_sequent x) (strongs_of x)) (variables x)) (or_fault Cycle (cycle x) (searched x (found n (walk (deep_sequent x)))))))
        (repeated_is x None once)

    -- a variable that is free
    pub free : (s : Sequent) → s ≡ shallow_sequent x → (v : Var) → IsLeast (is_free_eigenvariable s (strongs_of x)) (Some v) → (n : ℕ) → checking x n ≡ Err (EigenFree v)
    free s is v h n =
        differ n
        ∙ ap (λ o. or_fault EigenFree o (or_fault Cycle (cycle x) (searched x (found n (walk (deep_sequent x))))))
        (ap (λ t. find (is_free_eigenvariable t (strongs_of x)) (variables x)) (sym is) ∙ free_is x s (Some v) h)

    module _ (s : Sequent) (is : s ≡ shallow_sequent x) (fresh : IsLeast (is_free_eigenvariable s (strongs_of x)) None) where
      none_free : (n : ℕ) → checking x n ≡ or_fault Cycle (cycle x) (searched x (found n (walk (deep_sequent x))))
      none_free n =
          differ n
          ∙ ap (λ o. or_fault EigenFree o (or_fault Cycle (cycle x) (searched x (found n (walk (deep_sequent x))))))
          (ap (λ t. find (is_free_eigenvariable t (strongs_of x)) (variables x)) (sym is) ∙ free_is x s None fresh)

      -- a cycle
      pub cyclic : (vs : List Var) → Some vs ≡ cycle x → (n : ℕ) → checking x n ≡ Err (Cycle vs)
      cyclic vs e n = none_free n ∙ ap (λ o. or_fault Cycle o (searched x (found n (walk (deep_sequent x))))) (sym e)

      -- no fault
      pub faultless : None ≡ cycle x → (n : ℕ) → checking x n ≡ searched x (found n (walk (deep_sequent x)))
      faultless e n = none_free n ∙ ap (λ o. or_fault Cycle o (searched x (found n (walk (deep_sequent x))))) (sym e)

  -- what the check of an expansion proof comes to
  proof_checked : IsExpansionProof x (shallow_sequent x) → (n : ℕ) → checking x n ≡ searched x (found n (walk (deep_sequent x)))
  proof_checked h n =
      let vs = strongs_of x in
      let s = shallow_sequent x in
      let one = none_is (find (is_repeated vs) (variables x)) ((distinct_by vs (find (is_repeated vs) (variables x)) (least_repeated x)).1 h.distinct) in
      let two = none_is (find (is_free_eigenvariable s vs) (variables x)) ((fresh_by s vs (find (is_free_eigenvariable s vs) (variables x)) (least_free x s)).1 h.fresh) in
      faultless (subst (IsLeast (is_repeated vs)) one (least_repeated x)) s refl (subst (IsLeast (is_free_eigenvariable s vs)) two (least_free x s)) (sym ((acyclic_shown x).1 h.acyclic)) n

  within_or_over : (n : ℕ) (t : Tree) → (searched x (found n (proved t)) ≡ Ok x) ⊎ (searched x (found n (proved t)) ≡ Err Budget)
  within_or_over n t =
      split (nat_lt n (visits (proved t)))
      (λ over. inr (ap (λ b. searched x (if b then Err search.Budget else Ok t)) over))
      (λ within. inl (ap (λ b. searched x (if b then Err search.Budget else Ok t)) within))

  -- an expansion proof passes, or the budget doesn't suffice
  pub complete : ((s : Sequent) → IsPropositional s → (IsTautology s ↔ ((t : Tree) × (walk s ≡ proved t)))) → IsPropositional (deep_sequent x)
      → (n : ℕ) → IsExpansionProof x (shallow_sequent x) → (checking x n ≡ Ok x) ⊎ (checking x n ≡ Err Budget)
  complete found_just unquantified n h =
      let t = (found_just (deep_sequent x) unquantified).0 h.tautology in
      ⊎_elim
      (λ (e : searched x (found n (proved t.0)) ≡ Ok x). inl (proof_checked h n ∙ ap (λ w. searched x (found n w)) t.1 ∙ e))
      (λ (e : searched x (found n (proved t.0)) ≡ Err Budget). inr (proof_checked h n ∙ ap (λ w. searched x (found n w)) t.1 ∙ e))
      (within_or_over n t.0)

  -- what is refused as cyclic has a cycle
  is_cyclic : (o : Option (List Var)) (r : Result Tree SearchFault) (vs : List Var) → or_fault Cycle o (searched x r) ≡ Err (Cycle vs) → o ≡ Some vs
  is_cyclic None (Ok t) vs e = cc
  is_cyclic None (Err (search.Falsified a)) vs e = cc
  is_cyclic None (Err search.Budget) vs e = cc
  is_cyclic None (Err search.Memory) vs e = cc
  is_cyclic (Some us) r vs e = cc

  not_free_fault : (o : Option Var) (rest : Result Expansion ExpFault) (vs : List Var) → or_fault EigenFree o rest ≡ Err (Cycle vs) → rest ≡ Err (Cycle vs)
  not_free_fault None rest vs e = e
  not_free_fault (Some v) rest vs e = cc

  not_twice_fault : (o : Option Var) (rest : Result Expansion ExpFault) (vs : List Var) → or_fault EigenTwice o rest ≡ Err (Cycle vs) → rest ≡ Err (Cycle vs)
  not_twice_fault None rest vs e = e
  not_twice_fault (Some v) rest vs e = cc

  pub cycle_shown : (n : ℕ) (vs : List Var) → checking x n ≡ Err (Cycle vs) → cycle x ≡ Some vs
  unfolding checking
  cycle_shown n vs e =
      let rest : Result Expansion ExpFault = or_fault Cycle (cycle x) (searched x (found n (walk (deep_sequent x)))) in
      let free : Option Var = find (is_free_eigenvariable (shallow_sequent x) (strongs_of x)) (variables x) in
      is_cyclic (cycle x) (found n (walk (deep_sequent x))) vs (not_free_fault free rest vs (not_twice_fault (find (is_repeated (strongs_of x)) (variables x)) (or_fault EigenFree free rest) vs e))

  -- what is refused as false has a false sequent
  is_false : {A : Type 0} (fault : A → ExpFault) (o : Option A) (rest : Result Expansion ExpFault) (a : Assignment) → ((b : A) → or_fault fault (Some b) rest ≡ Err (Falsified a) → ⊥)
      → or_fault fault o rest ≡ Err (Falsified a) → rest ≡ Err (Falsified a)
  is_false fault None rest a other e = e
  is_false fault (Some b) rest a other e = absurd (other b e)

  is_falsified : (r : Result Tree SearchFault) (a : Assignment) → searched x r ≡ Err (Falsified a) → r ≡ Err (search.Falsified a)
  is_falsified (Ok t) a e = cc
  is_falsified (Err (search.Falsified b)) a e = let same : b ≡ a = cc in ap (λ c. Err (search.Falsified c)) same
  is_falsified (Err search.Budget) a e = cc
  is_falsified (Err search.Memory) a e = cc

  walk_falsified : (w : Walk) (a : Assignment) → verdict w ≡ Err (search.Falsified a) → (k : ℕ) × (w ≡ falsified k a)
  walk_falsified (proved t) a e = cc
  walk_falsified (falsified k b) a e = let same : b ≡ a = cc in (k, ap (falsified k) same)

  over_budget : {P : Type 0} (r : Result Tree SearchFault) (a : Assignment) → r ≡ Err search.Budget → r ≡ Err (search.Falsified a) → P
  over_budget r a e f = cc

  found_falsified : (n : ℕ) (w : Walk) (a : Assignment) → found n w ≡ Err (search.Falsified a) → (k : ℕ) × (w ≡ falsified k a)
  found_falsified n w a e =
      split (nat_lt n (visits w))
      (λ over. over_budget (found n w) a (ap (λ b. if b then Err search.Budget else verdict w) over) e)
      (λ within. walk_falsified w a (sym (ap (λ b. if b then Err search.Budget else verdict w) within) ∙ e))

  pub falsified_walk : (n : ℕ) (a : Assignment) → checking x n ≡ Err (Falsified a) → (k : ℕ) × (walk (deep_sequent x) ≡ falsified k a)
  unfolding checking
  falsified_walk n a e =
      let last : Result Expansion ExpFault = searched x (found n (walk (deep_sequent x))) in
      let rest : Result Expansion ExpFault = or_fault Cycle (cycle x) last in
      let free : Option Var = find (is_free_eigenvariable (shallow_sequent x) (strongs_of x)) (variables x) in
      found_falsified n (walk (deep_sequent x)) a
      (is_falsified (found n (walk (deep_sequent x))) a
      (is_false Cycle (cycle x) last a (λ b h. cc)
      (is_false EigenFree free rest a (λ b h. cc)
      (is_false EigenTwice (find (is_repeated (strongs_of x)) (variables x)) (or_fault EigenFree free rest) a (λ b h. cc) e))))
