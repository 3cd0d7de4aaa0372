-- The variables that a check of expansion trees names are well formed.
use Rattle.std.proofs.Common.{◌≡◌, ℕ, zero, suc, Bool, true, false, cond, ◌&&◌, ◌||◌, List, [], ◌∷◌, ◌++◌, Option, Some, None, Result, Ok, Err, refl, sym, ap, subst, ◌∙◌}
use Rattle.std.specs.Prelude.{find, IfSome, is_some}
use Rattle.std.specs.List.{All, list_all, list_any}
use Rattle.std.specs.Option.{option_map, option_map_or, option_and_then}
use Rattle.std.specs.Ordering.{eq_by_cmp}
use Rattle.std.specs.Cmp.Derive.{both_true}
use Rattle.std.proofs.lemmas.Bool.{and_parts}
use Rattle.std.proofs.lemmas.List.Elements.{All-nil, All-cons, All-head, All-tail}
use Rattle.std.proofs.lemmas.List.Folds.{list_all-append}
use Rattle.std.proofs.lemmas.List.Sums.{AllPass-from_list_all, list_all-from_AllPass}
use Rattle.finite.specs.Finite as set
use Rattle.finite.proofs.Finite.{has-listing, has-empty, has-adds_each, all_among}
use Rattle.fol.specs.declared.symbols.Var.{Var}
use Rattle.fol.specs.Order.{var_cmp}
use Rattle.fol.specs.OrderLaws.{var_total}
use Rattle.fol.specs.Formed.{is_formed, is_formed_term, is_formed_var, IsFormedVar}
use Rattle.fol.proofs.OrderTies.{var_ties}
use Rattle.proof_trees.specs.Trees.{Tree as ProofTree}
use Rattle.search_laws.specs.Search.{walk}
use Rattle.search_laws.specs.declared.fault.SearchFault.{SearchFault}
use Rattle.search_laws.specs.declared.fault.SearchFault.TheVariants as search
use Rattle.search_laws.specs.Budgets.{found}
use Rattle.expansion_laws.specs.Expansions.{Exp as Tree, wk, leaf, neg, conj, disj, impl, weak, strong, Insts, none, more}
use Rattle.expansion_laws.specs.Dependency.{Expansion, strongs, strongs_in, strongs_each, strongs_of, is_before}
use Rattle.expansion_laws.specs.Proofs.{shallow_sequent}
use Rattle.expansion_laws.specs.Sequents.{deep_sequent}
use Rattle.expansion_laws.specs.Formed.{is_formed_exp, are_formed_insts}
use Rattle.exp_tree.specs.Sequents.{AreArranged}
use Rattle.exp_tree.specs.Reads.{expansion_of}
use Rattle.exp_tree.specs.declared.sequents.ExpSequent.{ExpSequent}
use Rattle.expansion_laws.specs.declared.fault.ExpFault.{ExpFault}
use Rattle.expansion_laws.specs.declared.fault.ExpFault.TheVariants.{EigenTwice, EigenFree, Cycle, Falsified, Budget, Memory}
use Rattle.expansion_laws.specs.Eigenvariables.{is_repeated, is_free_eigenvariable}
use Rattle.expansion_laws.specs.Cycles.{fewest, leads, way, cycle_from, first_cycle, variables, cycle}
use Rattle.step_laws.specs.Faults.{or_fault}
use Rattle.expansion_laws.specs.Checking.{searched, checking}
use Rattle.exp_check.specs.Checking.{Checks}
use Rattle.operations.specs.Means.{HasFormedVars}

-- the strong quantifiers of trees that name what is well formed

joined : (vs ws : List Var) → list_all is_formed_var vs ≡ true → list_all is_formed_var ws ≡ true → list_all is_formed_var (vs ++ ws) ≡ true
joined vs ws first second = list_all-append is_formed_var vs ws ∙ both_true first second

mutual
  tree_vars : (e : Tree) → is_formed_exp e ≡ true → list_all is_formed_var (strongs e) ≡ true
  tree_vars (wk f) h = refl
  tree_vars (leaf f) h = refl
  tree_vars (neg e) h = tree_vars e h
  tree_vars (conj d e) h = let parts = and_parts _ _ h in joined (strongs d) (strongs e) (tree_vars d parts.0) (tree_vars e parts.1)
  tree_vars (disj d e) h = let parts = and_parts _ _ h in joined (strongs d) (strongs e) (tree_vars d parts.0) (tree_vars e parts.1)
  tree_vars (impl d e) h = let parts = and_parts _ _ h in joined (strongs d) (strongs e) (tree_vars d parts.0) (tree_vars e parts.1)
  tree_vars (weak f is) h = insts_vars is (and_parts _ _ h).1
  tree_vars (strong f y e) h =
      let parts = and_parts (is_formed f && is_formed_var y) (is_formed_exp e) h in
      both_true (and_parts (is_formed f) (is_formed_var y) parts.0).1 (tree_vars e parts.1)

  insts_vars : (is : Insts) → are_formed_insts is ≡ true → list_all is_formed_var (strongs_in is) ≡ true
  insts_vars none h = refl
  insts_vars (more t e is) h =
      let parts = and_parts (is_formed_term t && is_formed_exp e) (are_formed_insts is) h in
      joined (strongs e) (strongs_in is) (tree_vars e (and_parts (is_formed_term t) (is_formed_exp e) parts.0).1) (insts_vars is parts.1)

each_vars : (es : List Tree) → list_all is_formed_exp es ≡ true → list_all is_formed_var (strongs_each es) ≡ true
each_vars [] h = refl
each_vars (e ∷ es) h = let parts = and_parts _ _ h in joined (strongs e) (strongs_each es) (tree_vars e parts.0) (each_vars es parts.1)

pub strongs_formed : (e : ExpSequent) → AreArranged e.left → AreArranged e.right → All IsFormedVar (strongs_of (expansion_of e))
strongs_formed e left right =
    AllPass-from_list_all is_formed_var (strongs_of (expansion_of e)) (joined (strongs_each e.left) (strongs_each e.right) (each_vars e.left left.formed) (each_vars e.right right.formed))

-- the variables of a set of them
listed_formed : (vs : List Var) → All IsFormedVar vs → All IsFormedVar (set.listing (set.adds_each (set.empty {R = var_cmp}) vs))
listed_formed vs formed =
    let js = set.listing (set.adds_each (set.empty {R = var_cmp}) vs) in
    AllPass-from_list_all is_formed_var js
    (all_among var_total is_formed_var (λ q w tie. ap is_formed_var (sym (var_ties q w tie))) vs js (list_all-from_AllPass is_formed_var vs formed) (λ q there.
    sym (ap (λ b. b || list_any (eq_by_cmp var_cmp q) vs) (has-empty var_cmp q)) ∙ sym (has-adds_each var_total (set.empty {R = var_cmp}) vs q)
    ∙ has-listing (set.adds_each (set.empty {R = var_cmp}) vs) q ∙ there))

-- what is found among them
first_formed : (p : Var → Bool) (vs : List Var) → All IsFormedVar vs → IfSome (find p vs) IsFormedVar
first_formed p [] formed = tt
first_formed p (v ∷ vs) formed =
    elim (p v) as (λ b. IfSome (cond b (Some v) (find p vs)) IsFormedVar) [
      | true ↦ All-head IsFormedVar v vs formed
      | false ↦ first_formed p vs (All-tail IsFormedVar v vs formed)
    ]

-- a cycle among them
module _ (before : Var → Var → Bool) (all : List Var) (formed : All IsFormedVar all) where
  way_by : (n : ℕ) (z : Var) (o : Option Var) → ((w : Var) → All IsFormedVar (way before all n w z)) → IfSome o IsFormedVar
      → All IsFormedVar (option_map_or (λ w. w ∷ way before all n w z) o [])
  way_by n z None rest first = All-nil IsFormedVar
  way_by n z (Some w) rest first = All-cons IsFormedVar w (way before all n w z) first (rest w)

  way_formed : (n : ℕ) (y z : Var) → All IsFormedVar (way before all n y z)
  way_formed zero y z = All-nil IsFormedVar
  way_formed (suc n) y z =
      way_by n z (find (λ w. before y w && leads before all n w z) all) (λ w. way_formed n w z) (first_formed (λ w. before y w && leads before all n w z) all formed)

  from_formed : (v : Var) (o : Option ℕ) → IsFormedVar v → IfSome (option_map (λ n. v ∷ way before all n v v) o) (All IsFormedVar)
  from_formed v None first = tt
  from_formed v (Some n) first = All-cons IsFormedVar v (way before all n v v) first (way_formed n v v)

  at_formed : (o : Option Var) → IfSome o IsFormedVar → IfSome (option_and_then (cycle_from before all) o) (All IsFormedVar)
  at_formed None first = tt
  at_formed (Some v) first = from_formed v (fewest before all v v) first

  cycle_formed : IfSome (first_cycle before all) (All IsFormedVar)
  cycle_formed = at_formed (find (λ v. is_some (fewest before all v v)) all) (first_formed (λ v. is_some (fewest before all v v)) all formed)

-- a fault names the variables that were found
named : (x : Expansion) (twice free : Option Var) (vs : Option (List Var)) (r : Result ProofTree SearchFault) (fault : ExpFault) → IfSome twice IsFormedVar → IfSome free IsFormedVar
    → IfSome vs (All IsFormedVar) → or_fault EigenTwice twice (or_fault EigenFree free (or_fault Cycle vs (searched x r))) ≡ Err fault → HasFormedVars fault
named x (Some v) free vs r fault one two three is = let same : EigenTwice v ≡ fault = cc in subst HasFormedVars same one
named x None (Some v) vs r fault one two three is = let same : EigenFree v ≡ fault = cc in subst HasFormedVars same two
named x None None (Some ws) r fault one two three is = let same : Cycle ws ≡ fault = cc in subst HasFormedVars same three
named x None None None (Ok t) fault one two three is = cc
named x None None None (Err (search.Falsified a)) fault one two three is = let same : Falsified a ≡ fault = cc in subst HasFormedVars same tt
named x None None None (Err search.Budget) fault one two three is = let same : Budget ≡ fault = cc in subst HasFormedVars same tt
named x None None None (Err search.Memory) fault one two three is = let same : Memory ≡ fault = cc in subst HasFormedVars same tt

found_formed : (x : Expansion) (n : ℕ) (fault : ExpFault) → All IsFormedVar (strongs_of x) → checking x n ≡ Err fault → HasFormedVars fault
unfolding checking cycle
found_formed x n fault formed is =
    let vs = listed_formed (strongs_of x) formed in
    let free = is_free_eigenvariable (shallow_sequent x) (strongs_of x) in
    named x (find (is_repeated (strongs_of x)) (variables x)) (find free (variables x)) (cycle x) (found n (walk (deep_sequent x))) fault
    (first_formed (is_repeated (strongs_of x)) (variables x) vs) (first_formed free (variables x) vs) (cycle_formed (is_before x) (variables x) vs) is

pub fault_formed : (x : Expansion) (n : ℕ) (fault : ExpFault) → All IsFormedVar (strongs_of x) → Checks (Err fault) (checking x n) → HasFormedVars fault
fault_formed x n (EigenTwice v) formed is = found_formed x n (EigenTwice v) formed is
fault_formed x n (EigenFree v) formed is = found_formed x n (EigenFree v) formed is
fault_formed x n (Cycle vs) formed is = found_formed x n (Cycle vs) formed is
fault_formed x n (Falsified a) formed is = tt
fault_formed x n Budget formed is = tt
fault_formed x n Memory formed is = tt
