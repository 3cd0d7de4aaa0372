-- A search for a variable that is free in a formula and isn't in a list, and the size that it has.
use Rattle.std.proofs.Common.{◌≡◌, ℕ, suc, ◌+◌, ◌<◌, ◌≤◌, Bool, true, false, leb, is_some, cond, ◌||◌, List, [], length, drop, get_or, find, Option, Some, None, sym, ap, ◌∙◌, arith, drop-cons}
use Rattle.std.specs.List.{list_any}
use Rattle.std.specs.Ordering.{eq_by_cmp}
use Rattle.std.proofs.lemmas.Bool.Decides.{nat_tests}
use Rattle.std.proofs.lemmas.List.{drop_all}
use Rattle.fol.specs.declared.symbols.Var.{Var}
use Rattle.fol.specs.Syntax.{Formula}
use Rattle.fol.specs.Order.{var_cmp}
use Rattle.fol.specs.OrderLaws.{var_total}
use Rattle.finite.specs.Finite as set
use Rattle.finite.proofs.Finite.{has-empty, has-adds_each}
use Rattle.free_variables.specs.Fresh.{is_among}
use Rattle.def_laws.specs.Flat.{flat}
use Rattle.def_laws.specs.Nodes.{nodes_of}
use Rattle.def_symbols.specs.Weights.{weight_of}
use Rattle.def_symbols.proofs.Bodies.{Leaves}
use Rattle.def_symbols.proofs.WeightLaws.{weight-none}

-- the set of a list's variables
pub listed_members : (vs : List Var) (v : Var) → set.has (set.adds_each (set.empty {R = var_cmp}) vs) v ≡ is_among v vs
listed_members vs v = has-adds_each var_total set.empty vs v ∙ ap (λ b. b || list_any (eq_by_cmp var_cmp v) vs) (has-empty var_cmp v)

module _ (p : Var → Bool) (ks : List Var) where
  -- nothing is found before a place
  abbrev pub IsPast : ℕ → Type 0
  IsPast i = find p ks ≡ find p (drop i ks)

  step : (i : ℕ) (k : Var) → IsPast i → i < length ks → k ≡ get_or ks i k → find p ks ≡ cond (p k) (Some k) (find p (drop (i + 1) ks))
  step i k past below is =
      let next : suc i ≡ i + 1 = omega arith in
      past
      ∙ ap (find p) (drop-cons ks i k below)
      ∙ (λ j. cond (p (sym is j)) (Some (sym is j)) (find p (drop (next j) ks)))

  pub found_at : (i : ℕ) (k : Var) → IsPast i → i < length ks → k ≡ get_or ks i k → p k ≡ true → find p ks ≡ Some k
  found_at i k past below is passes = step i k past below is ∙ ap (λ b. cond b (Some k) (find p (drop (i + 1) ks))) passes

  pub past_more : (i : ℕ) (k : Var) → IsPast i → i < length ks → k ≡ get_or ks i k → p k ≡ false → IsPast (i + 1)
  past_more i k past below is fails = step i k past below is ∙ ap (λ b. cond b (Some k) (find p (drop (i + 1) ks))) fails

  pub none_found : (i : ℕ) → IsPast i → length ks ≤ i → find p ks ≡ None
  none_found i past h = past ∙ ap (find p) (drop_all i ks h)

-- whether something is left says whether there are few enough nodes

enough : (n : ℕ) (rest : ℕ) → rest + n ≡ 10000 → true ≡ leb n 10000
enough n rest h = grind (arith, nat_tests)

too_many : (n : ℕ) → 10000 < n → false ≡ leb n 10000
too_many n h = grind (arith, nat_tests)

left_says : (o : Option ℕ) (n : ℕ) → Leaves 10000 n o → is_some o ≡ leb n 10000
left_says None n h = too_many n h
left_says (Some rest) n h = enough n rest h

pub small_answer : (o : Option ℕ) (f : Formula) → Leaves 10000 (weight_of [] 0 (flat f)) o → is_some o ≡ leb (nodes_of (flat f)) 10000
small_answer o f h = left_says o (weight_of [] 0 (flat f)) h ∙ ap (λ n. leb n 10000) (weight-none 0 (flat f))
