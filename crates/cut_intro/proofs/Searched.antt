-- What a search that finds a proof answers within a budget.
use Rattle.std.proofs.Common.{◌≡◌, ℕ, ◌<◌, ◌≤◌, Bool, true, false, refl, arith, if◌then◌else◌}
use Rattle.std.specs.Prelude.{Result, Ok, Err, nat_lt}
use Rattle.std.proofs.lemmas.Bool.Decides.{nat_tests}
use Rattle.proof_trees.specs.Trees.{Tree}
use Rattle.search_laws.specs.Truth.{Assignment}
use Rattle.search_laws.specs.Search.{Walk, proved, falsified, visits}
use Rattle.search_laws.specs.declared.fault.SearchFault.{SearchFault}
use Rattle.search_laws.specs.declared.fault.SearchFault.TheVariants.{Falsified, Budget, Memory}
use Rattle.search_laws.specs.Budgets.{verdict, found}
use Rattle.prop_search.specs.Deciding.{IsProved}

not_above : (n m : ℕ) → nat_lt n m ≡ false → m ≤ n
not_above n m h = grind (arith, nat_tests)

is_above : (n m : ℕ) → nat_lt n m ≡ true → n < m
is_above n m h = grind (arith, nat_tests)

-- what is found visits no more sequents
pub found_within : (n : ℕ) (w : Walk) (t : Tree) → found n w ≡ Ok t → visits w ≤ n
found_within n w t e = go (nat_lt n (visits w)) refl e
  where
    go : (b : Bool) → nat_lt n (visits w) ≡ b → (if b then Err Budget else verdict w) ≡ Ok t → visits w ≤ n
    go true h e = absurd (cc)
    go false h e = not_above n (visits w) h

no_budget : (w : Walk) → IsProved w → verdict w ≡ Err Budget → ⊥
no_budget (proved t) h e = cc
no_budget (falsified n a) h e = h

-- where the budget is too small, more are visited
pub found_short : (n : ℕ) (w : Walk) → IsProved w → found n w ≡ Err Budget → n < visits w
found_short n w p e = go (nat_lt n (visits w)) refl e
  where
    go : (b : Bool) → nat_lt n (visits w) ≡ b → (if b then Err Budget else verdict w) ≡ Err Budget → n < visits w
    go true h e = is_above n (visits w) h
    go false h e = absurd (no_budget w p e)

-- no sequent is false
pub found_false : (n : ℕ) (w : Walk) (a : Assignment) → IsProved w → found n w ≡ Err (Falsified a) → ⊥
found_false n w a p e = go (nat_lt n (visits w)) w p e
  where
    go : (b : Bool) (v : Walk) → IsProved v → (if b then Err Budget else verdict v) ≡ Err (Falsified a) → ⊥
    go true v q h = cc
    go false (proved t) q h = cc
    go false (falsified n b) q h = q

-- and the budget isn't too small where the search fits it
pub found_enough : (n : ℕ) (w : Walk) → IsProved w → visits w ≤ n → found n w ≡ Err Budget → ⊥
found_enough n w p h e = let more = found_short n w p e in omega arith

-- what is found is the proof
pub found_proof : (n : ℕ) (w : Walk) (t : Tree) → found n w ≡ Ok t → w ≡ proved t
found_proof n w t e = go (nat_lt n (visits w)) w e
  where
    go : (b : Bool) (v : Walk) → (if b then Err Budget else verdict v) ≡ Ok t → v ≡ proved t
    go true v h = absurd (cc)
    go false (proved u) h = cc
    go false (falsified k a) h = cc
