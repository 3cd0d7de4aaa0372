-- What a search finds within a budget is what the whole search comes to.
use Rattle.std.proofs.Common.{◌≡◌, ℕ, Bool, true, false, cond, Ok, Err, ap}
use Rattle.std.specs.Prelude.{nat_lt}
use Rattle.proof_trees.specs.Trees.{Tree}
use Rattle.search_laws.specs.Search.{Walk, proved, falsified, visits}
use Rattle.search_laws.specs.declared.fault.SearchFault.TheVariants as search
use Rattle.search_laws.specs.Budgets.{verdict, found}

-- a proof that is found within a budget is that of the whole search
pub found_proved : (n : ℕ) (w : Walk) (t : Tree) → found n w ≡ Ok t → w ≡ proved t
found_proved n w t is = by_test (nat_lt n (visits w)) w is
  where
    by_walk : (v : Walk) → verdict v ≡ Ok t → v ≡ proved t
    by_walk (proved u) same = let trees : u ≡ t = cc in ap proved trees
    by_walk (falsified k a) same = cc

    by_test : (b : Bool) (v : Walk) → cond b (Err search.Budget) (verdict v) ≡ Ok t → v ≡ proved t
    by_test true v same = cc
    by_test false v same = by_walk v same
