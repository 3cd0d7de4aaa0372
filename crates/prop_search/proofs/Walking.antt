-- How a walk and its parts use up a budget.
use Rattle.std.proofs.Common.{◌≡◌, ℕ, suc, ◌+◌, ◌<◌, ◌≤◌, Bool, true, false, Some, None, refl, sym, ap, subst, ◌∙◌, arith, if◌then◌else◌}
use Rattle.std.specs.Prelude.{◌↔◌, Result, Ok, Err, IfOk, nat_lt}
use Rattle.std.proofs.lemmas.Bool.Decides.{nat_tests}
use Rattle.lk_rules.specs.declared.sequent.Sequent.{Sequent}
use Rattle.lk_rules.specs.declared.rule.Rule.{Rule}
use Rattle.lk_rules.specs.Rules.{needs}
use Rattle.proof_trees.specs.Trees.{Tree, node, none, more, size}
use Rattle.search_laws.specs.Truth.{Assignment, IsTautology}
use Rattle.search_laws.specs.Search.{Walk, proved, falsified, Walks, all_proved, one_falsified, visits, premises_from, after_first, with_first, walk_each, inferred, by_rule, rule_at, left_atoms, walk}
use Rattle.search_laws.specs.declared.fault.SearchFault.{SearchFault}
use Rattle.search_laws.specs.declared.fault.SearchFault.TheVariants.{Falsified, Budget, Memory}
use Rattle.search_laws.specs.Budgets.{verdict, found}
use Rattle.prop_search.specs.Deciding.{Decides, visits_each, WalksTo, WalkInTurn}

-- the walk at a sequent

-- a search visits its sequent and what the searches for the premises visit
visited : (r : Rule) (s : Sequent) (ws : Walks) → visits (inferred r s ws) ≡ suc (visits_each ws)
visited r s (all_proved ts) = omega arith
visited r s (one_falsified n a) = refl

-- so it visits one sequent at least
pub some_visited : (s : Sequent) → walk s ≡ by_rule walk s (rule_at s) → 0 < visits (walk s)
some_visited s e =
    subst (λ w. 0 < visits w) (sym e)
    (elim (rule_at s) as (λ o. 0 < visits (by_rule walk s o)) [
      | None ↦ omega arith
      | Some r ↦ let all = visited r s (walk_each walk (premises_from r s 0 (needs r))) in omega arith
    ])

-- a false sequent
pub at_leaf : (s : Sequent) (a : Assignment) (n m : ℕ) → walk s ≡ by_rule walk s (rule_at s) → rule_at s ≡ None → a ≡ left_atoms s → 0 < n → WalksTo (Err (Falsified a)) n m (walk s)
at_leaf s a n m e untaken is some = (1, e ∙ ap (by_rule walk s) untaken ∙ ap (falsified 1) (sym is), omega arith)

inferred_to : (r : Rule) (s : Sequent) (result : Result (Unit {0}) SearchFault) (n k m : ℕ) (ws : Walks) → n ≡ suc k → WalkInTurn result k m ws → WalksTo result n m (inferred r s ws)
inferred_to r s (Ok u) n k m ws one h = (node r s h.0, ap (inferred r s) h.1, omega (arith, h.2))
inferred_to r s (Err Memory) n k m ws one h = tt
inferred_to r s (Err Budget) n k m ws one h = let all = visited r s ws in omega arith
inferred_to r s (Err (Falsified a)) n k m ws one h = (suc h.0, ap (inferred r s) h.1, omega (arith, h.2))

-- a sequent with premises
pub by_premises : (s : Sequent) (r : Rule) (result : Result (Unit {0}) SearchFault) (n k m : ℕ) → walk s ≡ by_rule walk s (rule_at s) → rule_at s ≡ Some r → n ≡ suc k
    → WalkInTurn result k m (walk_each walk (premises_from r s 0 (needs r))) → WalksTo result n m (walk s)
by_premises s r result n k m e taken one h =
    subst (WalksTo result n m) (sym (e ∙ ap (by_rule walk s) taken)) (inferred_to r s result n k m (walk_each walk (premises_from r s 0 (needs r))) one h)

-- a sequent without
pub closed : (s : Sequent) (r : Rule) (n k : ℕ) → walk s ≡ by_rule walk s (rule_at s) → rule_at s ≡ Some r → needs r ≡ 0 → n ≡ suc k → WalksTo (Ok tt) n k (walk s)
closed s r n k e taken none_needed one =
    by_premises s r (Ok tt) n k k e taken one (subst (λ i. WalkInTurn (Ok tt) k k (walk_each walk (premises_from r s 0 i))) (sym none_needed) (none, refl, omega arith))

-- the walks at premises in turn

-- at just one
pub alone : (result : Result (Unit {0}) SearchFault) (n m : ℕ) (w : Walk) → WalksTo result n m w → WalkInTurn result n m (with_first w (all_proved none))
alone (Ok u) n m w h = (more h.0 none, ap (λ v. with_first v (all_proved none)) h.1, omega (arith, h.2))
alone (Err Memory) n m w h = tt
alone (Err Budget) n m (proved t) h = omega arith
alone (Err Budget) n m (falsified j a) h = h
alone (Err (Falsified a)) n m w h = (h.0, ap (λ v. with_first v (all_proved none)) h.1, h.2)

then_rest : (t : Tree) (result : Result (Unit {0}) SearchFault) (n k m : ℕ) (ws : Walks) → n ≡ k + size t → WalkInTurn result k m ws → WalkInTurn result n m (after_first t ws)
then_rest t (Ok u) n k m ws first h = (more t h.0, ap (after_first t) h.1, omega (arith, h.2))
then_rest t (Err Memory) n k m ws first h = tt
then_rest t (Err Budget) n k m (all_proved ts) first h = omega arith
then_rest t (Err Budget) n k m (one_falsified j a) first h = omega arith
then_rest t (Err (Falsified a)) n k m ws first h = (size t + h.0, ap (after_first t) h.1, omega (arith, h.2))

-- the walk at the first ends at a fault
pub fails_first : (fault : SearchFault) (n m : ℕ) (w : Walk) (ws : Walks) → WalksTo (Err fault) n m w → WalkInTurn (Err fault) n m (with_first w ws)
fails_first Memory n m w ws h = tt
fails_first Budget n m (proved t) (all_proved ts) h = omega arith
fails_first Budget n m (proved t) (one_falsified j a) h = omega arith
fails_first Budget n m (falsified j a) ws h = h
fails_first (Falsified a) n m w ws h = (h.0, ap (λ v. with_first v ws) h.1, h.2)

-- or it finds a proof, and the other follows
pub other_follows : (result : Result (Unit {0}) SearchFault) (n k m : ℕ) (w v : Walk) → WalksTo (Ok tt) n k w → WalksTo result k m v → WalkInTurn result n m (with_first w (with_first v (all_proved none)))
other_follows result n k m w v first h =
    subst (λ u. WalkInTurn result n m (with_first u (with_first v (all_proved none)))) (sym first.1)
    (then_rest first.0 result n k m (with_first v (all_proved none)) first.2 (alone result k m v h))

-- the whole walk within a budget

not_above : (n m : ℕ) → m ≤ n → nat_lt n m ≡ false
not_above n m h = grind (arith, nat_tests)

above : (n m : ℕ) → n < m → nat_lt n m ≡ true
above n m h = grind (arith, nat_tests)

in_budget : (n : ℕ) (w : Walk) → visits w ≤ n → found n w ≡ verdict w
in_budget n w h = ap (λ b. if b then Err Budget else verdict w) (not_above n (visits w) h)

-- what the walk does with the budget is what is decided
pub decides : (result : Result (Unit {0}) SearchFault) (n m : ℕ) (w : Walk) → WalksTo result n m w → Decides result (found n w)
decides (Ok u) n m w h = (h.0, ap (found n) h.1 ∙ in_budget n (proved h.0) (omega (arith, h.2)))
decides (Err Memory) n m w h = tt
decides (Err Budget) n m w h = ap (λ b. if b then Err Budget else verdict w) (above n (visits w) h)
decides (Err (Falsified a)) n m w h = ap (found n) h.1 ∙ in_budget n (falsified h.0 a) h.2

-- what is decided by a walk

by_verdict : (b : Bool) (w : Walk) (t : Tree) → (if b then Err Budget else verdict w) ≡ Ok t → w ≡ proved t
by_verdict true w t e = cc
by_verdict false (proved u) t e = cc
by_verdict false (falsified n a) t e = cc

-- a proof was found
pub proof_found : (n : ℕ) (w : Walk) (t : Tree) → found n w ≡ Ok t → w ≡ proved t
proof_found n w t e = by_verdict (nat_lt n (visits w)) w t e

-- the sequent is a tautology
pub tautology_found : (result : Result (Unit {0}) SearchFault) (n m : ℕ) (s : Sequent) → WalksTo result n m (walk s) → (IsTautology s ↔ ((t : Tree) × (walk s ≡ proved t))) → IfOk result (λ _. IsTautology s)
tautology_found (Ok u) n m s h law = law.1 (h.0, h.1)
tautology_found (Err e) n m s h law = tt

-- it is false
pub false_found : (result : Result (Unit {0}) SearchFault) (n m : ℕ) (w : Walk) (a : Assignment) → WalksTo result n m w → result ≡ Err (Falsified a) → (k : ℕ) × (w ≡ falsified k a)
false_found result n m w a h e = let at = subst (λ r. WalksTo r n m w) e h in (at.0, at.1)
