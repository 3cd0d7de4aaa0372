-- A search for a sequent without quantifiers decides it: it ends at a proof where no assignment makes the sequent false, and else at one that does.
use Rattle.std.proofs.Common.{◌≡◌, ℕ, zero, suc, ◌<◌, true, false, List, [], ◌∷◌, Some, None, refl, subst, ◌∙◌, arith}
use Rattle.std.specs.List.{AllByRecursion, list_all, list_any}
use Rattle.fol.specs.Syntax.{Formula}
use Rattle.finite.specs.Finite as set
use Rattle.lk_rules.specs.declared.sequent.Sequent.{Sequent}
use Rattle.lk_rules.specs.declared.rule.Rule.{Rule}
use Rattle.lk_rules.specs.Rules.{needs}
use Rattle.lk_rules.proofs.Subsequents.{and_both}
use Rattle.proof_trees.specs.Trees.{Tree}
use Rattle.proof_trees.proofs.Booleans.{or_first, or_second}
use Rattle.search_laws.specs.Truth.{Assignment, has_quantifier, IsPropositional, IsTautology, falsifies}
use Rattle.search_laws.specs.Search.{premise_at, premises_from, rule_at, Walk, proved, falsified, Walks, all_proved, one_falsified, with_first, walk_each, inferred, by_rule, weight, walk_within, walk}
use Rattle.search_laws.proofs.Tests.{clash, fails, neither, not_false}
use Rattle.search_laws.proofs.Passing.{passes, each_premise}
use Rattle.search_laws.proofs.Searched.{Fits, is_propositional, propositional_by_parts, premise_passes}
use Rattle.search_laws.proofs.Taken.{rule_fits, no_rule}
use Rattle.search_laws.proofs.TruthTables.{falsifies-premises}
use Rattle.search_laws.proofs.Lower.{lower_premise}
use Rattle.search_laws.proofs.Untaken.{falsified_by_atoms}

-- what a search comes to is right about the sequent, and searches for some sequents about these
abbrev IsRight : Sequent → Walk → Type 0
IsRight s (proved t) = IsTautology s
IsRight s (falsified n a) = falsifies a s ≡ true

abbrev AreRight : List Sequent → Walks → Type 0
AreRight ss (all_proved ts) = (a : Assignment) → list_any (falsifies a) ss ≡ false
AreRight ss (one_falsified n a) = list_any (falsifies a) ss ≡ true

-- the first of several searches, and the others
first_right : (s : Sequent) (ss : List Sequent) (w : Walk) (ws : Walks) → IsRight s w → AreRight ss ws → AreRight (s ∷ ss) (with_first w ws)
first_right s ss (proved t) (all_proved ts) h g = λ a. neither _ _ (h a) (g a)
first_right s ss (proved t) (one_falsified n a) h g = or_second (falsifies a s) _ g
first_right s ss (falsified n a) ws h g = or_first (falsifies a s) _ h

-- searches that are right about each sequent are right about all
each_right : (look : Sequent → Walk) (ss : List Sequent) → AllByRecursion (λ s. IsRight s (look s)) ss → AreRight ss (walk_each look ss)
each_right look [] h = λ a. refl
each_right look (s ∷ ss) h = first_right s ss (look s) (walk_each look ss) h.0 (each_right look ss h.1)

-- a search by a rule, after right searches for the premises
rule_right : (r : Rule) (s : Sequent) (ws : Walks) → Fits r s → AreRight (premises_from r s 0 (needs r)) ws → IsRight s (inferred r s ws)
rule_right r s (all_proved ts) fits h = λ a. falsifies-premises a r s fits ∙ h a
rule_right r s (one_falsified n a) fits h = falsifies-premises a r s fits ∙ h

-- a search with room for all inferences is right
within_right : (n : ℕ) (s : Sequent) → weight s < n → passes (λ side. is_propositional) s ≡ true → IsRight s (walk_within n s)
unfolding walk_within
within_right zero s l plain = absurd (omega arith)
within_right (suc n) s l plain =
    elim (rule_at s) as (λ o. rule_at s ≡ o → IsRight s (by_rule (walk_within n) s o)) [
      | None ↦ λ e. falsified_by_atoms s (no_rule s e) plain
      | Some r ↦ λ e.
          let fits = rule_fits s r e in
          rule_right r s (walk_each (walk_within n) (premises_from r s 0 (needs r))) fits
          (each_right (walk_within n) (premises_from r s 0 (needs r))
          (each_premise (λ p. IsRight p (walk_within n p)) r s 0 (needs r)
          (λ j below.
          let lower : weight (premise_at r s j) < weight s = lower_premise r s j fits (omega arith) in
          within_right n (premise_at r s j) (omega arith) (premise_passes is_propositional propositional_by_parts r s j fits plain))))
    ] refl

-- where no formula of a list has a quantifier, each formula is without
pub none_quantified : (fs : List Formula) → list_any has_quantifier fs ≡ false → list_all is_propositional fs ≡ true
none_quantified [] e = refl
none_quantified (f ∷ fs) e =
    and_both _ _
    (not_false _ (fails (has_quantifier f) (λ h. clash _ (or_first (has_quantifier f) (list_any has_quantifier fs) h) e)))
    (none_quantified fs (fails (list_any has_quantifier fs) (λ h. clash _ (or_second (has_quantifier f) (list_any has_quantifier fs) h) e)))

-- the search is right
walk_right : (s : Sequent) → IsPropositional s → IsRight s (walk s)
unfolding walk
walk_right s plain = within_right _ s (omega arith) (and_both _ _ (none_quantified (set.listing s.left) plain.left) (none_quantified (set.listing s.right) plain.right))

-- the search proves a tautology
pub tautology_proved : (s : Sequent) → IsPropositional s → IsTautology s → (t : Tree) × (walk s ≡ proved t)
tautology_proved s plain h =
    elim (walk s) as (λ w. walk s ≡ w → IsRight s w → (t : Tree) × (walk s ≡ proved t)) [
      | proved t ↦ λ e right. (t, e)
      | falsified n a ↦ λ e right. clash (falsifies a s) right (h a)
    ] refl (walk_right s plain)

-- what the search proves is a tautology
pub proved_tautology : (s : Sequent) (t : Tree) → IsPropositional s → walk s ≡ proved t → IsTautology s
proved_tautology s t plain e = subst (λ w. IsRight s w) e (walk_right s plain)

-- the assignment that a search ends at makes the sequent false
pub falsified_right : (s : Sequent) (n : ℕ) (a : Assignment) → IsPropositional s → walk s ≡ falsified n a → falsifies a s ≡ true
falsified_right s n a plain e = subst (λ w. IsRight s w) e (walk_right s plain)
