-- The bound on the height of a search does not matter: a search looks into the premises by the same search.
use Rattle.std.proofs.Common.{◌≡◌, ℕ, zero, suc, ◌<◌, List, [], ◌∷◌, Some, None, refl, ap, ◌∙◌, arith}
use Rattle.std.specs.List.{AllByRecursion}
use Rattle.lk_rules.specs.declared.sequent.Sequent.{Sequent}
use Rattle.lk_rules.specs.Rules.{needs}
use Rattle.search_laws.specs.Search.{premise_at, premises_from, rule_at, Walk, with_first, walk_each, inferred, by_rule, weight, walk_within, walk}
use Rattle.search_laws.proofs.Passing.{each_premise}
use Rattle.search_laws.proofs.Taken.{rule_fits}
use Rattle.search_laws.proofs.Lower.{lower_premise}

-- searches that come to the same for each sequent come to the same for all in turn
each_same : (look again : Sequent → Walk) (ss : List Sequent) → AllByRecursion (λ s. look s ≡ again s) ss → walk_each look ss ≡ walk_each again ss
each_same look again [] h = refl
each_same look again (s ∷ ss) h = λ i. with_first (h.0 i) (each_same look again ss h.1 i)

-- searches that come to the same for each sequent of fewer connectives come to the same by the rule that is taken
rule_same : (look again : Sequent → Walk) (s : Sequent) → ((p : Sequent) → weight p < weight s → look p ≡ again p) → by_rule look s (rule_at s) ≡ by_rule again s (rule_at s)
rule_same look again s same =
    elim (rule_at s) as (λ o. rule_at s ≡ o → by_rule look s o ≡ by_rule again s o) [
      | None ↦ λ e. refl
      | Some r ↦ λ e.
          ap (inferred r s) (each_same look again (premises_from r s 0 (needs r))
          (each_premise (λ p. look p ≡ again p) r s 0 (needs r) (λ j below. same (premise_at r s j) (lower_premise r s j (rule_fits s r e) (omega arith)))))
    ] refl

-- any two bounds above the number of connectives give the same
pub same_within : (n m : ℕ) (s : Sequent) → weight s < n → weight s < m → walk_within n s ≡ walk_within m s
unfolding walk_within
same_within zero m s l k = absurd (omega arith)
same_within (suc n) zero s l k = absurd (omega arith)
same_within (suc n) (suc m) s l k = rule_same (walk_within n) (walk_within m) s (λ p lower. same_within n m p (omega arith) (omega arith))

-- one more inference than its bound is by the rule that is taken
within_suc : (n : ℕ) (s : Sequent) → walk_within (suc n) s ≡ by_rule (walk_within n) s (rule_at s)
unfolding walk_within
within_suc n s = refl

-- a search is by the rule that is taken, and searches for its premises
pub walk-unrolled : (s : Sequent) → walk s ≡ by_rule walk s (rule_at s)
unfolding walk
walk-unrolled s = within_suc (weight s) s ∙ rule_same (walk_within (weight s)) walk s (λ p lower. same_within (weight s) (suc (weight p)) p lower (omega arith))
