-- What a search finds has no quantifier inference and no cut.
use Rattle.std.proofs.Common.{◌≡◌, ℕ, zero, suc, ◌+◌, true, false, not, if◌then◌else◌, List, [], ◌∷◌, Some, None, refl, subst}
use Rattle.lk_rules.specs.declared.sequent.Sequent.{Sequent}
use Rattle.lk_rules.specs.declared.rule.Rule.{Rule}
use Rattle.lk_rules.specs.declared.rule.Rule.TheVariants.{Ax, TopR, BotL, NegL, NegR, AndL, AndR, OrL, OrR, ImpL, ImpR}
use Rattle.lk_rules.specs.Rules.{needs}
use Rattle.lk_rules.proofs.Subsequents.{and_left, and_right}
use Rattle.proof_trees.specs.Trees.{Tree, node, Trees, none, more, is_cut, is_quantifier_rule, cut_free, cut_free_all, count_rules_all, cuts, quants}
use Rattle.search_laws.specs.Search.{premises_from, rule_at, Walk, proved, falsified, Walks, all_proved, one_falsified, with_first, walk_each, inferred, by_rule, walk_within, walk}
use Rattle.search_laws.proofs.Searched.{is_searched}
use Rattle.search_laws.proofs.Taken.{rule_fits}
use Rattle.search_laws.proofs.Tests.{not_true}

-- a rule that is taken is none for quantifiers
no_quantifier_rule : (r : Rule) → is_searched r ≡ true → is_quantifier_rule r ≡ false
no_quantifier_rule (Ax a) e = refl
no_quantifier_rule TopR e = refl
no_quantifier_rule BotL e = refl
no_quantifier_rule (NegL a) e = refl
no_quantifier_rule (NegR a) e = refl
no_quantifier_rule (AndL a) e = refl
no_quantifier_rule (AndR a) e = refl
no_quantifier_rule (OrL a) e = refl
no_quantifier_rule (OrR a) e = refl
no_quantifier_rule (ImpL a) e = refl
no_quantifier_rule (ImpR a) e = refl
no_quantifier_rule r e = cc

-- trees of searches have no quantifier inference

abbrev HasNone : Walk → Type 0
HasNone (proved t) = quants t ≡ 0
HasNone (falsified n a) = Unit {0}

abbrev HaveNone : Walks → Type 0
HaveNone (all_proved ts) = count_rules_all is_quantifier_rule ts ≡ 0
HaveNone (one_falsified n a) = Unit {0}

first_none : (w : Walk) (ws : Walks) → HasNone w → HaveNone ws → HaveNone (with_first w ws)
first_none (proved t) (all_proved ts) h g = λ i. h i + g i
first_none (proved t) (one_falsified n a) h g = tt
first_none (falsified n a) ws h g = tt

each_none : (look : Sequent → Walk) → ((s : Sequent) → HasNone (look s)) → (ss : List Sequent) → HaveNone (walk_each look ss)
each_none look h [] = refl
each_none look h (s ∷ ss) = first_none (look s) (walk_each look ss) (h s) (each_none look h ss)

rule_none : (r : Rule) (s : Sequent) (ws : Walks) → is_quantifier_rule r ≡ false → HaveNone ws → HasNone (inferred r s ws)
rule_none r s (all_proved ts) e h = λ i. (if e i then 1 else 0) + h i
rule_none r s (one_falsified n a) e h = tt

within_none : (n : ℕ) (s : Sequent) → HasNone (walk_within n s)
unfolding walk_within
within_none zero s = tt
within_none (suc n) s =
    elim (rule_at s) as (λ o. rule_at s ≡ o → HasNone (by_rule (walk_within n) s o)) [
      | None ↦ λ e. tt
      | Some r ↦ λ e. rule_none r s (walk_each (walk_within n) (premises_from r s 0 (needs r))) (no_quantifier_rule r (rule_fits s r e).searched) (each_none (walk_within n) (within_none n) (premises_from r s 0 (needs r)))
    ] refl

walk_none : (s : Sequent) → HasNone (walk s)
unfolding walk
walk_none s = within_none _ s

pub no_quants : (s : Sequent) (t : Tree) → walk s ≡ proved t → quants t ≡ 0
no_quants s t e = subst HasNone e (walk_none s)

-- a tree without cuts has none
mutual
  pub no_cuts : (t : Tree) → cut_free t ≡ true → cuts t ≡ 0
  no_cuts (node r s ts) h = λ i. (if not_true (is_cut r) (and_left _ _ h) i then 1 else 0) + no_cuts_all ts (and_right (not (is_cut r)) _ h) i

  no_cuts_all : (ts : Trees) → cut_free_all ts ≡ true → count_rules_all is_cut ts ≡ 0
  no_cuts_all none h = refl
  no_cuts_all (more t ts) h = λ i. no_cuts t (and_left _ _ h) i + no_cuts_all ts (and_right (cut_free t) _ h) i
