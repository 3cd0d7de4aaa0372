-- The proofs of the premises make the proof of the conclusion.
use Rattle.std.proofs.Common.{◌≡◌, Some, None, sym, ap, subst, ◌∙◌}
use Rattle.lk_rules.specs.declared.sequent.Sequent.{Sequent}
use Rattle.lk_rules.specs.declared.rule.Rule.{Rule}
use Rattle.lk_rules.specs.Rules.{needs}
use Rattle.proof_trees.specs.Trees.{node, Trees}
use Rattle.search_laws.specs.Search.{Walk, proved, falsified, Walks, all_proved, one_falsified, premises_from, with_first, walk_each, inferred, by_rule, rule_at, walk}
use Rattle.prop_search.specs.Deciding.{IsProved, AreProved}

-- the walk at a sequent where a rule is taken
module _ (s : Sequent) (steps : walk s ≡ by_rule walk s (rule_at s)) where
  at_rule : (r : Rule) → rule_at s ≡ Some r → walk s ≡ inferred r s (walk_each walk (premises_from r s 0 (needs r)))
  at_rule r taken = steps ∙ ap (by_rule walk s) taken

  -- a sequent that is proved has a rule
  pub has_rule : IsProved (walk s) → None ≡ rule_at s → ⊥
  has_rule h untaken = subst IsProved (steps ∙ ap (by_rule walk s) (sym untaken)) h

  -- and its premises are proved
  pub premises_proved : (r : Rule) → rule_at s ≡ Some r → IsProved (walk s) → AreProved (walk_each walk (premises_from r s 0 (needs r)))
  premises_proved r taken h = of_inferred (walk_each walk (premises_from r s 0 (needs r))) (subst IsProved (at_rule r taken) h)
    where
      of_inferred : (ws : Walks) → IsProved (inferred r s ws) → AreProved ws
      of_inferred (all_proved ts) h = tt
      of_inferred (one_falsified n a) h = absurd h

  -- the proof is the last inference over those of the premises
  pub proof_is : (r : Rule) (ts : Trees) → rule_at s ≡ Some r → walk_each walk (premises_from r s 0 (needs r)) ≡ all_proved ts → walk s ≡ proved (node r s ts)
  proof_is r ts taken all = at_rule r taken ∙ ap (inferred r s) all

-- the first of some walks that find proofs, and the others
pub first_proved : (w : Walk) (ws : Walks) → AreProved (with_first w ws) → IsProved w
first_proved (proved t) ws h = tt
first_proved (falsified n a) ws h = absurd h

pub others_proved : (w : Walk) (ws : Walks) → AreProved (with_first w ws) → AreProved ws
others_proved (proved t) (all_proved ts) h = tt
others_proved (proved t) (one_falsified n a) h = absurd h
others_proved (falsified n a) ws h = absurd h
