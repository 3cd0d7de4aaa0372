-- The parts of a premise's conclusion, by numbers.
use Rattle.std.proofs.Common.{◌≡◌, ℕ, List, refl, sym, subst, ◌∙◌}
use Rattle.lk_rules.specs.declared.sequent.Sequent.{Sequent}
use Rattle.lk_rules.specs.declared.sequent.Side.{Side}
use Rattle.lk_rules.specs.declared.sequent.Side.TheVariants.{Left, Right}
use Rattle.lk_rules.specs.declared.rule.Rule.{Rule}
use Rattle.lk_rules.specs.Sequents.{extended}
use Rattle.lk_rules.specs.Rules.{aux}
use Rattle.cut_laws.specs.Contraction.{with_aux}
use Rattle.interp_laws.specs.Interpolation.{first_above, second_above, above, itp}
use Rattle.interp_laws.specs.Parts.{HasParts}
use Rattle.arena_cells.specs.declared.key.RuleKey.{RuleKey}
use Rattle.arena_cells.specs.Items.{Item}
use Rattle.arena_cells.specs.Standing.{Extends, HasSequent, sequent_at, tree_at, IsSequentAt, IsTreeAt}
use Rattle.arena_cells.specs.Meaning.{rule_at, HasRuleParts}
use Rattle.arena_cells.proofs.Staying.{is_sequent, rule_stays, sequent_stays, sequent_there, tree_stays, tree_there}
use Rattle.arena_cells.proofs.Facts as facts
use Rattle.arena_interp.specs.declared.partition.Partition.{Partition}
use Rattle.arena_interp.specs.Partitions.{IsPartitionAt, itp_at}

with_aux_is : (s : Sequent) (r : Rule) (i : ℕ) → with_aux s r i ≡ extended s (aux r i)
unfolding with_aux
with_aux_is s r i = refl

module _ (a b : List Item) (grown : Extends a b) (r : RuleKey) (i n : ℕ) (lower : Partition) (proof : IsTreeAt a lower.proof) (first : IsSequentAt a lower.first) (second : IsSequentAt a lower.second) where
  module _ (made : HasSequent b n (with_aux (sequent_at a lower.first) (rule_at a r) i)) where
    first_is : sequent_at b n ≡ extended (sequent_at a lower.first) (aux (rule_at a r) i)
    first_is = is_sequent b n _ made ∙ with_aux_is (sequent_at a lower.first) (rule_at a r) i

    first_parts : HasParts (tree_at b lower.proof) (sequent_at b n) (sequent_at b lower.second) ≡ HasParts (tree_at a lower.proof) (first_above Right (rule_at a r) i (sequent_at a lower.first)) (second_above Right (rule_at a r) i (sequent_at a lower.second))
    first_parts = λ k. HasParts (tree_stays a b grown lower.proof proof k) (first_is k) (sequent_stays a b grown lower.second second k)

    pub first_partition : HasParts (tree_at a lower.proof) (first_above Right (rule_at a r) i (sequent_at a lower.first)) (second_above Right (rule_at a r) i (sequent_at a lower.second))
        → IsPartitionAt b (record { proof = lower.proof; first = n; second = lower.second })
    first_partition h = record {
      proof = tree_there a b grown lower.proof proof;
      first = facts.sequent_there b n _ made;
      second = sequent_there a b grown lower.second second;
      parts = subst (λ (P : Type 0). P) (sym first_parts) h;
    }

    pub first_upper : itp_at b (record { proof = lower.proof; first = n; second = lower.second }) ≡ above itp Right (rule_at a r) i (tree_at a lower.proof) (sequent_at a lower.first) (sequent_at a lower.second)
    first_upper = λ k. itp (tree_stays a b grown lower.proof proof k) (first_is k) (sequent_stays a b grown lower.second second k)

  module _ (made : HasSequent b n (with_aux (sequent_at a lower.second) (rule_at a r) i)) where
    second_is : sequent_at b n ≡ extended (sequent_at a lower.second) (aux (rule_at a r) i)
    second_is = is_sequent b n _ made ∙ with_aux_is (sequent_at a lower.second) (rule_at a r) i

    second_parts : HasParts (tree_at b lower.proof) (sequent_at b lower.first) (sequent_at b n) ≡ HasParts (tree_at a lower.proof) (first_above Left (rule_at a r) i (sequent_at a lower.first)) (second_above Left (rule_at a r) i (sequent_at a lower.second))
    second_parts = λ k. HasParts (tree_stays a b grown lower.proof proof k) (sequent_stays a b grown lower.first first k) (second_is k)

    pub second_partition : HasParts (tree_at a lower.proof) (first_above Left (rule_at a r) i (sequent_at a lower.first)) (second_above Left (rule_at a r) i (sequent_at a lower.second))
        → IsPartitionAt b (record { proof = lower.proof; first = lower.first; second = n })
    second_partition h = record {
      proof = tree_there a b grown lower.proof proof;
      first = sequent_there a b grown lower.first first;
      second = facts.sequent_there b n _ made;
      parts = subst (λ (P : Type 0). P) (sym second_parts) h;
    }

    pub second_upper : itp_at b (record { proof = lower.proof; first = lower.first; second = n }) ≡ above itp Left (rule_at a r) i (tree_at a lower.proof) (sequent_at a lower.first) (sequent_at a lower.second)
    second_upper = λ k. itp (tree_stays a b grown lower.proof proof k) (sequent_stays a b grown lower.first first k) (second_is k)

-- what holds of a premise with its parts holds in a larger arena
module _ (a b : List Item) (grown : Extends a b) (m : Side) (r : RuleKey) (i p one two : ℕ) (rule : HasRuleParts a r) (proof : IsTreeAt a p) (first : IsSequentAt a one) (second : IsSequentAt a two) where
  parts_later : HasParts (tree_at b p) (first_above m (rule_at b r) i (sequent_at b one)) (second_above m (rule_at b r) i (sequent_at b two)) ≡ HasParts (tree_at a p) (first_above m (rule_at a r) i (sequent_at a one)) (second_above m (rule_at a r) i (sequent_at a two))
  parts_later = λ k. HasParts (tree_stays a b grown p proof k) (first_above m (rule_stays a b grown r rule k) i (sequent_stays a b grown one first k)) (second_above m (rule_stays a b grown r rule k) i (sequent_stays a b grown two second k))

  pub parts_there : HasParts (tree_at a p) (first_above m (rule_at a r) i (sequent_at a one)) (second_above m (rule_at a r) i (sequent_at a two)) → HasParts (tree_at b p) (first_above m (rule_at b r) i (sequent_at b one)) (second_above m (rule_at b r) i (sequent_at b two))
  parts_there h = subst (λ (P : Type 0). P) (sym parts_later) h

  pub above_later : above itp m (rule_at b r) i (tree_at b p) (sequent_at b one) (sequent_at b two) ≡ above itp m (rule_at a r) i (tree_at a p) (sequent_at a one) (sequent_at a two)
  above_later = λ k. above itp m (rule_stays a b grown r rule k) i (tree_stays a b grown p proof k) (sequent_stays a b grown one first k) (sequent_stays a b grown two second k)
