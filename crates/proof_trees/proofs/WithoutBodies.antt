-- A valid tree without cuts has no predicate symbol with a body, and no rule that unfolds one, where its end sequent has none.
use Rattle.std.proofs.Common.{◌≡◌, ◌≤◌, Bool, true, false, not, refl, sym, ◌∙◌, arith}
use Rattle.substitution.proofs.Booleans.{and_left, and_right}
use Rattle.lk_rules.specs.declared.sequent.Sequent.{Sequent}
use Rattle.lk_rules.specs.Rules.{is_unfolding_rule, Row}
use Rattle.proof_trees.specs.Trees.{Tree, node, Trees, none, more, concl, count, first_end, second_end, ArePremises, IsValid, AllValid, is_cut, cut_free, cut_free_all}
use Rattle.proof_trees.specs.Conclusions.{EachNode, EachNodeOf}
use Rattle.proof_trees.specs.Occurrence.{has_body_in_sequent, IsPlainNode}
use Rattle.proof_trees.proofs.Premises.{bodies_in_premises_without_cut, unfolded_in_conclusion}
use Rattle.proof_trees.proofs.Shapes.{few_premises}
use Rattle.proof_trees.proofs.Verdicts.{row_of_verdict}

uncut : (b : Bool) → not b ≡ true → b ≡ false
uncut true h = cc
uncut false h = refl

-- what is false where something else is
pub stays_false : (a b : Bool) → (a ≡ true → b ≡ true) → b ≡ false → a ≡ false
stays_false true b f h = sym (f refl) ∙ h
stays_false false b f h = refl

-- the end sequents of all trees have no body
abbrev HavePlainEnds : Trees → Type 0
HavePlainEnds none = Unit {0}
HavePlainEnds (more t ts) = (has_body_in_sequent (concl t) ≡ false) × HavePlainEnds ts

each_plain : (s : Sequent) → has_body_in_sequent s ≡ false → (ts : Trees) → count ts ≤ 2 → ArePremises (first_end ts) (second_end ts) (λ x. has_body_in_sequent x ≡ true → has_body_in_sequent s ≡ true) → HavePlainEnds ts
each_plain s h none few p = tt
each_plain s h (more t none) few p = (stays_false _ _ p.0 h, tt)
each_plain s h (more t (more u none)) few p = (stays_false _ _ p.0 h, (stays_false _ _ p.1 h, tt))
each_plain s h (more t (more u (more v ts))) few p = absurd (omega (arith, few))

mutual
  pub plain_nodes : (t : Tree) → IsValid t → cut_free t ≡ true → has_body_in_sequent (concl t) ≡ false → EachNode IsPlainNode t
  plain_nodes (node r s ts) valid free h =
      let row : Row r s (count ts) (first_end ts) (second_end ts) = row_of_verdict r s (count ts) (first_end ts) (second_end ts) valid.0.right in
      let none : is_cut r ≡ false = uncut (is_cut r) (and_left (not (is_cut r)) (cut_free_all ts) free) in (
        record {
          rule = stays_false (is_unfolding_rule r) (has_body_in_sequent s) (unfolded_in_conclusion r s (count ts) (first_end ts) (second_end ts) row none) h;
          conclusion = h;
        },
        plain_below ts valid.1 (and_right (not (is_cut r)) (cut_free_all ts) free)
            (each_plain s h ts (few_premises (node r s ts) valid) (bodies_in_premises_without_cut r s (count ts) (first_end ts) (second_end ts) row none)),
      )

  plain_below : (ts : Trees) → AllValid ts → cut_free_all ts ≡ true → HavePlainEnds ts → EachNodeOf IsPlainNode ts
  plain_below none valid free h = tt
  plain_below (more t ts) valid free h =
      (plain_nodes t valid.0 (and_left (cut_free t) (cut_free_all ts) free) h.0, plain_below ts valid.1 (and_right (cut_free t) (cut_free_all ts) free) h.1)
