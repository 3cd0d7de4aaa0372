-- The parts of a premise: the part of the rule's main formula with the auxiliary formulas, and the other part. What stands in both of the
-- premise's parts stands in both parts, but for what the rule chooses.
use Rattle.std.proofs.Common.{◌≡◌, ℕ, true, false, ◌||◌}
use Rattle.fol.specs.Syntax.{Pred}
use Rattle.fol.specs.declared.symbols.Var.{Var}
use Rattle.std.specs.Ordering.{eq_by_cmp}
use Rattle.fol.specs.Order.{var_cmp}
use Rattle.free_variables.specs.Occurrence.{is_free_in_term}
use Rattle.lk_rules.specs.declared.sequent.Sequent.{Sequent}
use Rattle.lk_rules.specs.declared.rule.Rule.{Rule}
use Rattle.lk_rules.specs.RuleOrder.{term_of, variable_of}
use Rattle.lk_rules.specs.Sequents.{extended, is_free_in_sequent, union_sequent, IsSubsequent}
use Rattle.lk_rules.specs.Rules.{IsFormedRule, is_unfolding_rule, aux, main_stands, IsWithin}
use Rattle.lk_rules.proofs.Rows.{main_of}
use Rattle.proof_trees.specs.Trees.{is_cut}
use Rattle.proof_trees.specs.Occurrence.{passes, is_pred_in_sequent}
use Rattle.proof_trees.proofs.Booleans.{either}
use Rattle.proof_trees.proofs.Premises.{free_without_cut, pred_without_cut}
use Rattle.cut_laws.proofs.Sides.{itself, within_extended}
use Rattle.interp_laws.proofs.Members.{by_members, member, in_one, in_two, from_union, from_extended, new_in_extended}

-- a premise of the rule is within the premise's parts

pub first_parts : (r : Rule) (i : ℕ) (s one two x : Sequent) → IsSubsequent s (union_sequent one two) → IsWithin r s i x → IsSubsequent x (union_sequent (extended one (aux r i)) two)
first_parts r i s one two x within h =
    let wide : Sequent = extended one (aux r i) in
    by_members x (union_sequent wide two) (λ side f m.
    from_extended s (aux r i) side f
    (λ old. from_union one two side f
    (λ first. member wide (union_sequent wide two) (in_one wide two) side f (member one wide (within_extended one (aux r i)) side f first))
    (member two (union_sequent wide two) (in_two wide two) side f)
    (member s (union_sequent one two) within side f old))
    (λ new. member wide (union_sequent wide two) (in_one wide two) side f (new_in_extended one (aux r i) side f new))
    (member x (extended s (aux r i)) h side f m))

pub second_parts : (r : Rule) (i : ℕ) (s one two x : Sequent) → IsSubsequent s (union_sequent one two) → IsWithin r s i x → IsSubsequent x (union_sequent one (extended two (aux r i)))
second_parts r i s one two x within h =
    let wide : Sequent = extended two (aux r i) in
    by_members x (union_sequent one wide) (λ side f m.
    from_extended s (aux r i) side f
    (λ old. from_union one two side f
    (member one (union_sequent one wide) (in_one one wide) side f)
    (λ second. member wide (union_sequent one wide) (in_two one wide) side f (member two wide (within_extended two (aux r i)) side f second))
    (member s (union_sequent one two) within side f old))
    (λ new. member wide (union_sequent one wide) (in_two one wide) side f (new_in_extended two (aux r i) side f new))
    (member x (extended s (aux r i)) h side f m))

-- symbols and variables of a part with the auxiliary formulas

pub pred_above : (q : Pred) (r : Rule) (i : ℕ) (s : Sequent) → is_cut r ≡ false → is_unfolding_rule r ≡ false → main_stands r s ≡ true → is_pred_in_sequent q (extended s (aux r i)) ≡ true → is_pred_in_sequent q s ≡ true
pred_above q r i s uncut no_unfolding stands = pred_without_cut q r s i (extended s (aux r i)) uncut no_unfolding (main_of r s stands) (itself (extended s (aux r i)))

-- a variable that is free there is free in the part, unless it stands in the rule's term or is the eigenvariable
pub free_above : {P : Type 0} (v : Var) (r : Rule) (i : ℕ) (s : Sequent) → IsFormedRule r → is_cut r ≡ false → main_stands r s ≡ true → (is_free_in_sequent v s ≡ true → P)
    → (passes (is_free_in_term v) (term_of r) ≡ true → P) → (passes (eq_by_cmp var_cmp v) (variable_of r) ≡ true → P) → is_free_in_sequent v (extended s (aux r i)) ≡ true → P
free_above v r i s formed uncut stands old of_term eigen h =
    either (is_free_in_sequent v s) (passes (is_free_in_term v) (term_of r) || passes (eq_by_cmp var_cmp v) (variable_of r))
    old
    (either (passes (is_free_in_term v) (term_of r)) (passes (eq_by_cmp var_cmp v) (variable_of r)) of_term eigen)
    (free_without_cut v r s i (extended s (aux r i)) formed uncut (main_of r s stands) (itself (extended s (aux r i))) h)
