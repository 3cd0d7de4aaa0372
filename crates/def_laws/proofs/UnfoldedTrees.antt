-- A valid tree with all unfolded is valid, keeps its cuts and its quantifier rules, and has no predicate symbol with a body.
use Rattle.std.proofs.Common.{◌≡◌, ◌↔◌, suc, ◌+◌, ◌^◌, ◌≤◌, max, Bool, true, ◌&&◌, not, if◌then◌else◌, Some, IfSome, option_map, refl, ap, ◌∙◌}
use Rattle.lk_rules.specs.declared.sequent.Sequent.{Sequent}
use Rattle.lk_rules.specs.declared.sequent.Side.{Side}
use Rattle.lk_rules.specs.declared.rule.Rule.{Rule}
use Rattle.lk_rules.specs.declared.rule.Rule.TheVariants.{Ax}
use Rattle.fol.specs.Syntax.{Formula}
use Rattle.finite.specs.Finite as set
use Rattle.substitution.specs.Instance.{nesting}
use Rattle.lk_rules.specs.RuleOrder.{formula_of}
use Rattle.lk_rules.specs.Rules.{IsFormedRule, verdict_of}
use Rattle.lk_rules.specs.Sequents.{side_of}
use Rattle.proof_trees.specs.Trees.{Tree, node, Trees, none, more, concl, count, first_end, second_end, IsInference, IsValid, AllValid, is_cut, is_quantifier_rule, cut_free, cut_free_all, count_rules, count_rules_all}
use Rattle.proof_trees.specs.Conclusions.{EachNode, EachNodeOf, IsFormedSequent, HasFormedEnd, HaveFormedEnds}
use Rattle.proof_trees.specs.Shapes.{height, height_all}
use Rattle.proof_trees.proofs.FormedConclusions.{formed_premises}
use Rattle.proof_trees.proofs.Verdicts.{row_of_verdict, verdict_of_row}
use Rattle.def_laws.specs.Flat.{flat, flat_sequent}
use Rattle.def_laws.specs.Unfolded.{flat_rule, unfolded, unfolded_all, HasNoBody}
use Rattle.def_laws.proofs.FlatRules.{formed_rule-flat, unfolding-flat, body-flat_rule, flat-plain_rule}
use Rattle.def_laws.proofs.FlatRows.{row-flat}
use Rattle.def_laws.proofs.FlatSets.{formed_flat_sequent, no_body_in_flat, flat-plain_sequent}

pub concl-unfolded : (t : Tree) → concl (unfolded t) ≡ flat_sequent (concl t)
concl-unfolded (node r s ts) = refl

pub formed_end-unfolded : (t : Tree) → HasFormedEnd t → ((side : Side) (f : Formula) → set.has (side_of (concl t) side) f ≡ true → nesting (flat f) ≤ 2 ^ 32) → HasFormedEnd (unfolded t)
formed_end-unfolded (node r s ts) h few = formed_flat_sequent s h few

count-unfolded : (ts : Trees) → count (unfolded_all ts) ≡ count ts
count-unfolded none = refl
count-unfolded (more t ts) = ap suc (count-unfolded ts)

first_end-unfolded : (ts : Trees) → first_end (unfolded_all ts) ≡ option_map flat_sequent (first_end ts)
first_end-unfolded none = refl
first_end-unfolded (more t ts) = ap Some (concl-unfolded t)

second_end-unfolded : (ts : Trees) → second_end (unfolded_all ts) ≡ option_map flat_sequent (second_end ts)
second_end-unfolded none = refl
second_end-unfolded (more t ts) = first_end-unfolded ts

pub inference-unfolded : (r : Rule) (s : Sequent) (ts : Trees) → IsFormedSequent s → IsFormedRule (flat_rule r) → IsInference r s ts → IsInference (flat_rule r) (flat_sequent s) (unfolded_all ts)
inference-unfolded r s ts formed rule h =
    let row = row-flat r s (count ts) (first_end ts) (second_end ts) h.formed formed (row_of_verdict r s (count ts) (first_end ts) (second_end ts) h.right) in
    record {
      right =
          (λ i. verdict_of (flat_rule r) (flat_sequent s) (count-unfolded ts i) (first_end-unfolded ts i) (second_end-unfolded ts i))
          ∙ verdict_of_row (flat_rule r) (flat_sequent s) (count ts) (option_map flat_sequent (first_end ts)) (option_map flat_sequent (second_end ts)) row;
      formed = rule;
    }

mutual
  unfolded_valid : (t : Tree) → IsValid t → HasFormedEnd t → EachNode (λ r s. IsFormedRule (flat_rule r)) t → IsValid (unfolded t)
  unfolded_valid (node r s ts) valid end rules =
      (inference-unfolded r s ts end rules.0 valid.0, all_unfolded_valid ts valid.1 (formed_premises (node r s ts) ts refl valid end) rules.1)

  all_unfolded_valid : (ts : Trees) → AllValid ts → HaveFormedEnds ts → EachNodeOf (λ r s. IsFormedRule (flat_rule r)) ts → AllValid (unfolded_all ts)
  all_unfolded_valid none valid ends rules = tt
  all_unfolded_valid (more t ts) valid ends rules = (unfolded_valid t valid.0 ends.0 rules.0, all_unfolded_valid ts valid.1 ends.1 rules.1)

-- what the rules of the unfolded tree name is well formed where that is valid, and where few enough quantifiers stand inside one another
mutual
  rules_of_valid : (t : Tree) → IsValid (unfolded t) → EachNode (λ r s. IsFormedRule (flat_rule r)) t
  rules_of_valid (node r s ts) valid = (valid.0.formed, all_rules_of_valid ts valid.1)

  all_rules_of_valid : (ts : Trees) → AllValid (unfolded_all ts) → EachNodeOf (λ r s. IsFormedRule (flat_rule r)) ts
  all_rules_of_valid none valid = tt
  all_rules_of_valid (more t ts) valid = (rules_of_valid t valid.0, all_rules_of_valid ts valid.1)

mutual
  pub rules_formed : (t : Tree) → IsValid t → EachNode (λ r s. IfSome (formula_of r) (λ a. nesting (flat a) ≤ 2 ^ 32)) t → EachNode (λ r s. IsFormedRule (flat_rule r)) t
  rules_formed (node r s ts) valid few = (formed_rule-flat r few.0 valid.0.formed, all_rules_formed ts valid.1 few.1)

  all_rules_formed : (ts : Trees) → AllValid ts → EachNodeOf (λ r s. IfSome (formula_of r) (λ a. nesting (flat a) ≤ 2 ^ 32)) ts → EachNodeOf (λ r s. IsFormedRule (flat_rule r)) ts
  all_rules_formed none valid few = tt
  all_rules_formed (more t ts) valid few = (rules_formed t valid.0 few.0, all_rules_formed ts valid.1 few.1)

pub valid_unfolded : (t : Tree) → IsValid t → HasFormedEnd t → IsValid (unfolded t) ↔ EachNode (λ r s. IsFormedRule (flat_rule r)) t
valid_unfolded t valid end = (rules_of_valid t, unfolded_valid t valid end)

-- a test of rules that answers alike when a rule is unfolded
mutual
  count-unfolded_rules : (p : Rule → Bool) → ((r : Rule) → p (flat_rule r) ≡ p r) → (t : Tree) → count_rules p (unfolded t) ≡ count_rules p t
  count-unfolded_rules p alike (node r s ts) = λ i. (if alike r i then 1 else 0) + count-unfolded_rules_all p alike ts i

  count-unfolded_rules_all : (p : Rule → Bool) → ((r : Rule) → p (flat_rule r) ≡ p r) → (ts : Trees) → count_rules_all p (unfolded_all ts) ≡ count_rules_all p ts
  count-unfolded_rules_all p alike none = refl
  count-unfolded_rules_all p alike (more t ts) = λ i. count-unfolded_rules p alike t i + count-unfolded_rules_all p alike ts i

is_cut-flat : (r : Rule) → is_cut (flat_rule r) ≡ is_cut r
is_cut-flat (Ax a) = refl
is_cut-flat r = refl

is_quantifier-flat : (r : Rule) → is_quantifier_rule (flat_rule r) ≡ is_quantifier_rule r
is_quantifier-flat (Ax a) = refl
is_quantifier-flat r = refl

pub size-unfolded : (t : Tree) → count_rules (λ r. true) (unfolded t) ≡ count_rules (λ r. true) t
size-unfolded = count-unfolded_rules (λ r. true) (λ r. refl)

pub cuts-unfolded : (t : Tree) → count_rules is_cut (unfolded t) ≡ count_rules is_cut t
cuts-unfolded = count-unfolded_rules is_cut is_cut-flat

pub quants-unfolded : (t : Tree) → count_rules is_quantifier_rule (unfolded t) ≡ count_rules is_quantifier_rule t
quants-unfolded = count-unfolded_rules is_quantifier_rule is_quantifier-flat

mutual
  pub cut_free-unfolded : (t : Tree) → cut_free (unfolded t) ≡ cut_free t
  cut_free-unfolded (node r s ts) = λ i. not (is_cut-flat r i) && cut_free_all-unfolded ts i

  cut_free_all-unfolded : (ts : Trees) → cut_free_all (unfolded_all ts) ≡ cut_free_all ts
  cut_free_all-unfolded none = refl
  cut_free_all-unfolded (more t ts) = λ i. cut_free-unfolded t i && cut_free_all-unfolded ts i

mutual
  pub height-unfolded : (t : Tree) → height (unfolded t) ≡ height t
  height-unfolded (node r s ts) = ap suc (height_all-unfolded ts)

  height_all-unfolded : (ts : Trees) → height_all (unfolded_all ts) ≡ height_all ts
  height_all-unfolded none = refl
  height_all-unfolded (more t ts) = λ i. max (height-unfolded t i) (height_all-unfolded ts i)

-- no predicate symbol has a body
mutual
  pub no_bodies : (t : Tree) → EachNode HasNoBody (unfolded t)
  no_bodies (node r s ts) = (record { plain = record { rule = unfolding-flat r; conclusion = no_body_in_flat s }; formula = body-flat_rule r }, no_bodies_below ts)

  no_bodies_below : (ts : Trees) → EachNodeOf HasNoBody (unfolded_all ts)
  no_bodies_below none = tt
  no_bodies_below (more t ts) = (no_bodies t, no_bodies_below ts)

-- a tree without any is left as it is
mutual
  pub unfolded-plain : (t : Tree) → EachNode HasNoBody t → unfolded t ≡ t
  unfolded-plain (node r s ts) h =
      λ i. node (flat-plain_rule r h.0.plain.rule h.0.formula i) (flat-plain_sequent s h.0.plain.conclusion i) (unfolded-plain_all ts h.1 i)

  unfolded-plain_all : (ts : Trees) → EachNodeOf HasNoBody ts → unfolded_all ts ≡ ts
  unfolded-plain_all none h = refl
  unfolded-plain_all (more t ts) h = λ i. more (unfolded-plain t h.0 i) (unfolded-plain_all ts h.1 i)
