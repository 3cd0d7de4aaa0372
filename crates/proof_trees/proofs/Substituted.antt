-- A tree under a map of well-formed terms stays valid, and keeps its cuts and its size.
use Rattle.std.proofs.Common.{◌≡◌, suc, ◌+◌, Bool, true, ◌&&◌, not, if◌then◌else◌, Some, option_map, refl, ap, ◌∙◌}
use Rattle.std.specs.FinMap as fin
use Rattle.substitution.specs.Image.{IsFormedMap}
use Rattle.substitution.specs.Maps.{Map}
use Rattle.substitution.proofs.ClosedLaws.{closed_map_of}
use Rattle.lk_rules.specs.declared.sequent.Sequent.{Sequent}
use Rattle.lk_rules.specs.declared.rule.Rule.{Rule}
use Rattle.lk_rules.specs.declared.rule.Rule.TheVariants.{Ax}
use Rattle.lk_rules.specs.Sequents.{image_sequent}
use Rattle.lk_rules.specs.Rules.{verdict_of}
use Rattle.proof_trees.specs.Trees.{Tree, node, Trees, none, more, concl, count, first_end, second_end, IsInference, IsValid, AllValid, is_cut, is_quantifier_rule, cut_free, cut_free_all, count_rules, count_rules_all}
use Rattle.proof_trees.specs.Substitution.{image_rule, premise_map, sub, sub_all}
use Rattle.proof_trees.proofs.RuleImages.{formed_rule-image, formed_premise_map}
use Rattle.proof_trees.proofs.RowImages.{row-image}
use Rattle.proof_trees.proofs.Verdicts.{row_of_verdict, verdict_of_row}

pub concl-sub : (t : Tree) (m : Map) → concl (sub t m) ≡ image_sequent (fin.get m) (concl t)
concl-sub (node r s ts) m = refl

count-sub : (ts : Trees) (m : Map) → count (sub_all ts m) ≡ count ts
count-sub none m = refl
count-sub (more t ts) m = ap suc (count-sub ts m)

first_end-sub : (ts : Trees) (m : Map) → first_end (sub_all ts m) ≡ option_map (image_sequent (fin.get m)) (first_end ts)
first_end-sub none m = refl
first_end-sub (more t ts) m = ap Some (concl-sub t m)

second_end-sub : (ts : Trees) (m : Map) → second_end (sub_all ts m) ≡ option_map (image_sequent (fin.get m)) (second_end ts)
second_end-sub none m = refl
second_end-sub (more t ts) m = first_end-sub ts m

inference-image : (m : Map) (r : Rule) (s : Sequent) (ts : Trees) → IsFormedMap (fin.get m) → IsInference r s ts
    → IsInference (image_rule m r (image_sequent (fin.get m) s)) (image_sequent (fin.get m) s) (sub_all ts (premise_map m r (image_sequent (fin.get m) s)))
inference-image m r s ts formed h =
    let e : Sequent = image_sequent (fin.get m) s in
    let n : Map = premise_map m r e in
    let row = row-image m r s (count ts) (first_end ts) (second_end ts) (closed_map_of (fin.get m) formed) h.formed (row_of_verdict r s (count ts) (first_end ts) (second_end ts) h.right) in
    record {
      right =
          (λ i. verdict_of (image_rule m r e) e (count-sub ts n i) (first_end-sub ts n i) (second_end-sub ts n i))
          ∙ verdict_of_row (image_rule m r e) e (count ts) (option_map (image_sequent (fin.get n)) (first_end ts)) (option_map (image_sequent (fin.get n)) (second_end ts)) row;
      formed = formed_rule-image m r e formed h.formed;
    }

mutual
  pub sub_valid : (t : Tree) (m : Map) → IsFormedMap (fin.get m) → IsValid t → IsValid (sub t m)
  sub_valid (node r s ts) m formed h =
      (inference-image m r s ts formed h.0, subs_valid ts (premise_map m r (image_sequent (fin.get m) s)) (formed_premise_map m r (image_sequent (fin.get m) s) formed h.0.formed) h.1)

  subs_valid : (ts : Trees) (m : Map) → IsFormedMap (fin.get m) → AllValid ts → AllValid (sub_all ts m)
  subs_valid none m formed h = tt
  subs_valid (more t ts) m formed h = (sub_valid t m formed h.0, subs_valid ts m formed h.1)

-- a test of rules that does not see what they name answers alike under a map
mutual
  count-sub_rules : (p : Rule → Bool) → ((m : Map) (r : Rule) (e : Sequent) → p (image_rule m r e) ≡ p r) → (t : Tree) (m : Map) → count_rules p (sub t m) ≡ count_rules p t
  count-sub_rules p alike (node r s ts) m =
      λ i. (if alike m r (image_sequent (fin.get m) s) i then 1 else 0) + count-sub_rules_all p alike ts (premise_map m r (image_sequent (fin.get m) s)) i

  count-sub_rules_all : (p : Rule → Bool) → ((m : Map) (r : Rule) (e : Sequent) → p (image_rule m r e) ≡ p r) → (ts : Trees) (m : Map) → count_rules_all p (sub_all ts m) ≡ count_rules_all p ts
  count-sub_rules_all p alike none m = refl
  count-sub_rules_all p alike (more t ts) m = λ i. count-sub_rules p alike t m i + count-sub_rules_all p alike ts m i

is_cut-image : (m : Map) (r : Rule) (e : Sequent) → is_cut (image_rule m r e) ≡ is_cut r
is_cut-image m (Ax a) e = refl
is_cut-image m r e = refl

is_quantifier-image : (m : Map) (r : Rule) (e : Sequent) → is_quantifier_rule (image_rule m r e) ≡ is_quantifier_rule r
is_quantifier-image m (Ax a) e = refl
is_quantifier-image m r e = refl

pub size-sub : (t : Tree) (m : Map) → count_rules (λ r. true) (sub t m) ≡ count_rules (λ r. true) t
size-sub = count-sub_rules (λ r. true) (λ m r e. refl)

pub cuts-sub : (t : Tree) (m : Map) → count_rules is_cut (sub t m) ≡ count_rules is_cut t
cuts-sub = count-sub_rules is_cut is_cut-image

pub quants-sub : (t : Tree) (m : Map) → count_rules is_quantifier_rule (sub t m) ≡ count_rules is_quantifier_rule t
quants-sub = count-sub_rules is_quantifier_rule is_quantifier-image

mutual
  pub cut_free-sub : (t : Tree) (m : Map) → cut_free (sub t m) ≡ cut_free t
  cut_free-sub (node r s ts) m =
      λ i. not (is_cut-image m r (image_sequent (fin.get m) s) i) && cut_free_all-sub ts (premise_map m r (image_sequent (fin.get m) s)) i

  cut_free_all-sub : (ts : Trees) (m : Map) → cut_free_all (sub_all ts m) ≡ cut_free_all ts
  cut_free_all-sub none m = refl
  cut_free_all-sub (more t ts) m = λ i. cut_free-sub t m i && cut_free_all-sub ts m i
