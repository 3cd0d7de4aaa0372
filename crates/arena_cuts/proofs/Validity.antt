-- Whether a tree is valid can be told: a search for a proof that it is, which finds one just where there is.
use Rattle.std.proofs.Common.{◌≡◌, Bool, true, false, Option, Some, None, refl}
use Rattle.std.specs.Prelude.{Result, Ok, Err, IsSome}
use Rattle.lk_rules.specs.declared.sequent.Sequent.{Sequent}
use Rattle.lk_rules.specs.declared.rule.Rule.{Rule}
use Rattle.lk_rules.specs.declared.inference.RuleFault.{RuleFault}
use Rattle.lk_rules.specs.Rules.{is_formed_rule, IsFormedRule, verdict_of}
use Rattle.proof_trees.specs.Trees.{Tree, node, Trees, none, more, count, first_end, second_end, IsInference, IsValid, AllValid}

-- proofs of two facts, where there are both
abbrev both : {A B C : Type 0} → (A → B → C) → Option A → Option B → Option C
both f None y = None
both f (Some x) None = None
both f (Some x) (Some y) = Some (f x y)

both_found : {A B C : Type 0} (f : A → B → C) (x : Option A) (y : Option B) → IsSome x → IsSome y → IsSome (both f x y)
both_found f None y h k = absurd cc
both_found f (Some x) None h k = absurd cc
both_found f (Some x) (Some y) h k = refl

abbrev rightness : (v : Result (Unit {0}) RuleFault) → Option (v ≡ Ok tt)
rightness (Ok x) = Some refl
rightness (Err e) = None

right_found : (v : Result (Unit {0}) RuleFault) → v ≡ Ok tt → IsSome (rightness v)
right_found (Ok x) h = refl
right_found (Err e) h = absurd cc

abbrev truth : (b : Bool) → Option (b ≡ true)
truth true = Some refl
truth false = None

truth_found : (b : Bool) → b ≡ true → IsSome (truth b)
truth_found true h = refl
truth_found false h = absurd cc

module _ (r : Rule) (s : Sequent) (ts : Trees) where
  inference_of : verdict_of r s (count ts) (first_end ts) (second_end ts) ≡ Ok tt → IsFormedRule r → IsInference r s ts
  inference_of right formed = record { right = right; formed = formed }

  abbrev inference : Option (IsInference r s ts)
  inference = both inference_of (rightness (verdict_of r s (count ts) (first_end ts) (second_end ts))) (truth (is_formed_rule r))

  inference_found : IsInference r s ts → IsSome inference
  inference_found h =
      both_found inference_of (rightness (verdict_of r s (count ts) (first_end ts) (second_end ts))) (truth (is_formed_rule r))
      (right_found (verdict_of r s (count ts) (first_end ts) (second_end ts)) h.right) (truth_found (is_formed_rule r) h.formed)

mutual
  pub validity : (t : Tree) → Option (IsValid t)
  validity (node r s ts) = both (λ x y. (x, y)) (inference r s ts) (validity_all ts)

  validity_all : (ts : Trees) → Option (AllValid ts)
  validity_all none = Some tt
  validity_all (more t ts) = both (λ x y. (x, y)) (validity t) (validity_all ts)

mutual
  unfolding validity validity_all

  pub validity_found : (t : Tree) → IsValid t → IsSome (validity t)
  validity_found (node r s ts) h = both_found (λ x y. (x, y)) (inference r s ts) (validity_all ts) (inference_found r s ts h.0) (validity_all_found ts h.1)

  validity_all_found : (ts : Trees) → AllValid ts → IsSome (validity_all ts)
  validity_all_found none h = refl
  validity_all_found (more t ts) h = both_found (λ x y. (x, y)) (validity t) (validity_all ts) (validity_found t h.0) (validity_all_found ts h.1)
