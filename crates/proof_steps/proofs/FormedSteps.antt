-- The steps of a valid tree name rules with well-formed parts.
use Rattle.std.proofs.Common.{Bool, true, false, List, [], ◌∷◌, ◌++◌}
use Rattle.std.specs.Prelude.{if◌then◌else◌}
use Rattle.std.specs.List.{All, list_any}
use Rattle.std.proofs.lemmas.List.Elements.{All-nil, All-head, All-tail, All-append, All-push, All-map, All-weaker}
use Rattle.lk_rules.specs.Rules.{IsFormedRule}
use Rattle.lk_rules.specs.declared.rule.Step.{Step}
use Rattle.proof_trees.specs.Trees.{Tree, node, Trees, none, more, rule_of, IsValid, AllValid}
use Rattle.step_laws.specs.Subtrees.{same_tree, subtrees, subtrees_all, appended, appended_each, distinct_subtrees}
use Rattle.step_laws.specs.Places.{step_in, steps_of}

mutual
  valid_subtrees : (t : Tree) → IsValid t → All IsValid (subtrees t)
  valid_subtrees (node r s ts) valid = All-push IsValid (subtrees_all ts) (node r s ts) (valid_each ts valid.1) valid

  valid_each : (ts : Trees) → AllValid ts → All IsValid (subtrees_all ts)
  valid_each none valid = All-nil IsValid
  valid_each (more t ts) valid = All-append IsValid (subtrees t) (subtrees_all ts) (valid_subtrees t valid.0) (valid_each ts valid.1)

valid_appended : (xs : List Tree) (t : Tree) → All IsValid xs → IsValid t → All IsValid (appended xs t)
valid_appended xs t all valid = by_test (list_any (same_tree t) xs)
  where
    by_test : (b : Bool) → All IsValid (if b then xs else xs ++ t ∷ [])
    by_test true = all
    by_test false = All-push IsValid xs t all valid

valid_appended_each : (xs ts : List Tree) → All IsValid xs → All IsValid ts → All IsValid (appended_each xs ts)
valid_appended_each xs [] all others = all
valid_appended_each xs (t ∷ ts) all others =
    valid_appended_each (appended xs t) ts (valid_appended xs t all (All-head IsValid t ts others)) (All-tail IsValid t ts others)

formed_root : (t : Tree) → IsValid t → IsFormedRule (rule_of t)
formed_root (node r s ts) valid = valid.0.formed

pub formed_steps : (t : Tree) → IsValid t → All (λ (s : Step). IsFormedRule s.rule) (steps_of t)
formed_steps t valid =
    All-map (λ (s : Step). IsFormedRule s.rule) (step_in (distinct_subtrees t)) (distinct_subtrees t)
    (All-weaker IsValid (λ u. IsFormedRule (rule_of u)) formed_root (distinct_subtrees t)
    (valid_appended_each [] (subtrees t) (All-nil IsValid) (valid_subtrees t valid)))
