-- A tree as a list of steps.
use Rattle.std.specs.Prelude.{ℕ, Bool, List, [], ◌∷◌, map}
use Rattle.std.specs.List.{position_or_len}
use Rattle.lk_rules.specs.declared.rule.Step.{Step}
use Rattle.proof_trees.specs.Trees.{Tree, Trees, none, more, rule_of, concl, below, is_cut}
use Rattle.step_laws.specs.Subtrees.{same_tree, distinct_subtrees}

-- the place of a tree in a list
abbrev pub place : List Tree → Tree → ℕ
place xs t = position_or_len (same_tree t) xs

abbrev pub places : List Tree → Trees → List ℕ
places xs none = []
places xs (more t ts) = place xs t ∷ places xs ts

-- the last inference of a tree, with the places of its premises' trees
abbrev pub step_in : List Tree → Tree → Step
step_in xs t = record { rule = rule_of t; premises = places xs (below t); end = concl t }

-- the steps of a tree: one for each distinct subtree in post-order, whose premises are the places of their trees among these
abbrev pub steps_of : Tree → List Step
steps_of t = map (step_in (distinct_subtrees t)) (distinct_subtrees t)

-- whether a step is a cut
abbrev pub is_cut_step : Step → Bool
is_cut_step step = is_cut step.rule
