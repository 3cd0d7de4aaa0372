-- Inferences of one premise each, from the root up.
--     inferences      those by rules, with their end sequents
--     over_each, AreInferences      the tree by them over another; each of them is right there
--     AreUsable      each rule may be used over a tree with what it asks for
use Rattle.std.specs.Prelude.{◌≡◌, List, [], ◌∷◌, ◌++◌}
use Rattle.lk_rules.specs.declared.sequent.Sequent.{Sequent}
use Rattle.lk_rules.specs.declared.rule.Rule.{Rule}
use Rattle.lk_rules.specs.Sequents.{extended, IsSubsequent}
use Rattle.lk_rules.specs.Rules.{aux}
use Rattle.proof_trees.specs.Trees.{Tree, node, none, more, concl, IsInference}
use Rattle.herbrand_laws.specs.Introduction.{end_after}
use Rattle.cut_intro.specs.declared.branch.Inference.{Inference}

-- an inference by each rule: the end sequents grow by the auxiliary formulas
abbrev pub inferences : List Rule → Sequent → List Inference
inferences [] e = []
inferences (r ∷ rs) e = record { rule = r; end = e } ∷ inferences rs (extended e (aux r 0))

-- the tree by the inferences over another
abbrev pub over_each : List Inference → Tree → Tree
over_each [] t = t
over_each (i ∷ is) t = node i.rule i.end (more (over_each is t) none)

-- each inference is right, over the tree by the later ones
abbrev pub AreInferences : List Inference → Tree → Type 0
AreInferences [] t = Unit {0}
AreInferences (i ∷ is) t = IsInference i.rule i.end (more (over_each is t) none) × AreInferences is t

-- each rule gives a right inference over any tree whose end sequent is within the conclusion with the auxiliary formulas
abbrev pub AreUsable : List Rule → Sequent → Type 0
AreUsable rs e =
    (before after : List Rule) (r : Rule) (t : Tree) → rs ≡ before ++ (r ∷ after) → IsSubsequent (concl t) (extended (end_after before e) (aux r 0)) → IsInference r (end_after before e) (more t none)
