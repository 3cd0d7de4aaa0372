-- The references of the steps that a step names.
use Rattle.std.proofs.Common.{◌≡◌, ℕ, ◌+◌, ◌<◌, List, [], ◌∷◌, ◌++◌, map, take, length, get_or, sym, ap, ◌∙◌, subst}
use Rattle.std.specs.Prelude.{Option, Some, slice_get}
use Rattle.std.specs.List.{filter_map, cons_option}
use Rattle.std.proofs.lemmas.List.{take_more}
use Rattle.std.proofs.lemmas.List.Elements.{filter_map-append}
use Rattle.std.proofs.lemmas.Option.{slice_get-get_or}
use Rattle.lk_rules.specs.declared.sequent.Sequent.{Sequent}
use Rattle.lk_rules.specs.declared.rule.Rule.{Rule}
use Rattle.lk_rules.specs.declared.rule.Step.{Step}
use Rattle.proof_trees.specs.Trees.{Tree, node, rule_of, concl, below, IsInference}
use Rattle.proof_trees.specs.TreeLists.{trees}
use Rattle.proof_graph.specs.References.{Reference, trees_of}
use Rattle.step_laws.specs.StepTrees.{tree_over}
use Rattle.step_laws.proofs.Picked.{map-picked}

abbrev pub tree_of : Reference → Tree
tree_of r = r.tree

-- one more is picked
pub picked_more : (rs : List Reference) (ps : List ℕ) (i : ℕ) (r : Reference) (picked : List Reference) → i < length ps → get_or ps i 0 < length rs → r ≡ get_or rs (get_or ps i 0) r
    → picked ≡ filter_map (slice_get rs) (take i ps) → picked ++ r ∷ [] ≡ filter_map (slice_get rs) (take (i + 1) ps)
picked_more rs ps i r picked within inside is so_far =
    let found : slice_get rs (get_or ps i 0) ≡ Some r = slice_get-get_or rs (get_or ps i 0) r inside ∙ ap Some (sym is) in
    ap (λ (xs : List Reference). xs ++ r ∷ []) so_far
    ∙ ap (λ (o : Option Reference). filter_map (slice_get rs) (take i ps) ++ cons_option o []) (sym found)
    ∙ sym (filter_map-append (slice_get rs) (take i ps) (get_or ps i 0 ∷ []))
    ∙ ap (filter_map (slice_get rs)) (sym (take_more ps i 0 within))

-- an inference over references that are picked
pub tree_picked : (step : Step) (r : Rule) (s : Sequent) (ps rs : List Reference) → r ≡ step.rule → s ≡ step.end → ps ≡ filter_map (slice_get rs) step.premises
    → node r s (trees_of ps) ≡ tree_over (map tree_of rs) step
tree_picked step r s ps rs rule end picked =
    λ i. node (rule i) (end i) ((ap trees_of picked ∙ ap trees (map-picked tree_of rs step.premises)) i)

pub inference_picked : (step : Step) (r : Rule) (s : Sequent) (ps rs : List Reference) → r ≡ step.rule → s ≡ step.end → ps ≡ filter_map (slice_get rs) step.premises
    → IsInference step.rule step.end (trees (filter_map (slice_get (map tree_of rs)) step.premises)) → IsInference r s (trees_of ps)
inference_picked step r s ps rs rule end picked =
    let IsRoot : Tree → Type 0 = λ t. IsInference (rule_of t) (concl t) (below t) in
    subst IsRoot (sym (tree_picked step r s ps rs rule end picked))
