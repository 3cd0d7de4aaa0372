-- The trees of the steps so far, and those of one step more.
use Rattle.std.proofs.Common.{◌≡◌, ℕ, ◌+◌, ◌-◌, ◌<◌, List, [], ◌∷◌, ◌++◌, map, take, drop, length, get_or, sym, ap, ◌∙◌, arith, length-append}
use Rattle.std.specs.Prelude.{Some, slice_get}
use Rattle.std.proofs.lemmas.List.{length-map, map-append, take_more, get_or_at}
use Rattle.std.proofs.lemmas.Option.{slice_get-get_or}
use Rattle.lk_rules.specs.declared.rule.Step.{Step}
use Rattle.proof_trees.specs.Trees.{Tree, concl}
use Rattle.proof_graph.specs.References.{Reference}
use Rattle.step_laws.specs.StepTrees.{tree_over, trees_after, trees_of_steps, IsTreeOf}
use Rattle.step_laws.proofs.Checks.{here}
use Rattle.lk_check.proofs.Picks.{tree_of}
use Rattle.step_laws.proofs.StepEnds.{end_of, length-trees_after}

-- the rest of the trees, after one step more
pub trees_next : (steps : List Step) (i : ℕ) (step : Step) (rs : List Reference) (r : Reference) → i < length steps → step ≡ get_or steps i step
    → r.tree ≡ tree_over (map tree_of rs) step → trees_after (map tree_of rs) (drop i steps) ≡ trees_of_steps steps
    → trees_after (map tree_of (rs ++ r ∷ [])) (drop (i + 1) steps) ≡ trees_of_steps steps
trees_next steps i step rs r within is tree so_far =
    let longer : map tree_of (rs ++ r ∷ []) ≡ map tree_of rs ++ tree_over (map tree_of rs) step ∷ [] =
    map-append tree_of rs (r ∷ []) ∙ ap (λ (t : Tree). map tree_of rs ++ t ∷ []) tree in
    ap (λ (ts : List Tree). trees_after ts (drop (i + 1) steps)) longer
    ∙ ap (trees_after (map tree_of rs)) (sym (here steps i step within is)) ∙ so_far

-- the end sequents, after one step more
pub ends_next : (steps : List Step) (i : ℕ) (step : Step) (rs : List Reference) (r : Reference) → i < length steps → step ≡ get_or steps i step
    → r.tree ≡ tree_over (map tree_of rs) step → map concl (map tree_of rs) ≡ map end_of (take i steps)
    → map concl (map tree_of (rs ++ r ∷ [])) ≡ map end_of (take (i + 1) steps)
ends_next steps i step rs r within is tree so_far =
    let longer : take (i + 1) steps ≡ take i steps ++ step ∷ [] = take_more steps i step within ∙ ap (λ (s : Step). take i steps ++ s ∷ []) (sym is) in
    ap (map concl) (map-append tree_of rs (r ∷ [])) ∙ map-append concl (map tree_of rs) (r.tree ∷ [])
    ∙ (λ j. so_far j ++ ap concl tree j ∷ []) ∙ sym (ap (map end_of) longer ∙ map-append end_of (take i steps) (step ∷ []))

-- there are as many references as steps
pub as_many_proofs : (steps : List Step) (rs : List Reference) → map tree_of rs ≡ trees_of_steps steps → length rs ≡ length steps
as_many_proofs steps rs same = omega (arith, length-map rs tree_of, ap length same, length-trees_after [] steps)

-- the last reference has the tree of the last step
pub last_tree : (steps : List Step) (rs front : List Reference) (r : Reference) → map tree_of rs ≡ trees_of_steps steps → rs ≡ front ++ r ∷ [] → IsTreeOf steps r.tree
last_tree steps rs front r same split =
    let many = as_many_proofs steps rs same in
    let place : length front ≡ length steps - 1 = omega (arith, ap length split, length-append front (r ∷ [])) in
    let ts : trees_of_steps steps ≡ map tree_of front ++ r.tree ∷ [] = sym same ∙ ap (map tree_of) split ∙ map-append tree_of front (r ∷ []) in
    let at : length (map tree_of front) ≡ length steps - 1 = length-map front tree_of ∙ place in
    let inside : length steps - 1 < length (map tree_of front ++ r.tree ∷ []) = omega (arith, length-append (map tree_of front) (r.tree ∷ [])) in
    ap (λ (us : List Tree). slice_get us (length steps - 1)) ts
    ∙ slice_get-get_or (map tree_of front ++ r.tree ∷ []) (length steps - 1) r.tree inside
    ∙ ap Some (get_or_at (map tree_of front) r.tree [] r.tree (length steps - 1) at)
