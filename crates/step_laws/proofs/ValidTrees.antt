-- The trees of a proof are valid.
use Rattle.std.proofs.Common.{◌≡◌, ◌-◌, ◌<◌, List, [], ◌∷◌, ◌++◌, map, take, length, get_or, refl, sym, ap, ◌∙◌, subst, arith, length-append, append_assoc}
use Rattle.std.specs.Prelude.{slice_get, Some}
use Rattle.std.specs.List.{All, filter_map}
use Rattle.std.proofs.lemmas.List.{map-append, get_or_at, take_at}
use Rattle.std.proofs.lemmas.List.Elements.{All-nil, All-push, All-head, All-tail, All-get_or}
use Rattle.std.proofs.lemmas.Option.{slice_get-get_or, slice_get_within, get_or_from_slice_get}
use Rattle.lk_rules.specs.declared.sequent.Sequent.{Sequent}
use Rattle.lk_rules.specs.declared.rule.Step.{Step}
use Rattle.lk_rules.specs.Rules.{IsFormedRule}
use Rattle.proof_trees.specs.Trees.{Tree, concl, IsValid, AllValid}
use Rattle.proof_trees.specs.TreeLists.{trees}
use Rattle.step_laws.specs.Checking.{IsProof}
use Rattle.step_laws.specs.StepTrees.{tree_over, trees_after, trees_of_steps, IsTreeOf}
use Rattle.step_laws.proofs.StepEnds.{end_of}
use Rattle.step_laws.proofs.Picked.{right_inference, all_picked}

all_valid : (ts : List Tree) → All IsValid ts → AllValid (trees ts)
all_valid [] h = tt
all_valid (t ∷ ts) h = (All-head IsValid t ts h, all_valid ts (All-tail IsValid t ts h))

module _ (steps : List Step) (proof : IsProof steps) (formed : All (λ s. IsFormedRule s.rule) steps) where
  -- with the trees of the steps in front, those of the rest are valid
  valid_after : (front rest : List Step) (earlier : List Tree) → steps ≡ front ++ rest → map concl earlier ≡ map end_of front → All IsValid earlier → All IsValid (trees_after earlier rest)
  valid_after front [] earlier split ends valid = valid
  valid_after front (step ∷ rest) earlier split ends valid =
      let within : length front < length steps = omega (arith, ap length split, length-append front (step ∷ rest)) in
      let at : get_or steps (length front) step ≡ step = ap (λ (l : List Step). get_or l (length front) step) split ∙ get_or_at front step rest step (length front) refl in
      let there : slice_get steps (length front) ≡ Some step = slice_get-get_or steps (length front) step within ∙ ap Some at in
      let before : take (length front) steps ≡ front = ap (take (length front)) split ∙ take_at front (step ∷ rest) _ refl in
      let well : IsFormedRule step.rule = subst (λ (s : Step). IsFormedRule s.rule) at (formed (length front) step within) in
      let inference = right_inference steps (length front) (omega (arith, within)) earlier (ends ∙ sym (ap (map end_of) before)) step (proof (length front) step there) well in
      let tree : IsValid (tree_over earlier step) = (inference, all_valid (filter_map (slice_get earlier) step.premises) (all_picked IsValid earlier step.premises valid)) in
      valid_after (front ++ step ∷ []) rest (earlier ++ tree_over earlier step ∷ []) (split ∙ sym (append_assoc front (step ∷ []) rest))
      (map-append concl earlier (tree_over earlier step ∷ []) ∙ ap (λ (es : List Sequent). es ++ step.end ∷ []) ends ∙ sym (map-append end_of front (step ∷ [])))
      (All-push IsValid earlier (tree_over earlier step) valid tree)

  -- the last of the trees is valid
  pub valid_tree : (t : Tree) → IsTreeOf steps t → IsValid t
  valid_tree t is =
      let within = slice_get_within (trees_of_steps steps) (length steps - 1) t is in
      subst IsValid (get_or_from_slice_get (trees_of_steps steps) (length steps - 1) t t is)
      (All-get_or IsValid (trees_of_steps steps) (length steps - 1) t within (valid_after [] steps [] refl refl (All-nil IsValid)))
