-- The last step's proof under no binding is that of the refutation.
use Rattle.std.proofs.Common.{◌≡◌, ℕ, ◌-◌, List, length, sym, ap, subst, ◌∙◌}
use Rattle.std.specs.Prelude.{Some, slice_get, Ok}
use Rattle.std.specs.List.{All}
use Rattle.std.specs.FinMap as fin
use Rattle.fol.specs.Formed.{IsFormed}
use Rattle.substitution.specs.Image.{IsFormedMap}
use Rattle.substitution.specs.Maps.{Map}
use Rattle.substitution.proofs.ImageLaws.{formed_empty}
use Rattle.proof_trees.specs.Substitution.{sub}
use Rattle.proof_trees.proofs.Agreeing.{empty_tree}
use Rattle.arena_cells.specs.Items.{Item, tree}
use Rattle.arena_cells.specs.Standing.{Extends, HasMap, HasTree, tree_at, IsTreeAt}
use Rattle.arena_cells.proofs.Facts as facts
use Rattle.arena_cells.proofs.Staying.{is_map, is_tree}
use Rattle.arena_cells.proofs.Reading.{if_ok}
use Rattle.refutations.specs.declared.clause.Clause.{Clause}
use Rattle.refutations.specs.declared.step.ResStep.{ResStep}
use Rattle.refutations.specs.Clauses.{IsClauseOf, closure_of}
use Rattle.refutations.specs.Refutations.{refutation, AreFormedSteps}
use Rattle.refutations.proofs.Refuting.{valid_refutation}
use Rattle.arena_refutations.specs.Importing.{IsRefuted}
use Rattle.image_laws.specs.Steps.{derived_in}
use Rattle.arena_refutations.specs.Planning.{IsMade}
use Rattle.arena_refutations.proofs.Closings.{closed_stays}
use Rattle.arena_refutations.proofs.PlanLaws.{planned_stays}
use Rattle.arena_refutations.proofs.proving.prove_whole.Goals as goal

pub prove-requires-clause-closed : goal.prove-requires-clause-closed
prove-requires-clause-closed c = closed_stays c.args.arena.now c.no_binding.new.self c.args.clauses.now c.args.closed.now c.no_binding.ensures.grown c.requires.closed

pub prove-requires-clause-planned : goal.prove-requires-clause-planned
prove-requires-clause-planned c = planned_stays c.args.arena.now c.no_binding.new.self c.no_binding.ensures.grown c.args.clauses.now c.args.steps.now c.args.planned.now c.requires.planned

pub prove-requires-clause-map_formed : goal.prove-requires-clause-map_formed
prove-requires-clause-map_formed c = subst (λ (m : Map). IsFormedMap (fin.get m)) (sym (is_map c.no_binding.new.self c.in_ok-map.map _ c.in_ok-map.ensures.map)) formed_empty

module _ (cs : List Clause) (clauses : All IsClauseOf cs) (closed : All (λ c. IsFormed (closure_of c)) cs) (steps : List ResStep) (formed : AreFormedSteps steps) (x : List Item) (ns : List ℕ) (found : IsRefuted x cs steps ns)
    (a b : List Item) (grown : Extends a b) (m n : ℕ) (nothing : HasMap a m fin.empty) (made : IsMade b cs steps (length steps - 1) m n) where
  whole : HasTree b n found.last.tree
  whole =
      made.tree found.last (ap (λ r. slice_get (derived_in r) (length steps - 1)) found.each ∙ found.at)
      ∙ ap (λ t. Some (tree t)) (ap (sub found.last.tree) (is_map b m _ (grown m _ nothing)) ∙ empty_tree found.last.tree (valid_refutation cs steps found.last.tree clauses closed formed found.whole))

  proved : refutation cs steps ≡ Ok (tree_at b n)
  proved = found.whole ∙ ap Ok (sym (is_tree b n _ whole))

pub returns-clause-tree : goal.returns-clause-tree
returns-clause-tree c =
    if_ok c.prove.result _ _
    (λ n h. proved c.args.clauses.now c.requires.clauses c.requires.closures c.args.steps.now c.requires.formed c.args.arena.now c.args.found.now c.requires.found c.no_binding.new.self c.prove.new.arena c.prove.ensures.grown c.in_ok-map.map n
    c.in_ok-map.ensures.map h)
    c.prove.ensures.tree

pub returns-clause-there : goal.returns-clause-there
returns-clause-there c =
    if_ok c.prove.result _ (IsTreeAt c.prove.new.arena)
    (λ n h. facts.tree_there c.prove.new.arena n _
    (whole c.args.clauses.now c.requires.clauses c.requires.closures c.args.steps.now c.requires.formed c.args.arena.now c.args.found.now c.requires.found c.no_binding.new.self c.prove.new.arena c.prove.ensures.grown c.in_ok-map.map n
    c.in_ok-map.ensures.map h))
    c.prove.ensures.tree
