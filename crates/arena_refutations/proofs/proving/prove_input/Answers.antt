-- The input clause is there, with its closure and its literals.
use Rattle.std.proofs.Common.{◌≡◌, ℕ, ◌<◌, List, length, get_or, sym, ap, ◌∙◌, arith}
use Rattle.std.specs.Prelude.{Some, slice_get}
use Rattle.std.proofs.lemmas.List.{length-map}
use Rattle.arena_cells.specs.Items.{Item}
use Rattle.arena_cells.specs.Standing.{HasFormula, formula_at, sequent_at}
use Rattle.arena_cells.proofs.Facts as facts
use Rattle.arena_cells.proofs.Staying.{is_formula, is_sequent}
use Rattle.arena_cells.proofs.Reading.{if_ok}
use Rattle.refutations.specs.declared.clause.Clause.{Clause}
use Rattle.refutations.specs.declared.step.ResStep.TheVariants.{Input}
use Rattle.refutations.specs.Clauses.{closure_of}
use Rattle.arena_refutations.specs.declared.closing.Closed.{Closed}
use Rattle.arena_refutations.specs.Standing.{IsClosedAt}
use Rattle.arena_refutations.specs.Planning.{IsMade}
use Rattle.arena_refutations.proofs.ClauseLaws.{found}
use Rattle.image_laws.proofs.StepLaws.{reached}
use Rattle.arena_refutations.proofs.Closings.{closure_found}
use Rattle.arena_refutations.proofs.ProofLaws.{input_made}
use Rattle.arena_refutations.proofs.proving.prove_input.Goals as goal

module _ (cs : List Clause) (i : ℕ) (within : i < length cs) (x : Clause) (is : x ≡ get_or cs i x) where
  -- the clause of the step
  here : slice_get cs i ≡ Some x
  here = found cs i x within is

  closure : (a : List Item) (c : Closed) → IsClosedAt a cs c → (n : ℕ) → n ≡ get_or c.closures.items i n → HasFormula a n (closure_of x)
  closure a c h n stands =
      closure_found a cs c i n x h (omega (arith, within, ap length h.each, length-map c.closures.items (formula_at a), length-map cs closure_of)) stands here

pub prove_clause-requires-clause-closure : goal.prove_clause-requires-clause-closure
prove_clause-requires-clause-closure c =
    facts.formula_there c.args.arena.now c.index-closure.result.now _
    (closure c.args.clauses.now c.args.number c.requires.within c.index-clauses-number.result c.index-clauses-number.is c.args.arena.now c.args.closed.now c.requires.closed c.index-closure.result.now c.index-closure.ensures)

pub prove_clause-requires-clause-literals : goal.prove_clause-requires-clause-literals
prove_clause-requires-clause-literals c =
    let r = reached c.args.clauses.now c.args.steps.now c.requires.derived c.args.place (Input c.args.number) c.requires.step in
    facts.sequent_there c.args.arena.now c.args.planned.clause _ (c.requires.planned r.derived r.at)

pub returns-clause-tree : goal.returns-clause-tree
returns-clause-tree c =
    let a = c.args.arena.now in
    let cs = c.args.clauses.now in
    let steps = c.args.steps.now in
    let x = c.index-clauses-number.result in
    let closure_is = is_formula a c.index-closure.result.now _ (closure cs c.args.number c.requires.within x c.index-clauses-number.is a c.args.closed.now c.requires.closed c.index-closure.result.now c.index-closure.ensures) in
    if_ok c.prove_clause.result _ (IsMade c.prove_clause.new.arena cs steps c.args.place c.args.map)
    (λ n h. input_made cs c.requires.clauses steps c.requires.derived c.args.place c.args.number c.requires.step a c.prove_clause.new.arena c.prove_clause.ensures.grown c.args.map n c.requires.map c.requires.formed x
    (here cs c.args.number c.requires.within x c.index-clauses-number.is) c.as_slice-vars.result.now (sequent_at a c.args.planned.clause) (sequent_at a c.args.closed.now.end) (formula_at a c.index-closure.result.now)
    (c.as_slice-vars.ensures ∙ ap (λ (d : Clause). d.vars) (sym c.index-clauses-number.is)) (λ d stands. is_sequent a c.args.planned.clause _ (c.requires.planned d stands)) (is_sequent a c.args.closed.now.end _ c.requires.closed.end) closure_is h)
    c.prove_clause.ensures.tree
