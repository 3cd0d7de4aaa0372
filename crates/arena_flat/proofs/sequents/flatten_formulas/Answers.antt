-- One more formula is unfolded.
use Rattle.std.proofs.Common.{◌<◌, ℕ, List, [], ◌∷◌, ◌++◌, map, length, get_or, sym, ap, ◌∙◌, subst, arith}
use Rattle.std.specs.List.{All}
use Rattle.fol.specs.Syntax.{Formula}
use Rattle.arena_cells.specs.Standing.{formula_at, IsFormulaAt}
use Rattle.arena.proofs.SideLaws.{each_there, each_more, map_taken}
use Rattle.def_laws.specs.Flat.{flat}
use Rattle.arena_flat.proofs.sequents.flatten_formulas.Goals as goal

pub loop-formula-preserved : goal.loop-formula-preserved
loop-formula-preserved c =
    let a = c.args.from.now in
    let before = c.loop-formula.to in
    let after = c.flatten_formula.new.to in
    let at = c.loop-formula.formula-index in
    let ns = c.args.formulas.now in
    let n = get_or ns at 0 in
    let within : at < length ns = omega arith in
    record {
      grown = λ m t h. c.flatten_formula.ensures.grown m t (c.loop-formula.invariant.grown m t h);
      there =
          subst (λ (ms : List ℕ). All (IsFormulaAt after) ms) (sym c.in_ok-push.ensures.items)
          (each_there before after c.loop-formula.list.items c.in_ok-flat.flat (flat (formula_at a n)) c.flatten_formula.ensures.grown c.loop-formula.invariant.there c.in_ok-flat.ensures.formula);
      formulas =
          ap (map (formula_at after)) c.in_ok-push.ensures.items
          ∙ each_more before after c.loop-formula.list.items c.in_ok-flat.flat (flat (formula_at a n)) c.flatten_formula.ensures.grown c.loop-formula.invariant.there c.in_ok-flat.ensures.formula
          ∙ ap (λ (fs : List Formula). fs ++ flat (formula_at a n) ∷ []) c.loop-formula.invariant.formulas
          ∙ sym (map_taken (λ m. flat (formula_at a m)) ns at 0 within);
      flattened = c.in_ok-flat.ensures.flattened;
    }
