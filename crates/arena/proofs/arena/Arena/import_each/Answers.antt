-- One more formula stands at its number.
use Rattle.std.proofs.Common.{◌<◌, ℕ, List, [], ◌∷◌, ◌++◌, map, take, length, sym, ap, ◌∙◌, subst, arith}
use Rattle.std.specs.List.{All}
use Rattle.std.proofs.lemmas.List.{take_more}
use Rattle.fol.specs.Syntax.{Formula}
use Rattle.arena_cells.specs.Standing.{formula_at, IsFormulaAt}
use Rattle.arena.proofs.SideLaws.{each_there, each_more}
use Rattle.arena.proofs.arena.Arena.import_each.Goals as goal

pub loop-formula-preserved : goal.loop-formula-preserved
loop-formula-preserved c =
    let within : c.loop-formula.formula-index < length c.args.formulas.now = omega arith in
    let more = take_more c.args.formulas.now c.loop-formula.formula-index c.formula-item.result within
    ∙ ap (λ (f : Formula). take c.loop-formula.formula-index c.args.formulas.now ++ f ∷ []) (sym c.formula-item.is) in
    record {
      grown = λ n t h. c.import_formula.ensures.grown n t (c.loop-formula.invariant.grown n t h);
      there =
          subst (λ (ns : List ℕ). All (IsFormulaAt c.import_formula.new.self) ns) (sym c.in_ok-push.ensures.items)
          (each_there c.loop-formula.self c.import_formula.new.self c.loop-formula.numbers.items c.in_ok-import_formula.field-0 c.formula-item.result c.import_formula.ensures.grown c.loop-formula.invariant.there c.in_ok-import_formula.ensures.formula);
      formulas =
          ap (map (formula_at c.import_formula.new.self)) c.in_ok-push.ensures.items
          ∙ each_more c.loop-formula.self c.import_formula.new.self c.loop-formula.numbers.items c.in_ok-import_formula.field-0 c.formula-item.result c.import_formula.ensures.grown c.loop-formula.invariant.there c.in_ok-import_formula.ensures.formula
          ∙ ap (λ (fs : List Formula). fs ++ c.formula-item.result ∷ []) c.loop-formula.invariant.formulas
          ∙ sym more;
    }
