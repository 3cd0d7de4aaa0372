-- The variables of one more formula.
use Rattle.std.proofs.Common.{◌≡◌, ◌<◌, List, map, take, length, get_or, sym, ap, ◌∙◌, arith}
use Rattle.std.specs.Prelude.{Some}
use Rattle.fol.specs.Syntax.{Formula}
use Rattle.finite.specs.Finite as set
use Rattle.free_variables.specs.Sets.{VarSet}
use Rattle.free_variables.specs.Union.{union_of}
use Rattle.free_variables.specs.Occurrence.{vars_formula}
use Rattle.lk_rules.specs.Formulas.{var_lists}
use Rattle.arena_cells.specs.Items.{variables}
use Rattle.arena_cells.specs.Standing.{formula_at, variables_at}
use Rattle.arena_cells.proofs.Staying.{formula_stays, are_variables}
use Rattle.arena.proofs.SideLaws.{vars_more, map_taken}
use Rattle.arena.proofs.arena.Arena.vars_of_each.Goals as goal

pub loop-number-preserved : goal.loop-number-preserved
loop-number-preserved c =
    let within : c.loop-number.number-index < length c.args.numbers.now = omega arith in
    let x = get_or c.args.numbers.now c.loop-number.number-index 0 in
    let before : List Formula = map (formula_at c.args.self.now) (take c.loop-number.number-index c.args.numbers.now) in
    let one : variables_at c.loop-number.self c.loop-number.vars ≡ set.of_list (var_lists before) =
    are_variables c.loop-number.self c.loop-number.vars _ c.loop-number.invariant.variables in
    let other : vars_formula (formula_at c.loop-number.self x) set.empty ≡ vars_formula (formula_at c.args.self.now x) set.empty =
    ap (λ f. vars_formula f set.empty) (formula_stays c.args.self.now c.loop-number.self c.loop-number.invariant.grown x (c.requires c.loop-number.number-index 0 within)) in
    record {
      grown = λ n t h. c.with_free_vars.ensures.grown n t (c.loop-number.invariant.grown n t h);
      variables =
          c.in_ok-vars-2.ensures.union
          ∙ (λ i. Some (variables (union_of (one i) (other i))))
          ∙ ap (λ (s : VarSet). Some (variables s)) (vars_more before (formula_at c.args.self.now x)
          ∙ ap (λ (fs : List Formula). set.of_list (var_lists fs)) (sym (map_taken (formula_at c.args.self.now) c.args.numbers.now c.loop-number.number-index 0 within)));
    }
