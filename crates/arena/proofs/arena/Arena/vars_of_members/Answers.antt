-- The variables of the listed formulas are those of the set's.
use Rattle.std.proofs.Common.{ℕ, List, map, sym, ap, ◌∙◌}
use Rattle.std.specs.Prelude.{Some}
use Rattle.finite.specs.Finite as set
use Rattle.free_variables.specs.Sets.{VarSet}
use Rattle.lk_rules.specs.Formulas.{var_lists}
use Rattle.arena_cells.specs.Items.{variables}
use Rattle.arena_cells.specs.Standing.{formula_at, side_at, HasVariables}
use Rattle.arena.specs.Tasks.{vars_side}
use Rattle.arena.proofs.SideLaws.{vars_shown}
use Rattle.arena_cells.proofs.Reading.{if_ok}
use Rattle.arena.proofs.arena.Arena.vars_of_members.Goals as goal

pub returns-clause-set : goal.returns-clause-set
returns-clause-set c =
    let shown = ap (λ (ns : List ℕ). set.of_list (var_lists (map (formula_at c.args.self.now) ns))) c.as_slice.ensures
    ∙ vars_shown (map (formula_at c.args.self.now) c.in_ok-numbers.numbers) ∙ ap vars_side (sym c.in_ok-numbers.ensures.shown) in
    if_ok c.vars_of_each.result _ (λ (n : ℕ). HasVariables c.vars_of_each.new.self n (vars_side (side_at c.args.self.now c.args.side)))
    (λ n s. s ∙ ap (λ (v : VarSet). Some (variables v)) shown) c.vars_of_each.ensures.set
