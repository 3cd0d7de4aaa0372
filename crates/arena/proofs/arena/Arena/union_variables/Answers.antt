-- The numbers of both sets show the union.
use Rattle.std.proofs.Common.{ℕ, ◌++◌, sym, ap, ◌∙◌}
use Rattle.std.specs.Prelude.{Some}
use Rattle.fol.specs.OrderLaws.{var_total}
use Rattle.fol.proofs.OrderTies.{var_ties}
use Rattle.free_variables.specs.Union.{union_of}
use Rattle.arena_cells.specs.Items.{variables}
use Rattle.arena_cells.specs.Standing.{variable_at, IsVariableAt, variables_at, HasVariables}
use Rattle.arena.proofs.SetLaws.{All-alike, All-append}
use Rattle.arena.proofs.Shown.{union_shown}
use Rattle.arena_cells.proofs.Reading.{if_ok}
use Rattle.arena.proofs.arena.Arena.union_variables.Goals as goal

pub put-requires : goal.put-requires
put-requires c = record {
  rises = c.in_ok-numbers.ensures.rises;
  members =
      All-alike (IsVariableAt c.args.self.now) c.in_ok-numbers.numbers (c.variable_numbers.result.now ++ c.variable_numbers-2.result.now) c.in_ok-numbers.ensures.members
      (All-append (IsVariableAt c.args.self.now) c.variable_numbers.result.now c.variable_numbers-2.result.now c.variable_numbers.ensures.rising.members c.variable_numbers-2.ensures.rising.members);
}

pub returns-clause-union : goal.returns-clause-union
returns-clause-union c =
    let shown = union_shown var_total var_ties (variable_at c.args.self.now) c.variable_numbers.result.now c.variable_numbers-2.result.now c.in_ok-numbers.numbers c.in_ok-numbers.ensures.members
    ∙ (λ i. union_of (sym c.variable_numbers.ensures.shown i) (sym c.variable_numbers-2.ensures.shown i)) in
    if_ok c.put.result _ (λ (n : ℕ). HasVariables c.put.new.self n (union_of (variables_at c.args.self.now c.args.first) (variables_at c.args.self.now c.args.second)))
    (λ n s. s ∙ ap (λ v. Some (variables v)) shown) c.put.ensures.stands
