-- The variables of two parts are those of both.
use Rattle.std.proofs.Common.{ℕ, sym, ap, ◌∙◌}
use Rattle.std.specs.Prelude.{Some}
use Rattle.free_variables.specs.Sets.{VarSet}
use Rattle.arena_cells.specs.Items.{variables}
use Rattle.arena_cells.specs.Standing.{Stands, item_at}
use Rattle.arena_cells.specs.Meaning.{meaning}
use Rattle.arena.specs.Tasks.{vars_item}
use Rattle.arena.proofs.Changing.{two_parts}
use Rattle.arena.proofs.Untouched.{shut_vars}
use Rattle.arena.proofs.VariableLaws.{vars_joined}
use Rattle.arena_cells.proofs.Reading.{if_ok}
use Rattle.arena.proofs.arena.Arena.+vars.Goals as goal

pub vars-returns-then-not-has_free-clause-set : goal.vars-returns-then-not-has_free-clause-set
vars-returns-then-not-has_free-clause-set t c =
    let closed = sym c.has_free.ensures ∙ c.if-not-has_free.true in
    if_ok c.no_variable.result _ (λ (n : ℕ). Stands c.no_variable.new.self n (variables (vars_item (item_at c.args.self.now c.args.of))))
    (λ n s. s ∙ ap (λ (v : VarSet). Some (variables v)) (sym (shut_vars (item_at c.args.self.now c.args.of) closed))) c.no_variable.ensures.set

pub vars_below-returns-in_ok-second-in-Two-clause-set : goal.vars_below-returns-in_ok-second-in-Two-clause-set
vars_below-returns-in_ok-second-in-Two-clause-set t c =
    let e = sym c.walked_parts.ensures ∙ c.in-Two.is in
    let parts = two_parts c.args.self.now c.args.of c.args.key.now c.in-Two.first c.in-Two.second c.requires.key.parts c.requires.key.below e in
    if_ok c.union_variables.result _ (λ (n : ℕ). Stands c.union_variables.new.self n (variables (vars_item (meaning c.args.self.now c.args.key.now))))
    (λ n u.
    vars_joined c.args.self.now c.vars-in-Two.new.self c.vars-in-Two-2.new.self c.union_variables.new.self c.args.key.now c.in-Two.first c.in-Two.second c.in_ok-first-in-Two.first c.in_ok-second-in-Two.second n
    c.vars-in-Two.ensures.grown c.vars-in-Two-2.ensures.grown c.requires.key.parts e parts.1.stands c.in_ok-first-in-Two.ensures.set c.in_ok-second-in-Two.ensures.set u) c.union_variables.ensures.union
