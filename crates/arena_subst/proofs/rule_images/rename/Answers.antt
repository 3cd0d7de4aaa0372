-- A variable that isn't free stays; else the least one outside takes its place.
use Rattle.std.proofs.Common.{◌≡◌, ℕ, true, false, sym, ap, ◌∙◌}
use Rattle.std.specs.Prelude.{Some}
use Rattle.fol.specs.declared.symbols.Var.{Var}
use Rattle.fol.specs.Syntax.{free}
use Rattle.finite.specs.Finite as set
use Rattle.free_variables.specs.Sets.{VarSet}
use Rattle.free_variables.specs.Fresh.{least_outside}
use Rattle.lk_rules.specs.declared.sequent.Sequent.{Sequent}
use Rattle.lk_rules.specs.Sequents.{vars_sequent}
use Rattle.proof_trees.specs.Substitution.{renamed}
use Rattle.arena_cells.specs.Items.{term}
use Rattle.arena_cells.specs.Standing.{HasVariable, variable_at, sequent_at}
use Rattle.arena_cells.proofs.Facts.{variables_there}
use Rattle.arena_cells.proofs.Reading.{if_ok}
use Rattle.arena_cells.proofs.Staying.{are_variables, variable_stays, variable_there}
use Rattle.arena_subst.proofs.Renaming.{renamed_itself, renamed_afresh}
use Rattle.arena_subst.proofs.rule_images.rename.Goals as goal

pub has_variable-requires : goal.has_variable-requires
has_variable-requires c =
    let b = c.sequent_vars.new.self in
    record { set = variables_there b c.in_ok-vars.vars _ c.in_ok-vars.ensures.set; variable = variable_there c.args.arena.now b c.sequent_vars.ensures.grown c.args.variable c.requires.variable }

pub returns-then-not-has_variable-clause-variable : goal.returns-then-not-has_variable-clause-variable
returns-then-not-has_variable-clause-variable c =
    let a = c.args.arena.now in
    let b = c.sequent_vars.new.self in
    let y : Var = variable_at a c.args.variable in
    let e : Sequent = sequent_at a c.args.end in
    let out : set.has (vars_sequent e) y ≡ false = (λ i. set.has (sym (are_variables b c.in_ok-vars.vars _ c.in_ok-vars.ensures.set) i) (sym (variable_stays a b c.sequent_vars.ensures.grown c.args.variable c.requires.variable) i))
    ∙ sym c.has_variable.ensures ∙ c.if-not-has_variable.true in
    c.sequent_vars.ensures.grown c.args.variable _ c.requires.variable ∙ ap (λ v. Some (term (free v))) (sym (renamed_itself y e out))

pub returns-clause-variable : goal.returns-clause-variable
returns-clause-variable c =
    let a = c.args.arena.now in
    let b = c.sequent_vars.new.self in
    let y : Var = variable_at a c.args.variable in
    let e : Sequent = sequent_at a c.args.end in
    let vars = are_variables b c.in_ok-vars.vars _ c.in_ok-vars.ensures.set in
    let in_it : set.has (vars_sequent e) y ≡ true = (λ i. set.has (sym vars i) (sym (variable_stays a b c.sequent_vars.ensures.grown c.args.variable c.requires.variable) i)) ∙ sym c.has_variable.ensures ∙ c.if-not-has_variable.false in
    if_ok c.fresh_outside.result _ (λ (n : ℕ). HasVariable c.fresh_outside.new.self n (renamed y e))
    (λ n s. s ∙ ap (λ (vs : VarSet). Some (term (free (least_outside (set.listing vs))))) vars ∙ ap (λ v. Some (term (free v))) (sym (renamed_afresh y e in_it))) c.fresh_outside.ensures.variable
