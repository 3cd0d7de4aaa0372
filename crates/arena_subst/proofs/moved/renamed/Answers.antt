-- Whether the variable is free decides on its name.
use Rattle.std.proofs.Common.{◌≡◌, true, false, refl, sym, ap, subst, ◌∙◌}
use Rattle.std.specs.Prelude.{Some}
use Rattle.fol.specs.declared.symbols.Var.{Var}
use Rattle.fol.specs.Syntax.{free}
use Rattle.finite.specs.Finite as set
use Rattle.free_variables.specs.Fresh.{least_outside}
use Rattle.substitution.specs.Maps.{only}
use Rattle.lk_rules.specs.Sequents.{is_free_in_sequent, vars_sequent}
use Rattle.proof_trees.specs.Trees.{Trees, AllValid}
use Rattle.proof_trees.specs.Substitution.{renamed, sub_all}
use Rattle.arena_cells.specs.Items.{term}
use Rattle.arena_cells.specs.Standing.{Extends, variable_at, sequent_at}
use Rattle.arena_cells.specs.Meaning.{trees_at}
use Rattle.arena_cells.proofs.Staying.{is_term, premises_there, sequent_stays, trees_stay, variable_stays}
use Rattle.arena_subst.proofs.Renamed.{renamed_kept, renamed_fresh, trees_renamed}
use Rattle.arena_subst.proofs.moved.renamed.Goals as goal

pub returns-then-not-branch-clause-variable : goal.returns-then-not-branch-clause-variable
returns-then-not-branch-clause-variable c =
    let a = c.args.arena.now in
    let kept : false ≡ is_free_in_sequent (variable_at a c.args.variable) (sequent_at a c.args.end) = sym c.if-not-branch.true ∙ c.in_ok-occurs_in_sequent.ensures.free in
    c.occurs_in_sequent.ensures.grown c.args.variable _ c.requires.variable ∙ ap (λ (v : Var). Some (term (free v))) (renamed_kept (variable_at a c.args.variable) (sequent_at a c.args.end) kept)

pub replace_in_all-requires-clause-proofs : goal.replace_in_all-requires-clause-proofs
replace_in_all-requires-clause-proofs c =
    premises_there c.args.arena.now c.fresh_name.new.arena (λ n t h. c.fresh_name.ensures.grown n t (c.occurs_in_sequent.ensures.grown n t h)) c.args.proofs c.requires.proofs

pub replace_in_all-requires-clause-valid : goal.replace_in_all-requires-clause-valid
replace_in_all-requires-clause-valid c =
    subst (λ (ts : Trees). AllValid ts)
    (sym (trees_stay c.args.arena.now c.fresh_name.new.arena (λ n t h. c.fresh_name.ensures.grown n t (c.occurs_in_sequent.ensures.grown n t h)) c.args.proofs c.requires.proofs)) c.requires.valid

pub returns-clause-variable : goal.returns-clause-variable
returns-clause-variable c =
    let a = c.args.arena.now in
    let b = c.occurs_in_sequent.new.self in
    let free_there : true ≡ is_free_in_sequent (variable_at a c.args.variable) (sequent_at a c.args.end) = sym c.if-not-branch.false ∙ c.in_ok-occurs_in_sequent.ensures.free in
    c.replace_in_all.ensures.grown c.in_ok-name.name _ c.in_ok-name.ensures.variable
    ∙ ap (λ (v : Var). Some (term (free v)))
    (ap (λ s. least_outside (set.listing (vars_sequent s))) (sequent_stays a b c.occurs_in_sequent.ensures.grown c.args.end c.requires.end) ∙ renamed_fresh (variable_at a c.args.variable) (sequent_at a c.args.end) free_there)

pub returns-clause-trees : goal.returns-clause-trees
returns-clause-trees c =
    let a = c.args.arena.now in
    let b = c.occurs_in_sequent.new.self in
    let d = c.fresh_name.new.arena in
    let y = variable_at a c.args.variable in
    let s = sequent_at a c.args.end in
    let grown : Extends a d = λ n t h. c.fresh_name.ensures.grown n t (c.occurs_in_sequent.ensures.grown n t h) in
    let free_there : true ≡ is_free_in_sequent y s = sym c.if-not-branch.false ∙ c.in_ok-occurs_in_sequent.ensures.free in
    let name = ap (λ s. least_outside (set.listing (vars_sequent s))) (sequent_stays a b c.occurs_in_sequent.ensures.grown c.args.end c.requires.end) ∙ renamed_fresh y s free_there in
    let variable = variable_stays a d grown c.args.variable c.requires.variable in
    let term = is_term d c.in_ok-name.name _ c.in_ok-name.ensures.variable ∙ ap free name in
    trees_renamed s y (renamed y s) (trees_at a c.args.proofs) _ _ free_there refl refl
    (c.in_ok-made.ensures.trees ∙ (λ i. sub_all (trees_stay a d grown c.args.proofs c.requires.proofs i) (only (variable i) (term i))))
