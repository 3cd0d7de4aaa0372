-- Whether the variable is free decides.
use Rattle.std.proofs.Common.{ℕ, sym, subst, ◌∙◌}
use Rattle.interp_laws.specs.Interpolation.{quantified}
use Rattle.arena_cells.specs.Standing.{sequent_at, IsSequentAt}
use Rattle.arena_cells.proofs.Staying.{is_variable, sequent_stays, sequent_there}
use Rattle.arena_cells.proofs.Facts as facts
use Rattle.arena_interp.specs.Partitions.{interpolation_at}
use Rattle.arena_interp.proofs.LastInferences.{larger, made_same}
use Rattle.arena_interp.proofs.Quantified.{is_free_there, kept, not_kept, part_there}
use Rattle.arena_interp.proofs.Staying.{has_same, has_there, has_later, interpolated_there, interpolation_stays}
use Rattle.arena_interp.proofs.closing.close_one.Goals as goal

pub occurs_in_sequent-requires-clause-sequent : goal.occurs_in_sequent-requires-clause-sequent
occurs_in_sequent-requires-clause-sequent c =
    let a = c.args.arena.now in
    let b = c.import_variable.new.self in
    let grown = c.import_variable.ensures.grown in
    subst (λ (n : ℕ). IsSequentAt b n) (sym c.part_at.ensures) (part_there b c.args.side c.args.one c.args.two (sequent_there a b grown c.args.one c.requires.one) (sequent_there a b grown c.args.two c.requires.two))

pub returns-then-branch-clause-made : goal.returns-then-branch-clause-made
returns-then-branch-clause-made c =
    let a = c.args.arena.now in
    let b = c.import_variable.new.self in
    let free = is_free_there a b c.import_variable.ensures.grown c.args.side c.args.one c.args.two c.in_ok-variable.variable _ c.args.var.now c.part_at.result c.requires.one c.requires.two c.in_ok-variable.ensures.variable c.part_at.ensures c.in_ok-occurs_in_sequent.ensures.free in
    has_same c.occurs_in_sequent.new.self _ _ c.args.made (kept c.args.side (sequent_at a c.args.one) (sequent_at a c.args.two) c.args.var.now (interpolation_at a c.args.made) _ free c.if-branch.true)
    (has_later a c.occurs_in_sequent.new.self (larger a b _ c.import_variable.ensures.grown c.occurs_in_sequent.ensures.grown) _ c.args.made (has_there a c.args.made c.requires.made))

pub quantify-requires-clause-one : goal.quantify-requires-clause-one
quantify-requires-clause-one c = sequent_there c.args.arena.now c.occurs_in_sequent.new.self (larger _ c.import_variable.new.self _ c.import_variable.ensures.grown c.occurs_in_sequent.ensures.grown) c.args.one c.requires.one

pub quantify-requires-clause-two : goal.quantify-requires-clause-two
quantify-requires-clause-two c = sequent_there c.args.arena.now c.occurs_in_sequent.new.self (larger _ c.import_variable.new.self _ c.import_variable.ensures.grown c.occurs_in_sequent.ensures.grown) c.args.two c.requires.two

pub quantify-requires-clause-variable : goal.quantify-requires-clause-variable
quantify-requires-clause-variable c = facts.variable_there c.occurs_in_sequent.new.self c.in_ok-variable.variable _ (c.occurs_in_sequent.ensures.grown c.in_ok-variable.variable _ c.in_ok-variable.ensures.variable)

pub quantify-requires-clause-made : goal.quantify-requires-clause-made
quantify-requires-clause-made c = interpolated_there c.args.arena.now c.occurs_in_sequent.new.self (larger _ c.import_variable.new.self _ c.import_variable.ensures.grown c.occurs_in_sequent.ensures.grown) c.args.made c.requires.made

pub returns-clause-made : goal.returns-clause-made
returns-clause-made c =
    let a = c.args.arena.now in
    let b = c.import_variable.new.self in
    let d = c.occurs_in_sequent.new.self in
    let whole = larger a b d c.import_variable.ensures.grown c.occurs_in_sequent.ensures.grown in
    let x = c.args.var.now in
    let variable = is_variable d c.in_ok-variable.variable x (c.occurs_in_sequent.ensures.grown c.in_ok-variable.variable _ c.in_ok-variable.ensures.variable) in
    let free = is_free_there a b c.import_variable.ensures.grown c.args.side c.args.one c.args.two c.in_ok-variable.variable _ x c.part_at.result c.requires.one c.requires.two c.in_ok-variable.ensures.variable c.part_at.ensures c.in_ok-occurs_in_sequent.ensures.free in
    made_same c.quantify.result c.quantify.new.arena _ _
    ((λ i. quantified c.args.side (sequent_stays a d whole c.args.one c.requires.one i) (sequent_stays a d whole c.args.two c.requires.two i) (variable i) (interpolation_stays a d whole c.args.made c.requires.made i))
    ∙ not_kept c.args.side (sequent_at a c.args.one) (sequent_at a c.args.two) x (interpolation_at a c.args.made) _ free c.if-branch.false) c.quantify.ensures.made

pub returns-clause-grown : goal.returns-clause-grown
returns-clause-grown c = larger _ _ _ (larger _ _ _ c.import_variable.ensures.grown c.occurs_in_sequent.ensures.grown) c.quantify.ensures.grown
