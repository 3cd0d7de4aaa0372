-- The part of the main formula has the auxiliary formulas.
use Rattle.std.proofs.Common.{sym, ap, subst, ◌∙◌}
use Rattle.lk_rules.specs.declared.sequent.Side.{Side}
use Rattle.interp_laws.specs.Interpolation.{first_above, second_above, above, itp}
use Rattle.interp_laws.specs.Parts.{HasParts}
use Rattle.arena_cells.specs.Standing.{sequent_at, tree_at}
use Rattle.arena_cells.specs.Meaning.{rule_at}
use Rattle.arena_cells.proofs.Staying.{tree_stays}
use Rattle.arena_interp.proofs.UpperParts.{first_partition, first_upper, second_partition, second_upper}
use Rattle.arena_interp.proofs.upper.upper_partition.Goals as goal

pub returns-in_ok-first-in-Right-clause-partition : goal.returns-in_ok-first-in-Right-clause-partition
returns-in_ok-first-in-Right-clause-partition c =
    let a = c.args.arena.now in
    let p = c.args.lower in
    let r = rule_at a c.args.rule in
    let parts = subst (λ (m : Side). HasParts (tree_at a p.proof) (first_above m r c.args.place (sequent_at a p.first)) (second_above m r c.args.place (sequent_at a p.second))) c.in-Right.is c.requires.parts in
    first_partition a c.with_aux.new.arena c.with_aux.ensures.grown c.args.rule c.args.place c.in_ok-first-in-Right.first p c.requires.premise c.requires.one c.requires.two c.in_ok-first-in-Right.ensures.sequent parts

pub returns-in_ok-first-in-Right-clause-proof : goal.returns-in_ok-first-in-Right-clause-proof
returns-in_ok-first-in-Right-clause-proof c = tree_stays c.args.arena.now c.with_aux.new.arena c.with_aux.ensures.grown c.args.lower.proof c.requires.premise

pub returns-in_ok-first-in-Right-clause-above : goal.returns-in_ok-first-in-Right-clause-above
returns-in_ok-first-in-Right-clause-above c =
    let a = c.args.arena.now in
    let p = c.args.lower in
    let r = rule_at a c.args.rule in
    first_upper a c.with_aux.new.arena c.with_aux.ensures.grown c.args.rule c.args.place c.in_ok-first-in-Right.first p c.requires.premise c.requires.one c.requires.two c.in_ok-first-in-Right.ensures.sequent
    ∙ ap (λ (m : Side). above itp m r c.args.place (tree_at a p.proof) (sequent_at a p.first) (sequent_at a p.second)) (sym c.in-Right.is)

pub returns-in_ok-second-in-Left-clause-partition : goal.returns-in_ok-second-in-Left-clause-partition
returns-in_ok-second-in-Left-clause-partition c =
    let a = c.args.arena.now in
    let p = c.args.lower in
    let r = rule_at a c.args.rule in
    let parts = subst (λ (m : Side). HasParts (tree_at a p.proof) (first_above m r c.args.place (sequent_at a p.first)) (second_above m r c.args.place (sequent_at a p.second))) c.in-Left.is c.requires.parts in
    second_partition a c.with_aux-in-Left.new.arena c.with_aux-in-Left.ensures.grown c.args.rule c.args.place c.in_ok-second-in-Left.second p c.requires.premise c.requires.one c.requires.two c.in_ok-second-in-Left.ensures.sequent parts

pub returns-in_ok-second-in-Left-clause-proof : goal.returns-in_ok-second-in-Left-clause-proof
returns-in_ok-second-in-Left-clause-proof c = tree_stays c.args.arena.now c.with_aux-in-Left.new.arena c.with_aux-in-Left.ensures.grown c.args.lower.proof c.requires.premise

pub returns-in_ok-second-in-Left-clause-above : goal.returns-in_ok-second-in-Left-clause-above
returns-in_ok-second-in-Left-clause-above c =
    let a = c.args.arena.now in
    let p = c.args.lower in
    let r = rule_at a c.args.rule in
    second_upper a c.with_aux-in-Left.new.arena c.with_aux-in-Left.ensures.grown c.args.rule c.args.place c.in_ok-second-in-Left.second p c.requires.premise c.requires.one c.requires.two c.in_ok-second-in-Left.ensures.sequent
    ∙ ap (λ (m : Side). above itp m r c.args.place (tree_at a p.proof) (sequent_at a p.first) (sequent_at a p.second)) (sym c.in-Left.is)
