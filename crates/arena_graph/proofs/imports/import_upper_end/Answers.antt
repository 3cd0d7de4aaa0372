-- The premise's end sequent is within what a premise may have, and the rule's formula is in the arena.
use Rattle.std.proofs.Common.{ap, sym, ◌∙◌}
use Rattle.proof_trees.specs.Trees.{concl}
use Rattle.proof_graph.specs.declared.node.Node.{Node}
use Rattle.arena_cells.specs.Standing.{sequent_at, IsFormulaAt}
use Rattle.arena_cells.specs.Meaning.{rule_at}
use Rattle.arena_cells.proofs.Reading.{if_some}
use Rattle.arena_cells.proofs.Staying.{formula_there}
use Rattle.arena_proofs.proofs.RuleParts.{named_formula}
use Rattle.arena_graph.proofs.Above.{within_shown}
use Rattle.arena_graph.proofs.imports.import_upper_end.Goals as goal

pub sequent_within-requires-clause-within : goal.sequent_within-requires-clause-within
sequent_within-requires-clause-within c =
    let a = c.args.arena.now in
    within_shown c.with_aux.new.arena c.in_ok-most.most (rule_at a c.args.rule) (sequent_at a c.args.end) c.args.place (concl c.args.premise.now.tree) c.get.result.now.end
    c.in_ok-most.ensures.sequent (ap (λ (n : Node). n.end) c.get.ensures) c.requires.within

pub sequent_within-requires-clause-main : goal.sequent_within-requires-clause-main
sequent_within-requires-clause-main c =
    let a = c.args.arena.now in
    let b = c.with_aux.new.arena in
    if_some c.rule_formula.result (IsFormulaAt b) (λ n e. formula_there a b c.with_aux.ensures.grown n (named_formula a c.args.rule n c.requires.rule (sym c.rule_formula.ensures ∙ e)).0)
