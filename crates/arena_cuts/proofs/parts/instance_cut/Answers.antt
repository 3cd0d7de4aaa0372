-- The cut has the instance and the parts that stood before.
use Rattle.std.proofs.Common.{◌∙◌}
use Rattle.substitution.specs.Maps.{only}
use Rattle.proof_trees.specs.Substitution.{sub}
use Rattle.cut_laws.specs.Contraction.{cut_on}
use Rattle.arena_cells.specs.Standing.{Extends}
use Rattle.arena_cells.proofs.Staying.{is_formula, is_tree, sequent_stays, term_stays, variable_stays, tree_stays, sequent_there, term_there, variable_there, tree_there}
use Rattle.arena_cuts.proofs.Stable.{larger, tree_made}
use Rattle.arena_cuts.proofs.parts.instance_cut.Goals as goal

pub cut_on-requires-clause-other : goal.cut_on-requires-clause-other
cut_on-requires-clause-other c =
    tree_there c.args.arena.now c.replace.new.arena (larger _ _ _ c.instance.ensures.grown c.replace.ensures.grown) c.args.parts.other c.requires.parts.other

pub returns-clause-tree : goal.returns-clause-tree
returns-clause-tree c =
    let a = c.args.arena.now in
    let b = c.instance.new.self in
    let d = c.replace.new.arena in
    let p = c.args.parts in
    let h = c.requires.parts in
    let grown : Extends a b = c.instance.ensures.grown in
    let further : Extends b d = c.replace.ensures.grown in
    let whole : Extends a d = larger a b d grown further in
    let formula = is_formula d c.in_ok-formula.formula _ (further _ _ c.in_ok-formula.ensures.formula) in
    let premise = is_tree d c.in_ok-premise.premise _ c.in_ok-premise.ensures.tree
    ∙ (λ i. sub (tree_stays a b grown p.premise h.premise i) (only (variable_stays a b grown p.variable h.variable i) (term_stays a b grown p.term h.term i))) in
    tree_made c.cut_on.result c.cut_on.new.arena _ _
    (λ i. cut_on c.args.side (sequent_stays a d whole c.args.end c.requires.end i) (formula i) (premise i) (tree_stays a d whole p.other h.other i)) c.cut_on.ensures.tree

pub replace-requires-clause-variable : goal.replace-requires-clause-variable
replace-requires-clause-variable c = variable_there c.args.arena.now c.instance.new.self c.instance.ensures.grown c.args.parts.variable c.requires.parts.variable

pub replace-requires-clause-term : goal.replace-requires-clause-term
replace-requires-clause-term c = term_there c.args.arena.now c.instance.new.self c.instance.ensures.grown c.args.parts.term c.requires.parts.term

pub cut_on-requires-clause-end : goal.cut_on-requires-clause-end
cut_on-requires-clause-end c = sequent_there c.args.arena.now c.replace.new.arena (larger _ _ _ c.instance.ensures.grown c.replace.ensures.grown) c.args.end c.requires.end

pub returns-clause-grown : goal.returns-clause-grown
returns-clause-grown c = larger _ _ _ (larger _ _ _ c.instance.ensures.grown c.replace.ensures.grown) c.cut_on.ensures.grown
