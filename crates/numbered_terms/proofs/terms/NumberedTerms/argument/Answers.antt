-- The arguments of the node are those of the term.
use Rattle.std.proofs.Common.{◌+◌, ◌<◌, ◌≤◌, length, get_or, sym, subst, ◌∙◌}
use Rattle.fol.specs.Syntax.{cons}
use Rattle.arena_cells.specs.Standing.{term_at}
use Rattle.numbered_terms.specs.Numbered.{tuple_at}
use Rattle.numbered_terms.specs.Walks.{terms_from}
use Rattle.numbered_terms.proofs.WalkSteps.{argument_there, argument_none}
use Rattle.numbered_terms.proofs.terms.NumberedTerms.argument.Goals as goal

pub returns-then-place-arguments-clause-some : goal.returns-then-place-arguments-clause-some
returns-then-place-arguments-clause-some c =
    let a = c.args.self.now in
    let k = c.args.place in
    let n = c.args.term in
    let same = sym c.as_slice-arguments.ensures.value in
    let within : k < length c.node.result.now.arguments.items = subst (λ ns. k < length ns) c.as_slice-arguments.ensures.value c.if-place-arguments.true in
    argument_there a n c.node.result.now k c.node.ensures within ∙ λ i. cons (term_at a (get_or (same i) k 0)) (terms_from (k + 1) (tuple_at a n))

pub returns-else-place-arguments-clause-none : goal.returns-else-place-arguments-clause-none
returns-else-place-arguments-clause-none c =
    let past : length c.node.result.now.arguments.items ≤ c.args.place = subst (λ ns. length ns ≤ c.args.place) c.as_slice-arguments.ensures.value c.if-place-arguments.false in
    λ _. argument_none c.args.self.now c.args.term c.node.result.now c.args.place c.node.ensures past
