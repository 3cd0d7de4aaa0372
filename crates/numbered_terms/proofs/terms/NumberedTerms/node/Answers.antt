-- The node at a place is that of the term with this number.
use Rattle.std.proofs.Common.{◌<◌, length, subst, sym}
use Rattle.std.proofs.lemmas.Option.{slice_get_read}
use Rattle.arena_cells.specs.Standing.{IsTermAt}
use Rattle.arena_cells.proofs.Staying.{within}
use Rattle.numbered_terms.specs.Nodes.{IsNode}
use Rattle.numbered_terms.proofs.terms.NumberedTerms.node.Goals as goal

pub returns : goal.returns
returns c =
    let n = c.args.number in
    let a = c.self.inside.cells.value in
    let nodes = c.self.inside.nodes.items in
    let there : IsTermAt a n = subst (λ b. IsTermAt b n) (sym c.self.view_is) c.requires in
    let small : n < length a = within a n _ there in
    let d = c.index.result.now in
    subst (λ b. IsNode b n d) c.self.view_is
    (c.self.invariant.0.each n d (slice_get_read nodes (length a) n d (sym c.self.invariant.0.as_many) small c.index.ensures) there)
