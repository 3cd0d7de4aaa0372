-- Symbols are equal where their numbers are.
use Rattle.std.proofs.Common.{◌≡◌, Some, option_map, IfSome, sym, ap, subst, ◌∙◌}
use Rattle.arena_cells.specs.Standing.{symbol_at, term_at, IsSymbolAt}
use Rattle.numbered_terms.specs.Nodes.{head_of}
use Rattle.numbered_terms.proofs.NumberTests.{symbol_test}
use Rattle.numbered_terms.proofs.WalkSteps.{has_that_head}
use Rattle.numbered_terms.proofs.terms.NumberedTerms.has_head.Goals as goal

pub returns-in-Some : goal.returns-in-Some
returns-in-Some c =
    let a = c.args.self.now in
    let s = c.args.symbol in
    let r = c.in-Some.other in
    let head : head_of (term_at a c.args.term) ≡ Some (symbol_at a r) = sym c.node.ensures.symbol ∙ ap (option_map (symbol_at a)) c.in-Some.is in
    let named : IsSymbolAt a r = subst (λ o. IfSome o (IsSymbolAt a)) c.in-Some.is c.node.ensures.named in
    symbol_test a c.known.ensures s r c.requires.symbol named ∙ sym (has_that_head (symbol_at a s) (term_at a c.args.term) (symbol_at a r) head)
