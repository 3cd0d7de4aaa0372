-- The term at the front comes next.
use Rattle.std.proofs.Common.{◌<◌, map, sym, ap, subst, ◌∙◌, arith}
use Rattle.std.specs.List.{All}
use Rattle.std.proofs.lemmas.List.Elements.{All-push}
use Rattle.arena_cells.specs.declared.key.Key.TheVariants.{Cons}
use Rattle.arena_cells.specs.Standing.{term_at, terms_at, IsTermAt}
use Rattle.arena_cells.specs.Meaning.{IsKeyAt}
use Rattle.numbered_terms.specs.Nodes.{followed}
use Rattle.numbered_terms.proofs.Listing.{one_more}
use Rattle.numbered_terms.proofs.nodes.listed_numbers.Goals as goal

pub loop-term-preserved : goal.loop-term-preserved
loop-term-preserved c =
    let a = c.args.cells.now in
    let key : IsKeyAt a c.loop-term.rest (Cons c.in-Cons.term c.in-Cons.others) = subst (IsKeyAt a c.loop-term.rest) c.in-Cons.is c.key.ensures in
    let pushed = c.in_ok-push.ensures.items in
    record {
      there = key.parts.1;
      within = omega (arith, key.below.1);
      terms = subst (All (IsTermAt a)) (sym pushed) (All-push (IsTermAt a) c.loop-term.numbers.items c.in-Cons.term c.loop-term.invariant.terms key.parts.0);
      below = subst (All (λ n. n < c.args.list)) (sym pushed) (All-push (λ n. n < c.args.list) c.loop-term.numbers.items c.in-Cons.term c.loop-term.invariant.below (omega (arith, key.below.0)));
      followed = ap (λ ns. followed (map (term_at a) ns) (terms_at a c.in-Cons.others)) pushed ∙ (one_more a c.loop-term.numbers.items c.loop-term.rest c.in-Cons.term c.in-Cons.others key ∙ c.loop-term.invariant.followed);
    }
