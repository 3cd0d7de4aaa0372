-- Places of the last side that follow the changes are those of the side.
use Rattle.std.proofs.Common.{◌≡◌, sym, ◌∙◌}
use Rattle.std.specs.Prelude.{IsTrue}
use Rattle.arena_cells.specs.Standing.{side_at}
use Rattle.arena_cells.specs.Meaning.{formulas_of}
use Rattle.arena_cells.proofs.Reading.{if_ok}
use Rattle.arena_graph.specs.Changes.{AreChanges}
use Rattle.arena_graph.specs.Places.{ArePlacesOf, formulas_at}
use Rattle.arena_graph.proofs.Following.{followed}
use Rattle.arena_graph.proofs.last_side.LastSide.follow.Goals as goal

pub returns-clause-places : goal.returns-clause-places
returns-clause-places c =
    let a = c.args.arena.now in
    let es = c.args.ranks.now.entries.items in
    let old = c.side_numbers-old.ensures in
    let new = c.side_numbers.ensures in
    let ps = c.args.self.now.places.items in
    let changes : AreChanges c.deref.result.now c.side_numbers-old.result.now c.side_numbers.result.now = rw c.deref.ensures.value c.in_ok-find_changes.ensures in
    let shown : formulas_at es ps ≡ formulas_of a c.side_numbers-old.result.now = c.requires.last.places.same ∙ old.shown in
    if_ok c.change_places.result _ (λ known. IsTrue known → ArePlacesOf es (side_at a c.args.side) c.change_places.new.places.items)
    (λ known follow yes. record {
      places = (follow yes).places;
      same = followed es c.requires.ranks.rises a c.known.ensures c.deref.result.now _ _ ps c.change_places.new.places.items old.rising new.rising changes c.requires.last.places.places shown (follow yes) ∙ sym new.shown;
    }) c.change_places.ensures
