-- What is added to each stays added, and without rows the share of an item is the same for each.
use Rattle.std.proofs.Common.{◌≡◌, ℕ, ◌+◌, length, ap, ◌∙◌, arith}
use Rattle.std.proofs.lemmas.Bool.Decides.{nat_tests}
use Rattle.delta_table.specs.declared.tallies.Tally.{Tally}
use Rattle.delta_table.specs.FoundRows.{nothing, tallies_at}
use Rattle.delta_table.specs.Chosen.{zipped, raised, share}
use Rattle.delta_table.proofs.CostSteps.{raised_same, raised_zipped}
use Rattle.delta_table.proofs.costs.Sums.add.Goals as goal

pub returns-then-is_empty : goal.returns-then-is_empty
returns-then-is_empty c =
    let item = c.args.item.now in
    let all = c.args.self.now.all in
    let none : length c.args.rows.now ≡ 0 = grind (arith, nat_tests) in
    let more : c.in_ok-self.field-0 ≡ all + share item nothing = c.in_ok-self.ensures ∙ ap (λ s. all + s) (c.share.ensures ∙ ap (share item) c.new.ensures) in
    raised_same item all c.in_ok-self.field-0 c.args.self.now.each.items c.args.keys.now c.args.rows.now none more c.requires.as_many

pub returns : goal.returns
returns c =
    let item = c.args.item.now in
    let sums = c.args.self.now in
    let tallies = c.deref-2.ensures.value ∙ c.in_ok-tallies.ensures in
    ap (raised sums.all) (c.in_ok-self-2.ensures ∙ λ n. zipped (λ (x : ℕ) (t : Tally). x + share item t) (c.deref.ensures.value n) (tallies n))
    ∙ raised_zipped item sums.all sums.each.items (tallies_at c.args.keys.now c.args.rows.now)
