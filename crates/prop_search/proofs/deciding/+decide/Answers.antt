-- The rule of a compound formula, and the walks at its premises.
use Rattle.std.proofs.Common.{◌≡◌, ◌+◌, ◌-◌, Ok, Some, arith}
use Rattle.proof_trees.specs.Trees.{size}
use Rattle.search_laws.specs.Search.{walk}
use Rattle.prop_search.specs.declared.choices.Choice.TheVariants.{Main}
use Rattle.prop_search.specs.Choices.{IsChoice}
use Rattle.prop_search.specs.Deciding.{WalksTo}
use Rattle.prop_search.specs.Formulas.{sequent_of}
use Rattle.prop_search.proofs.PartsOf.{goes_on, within_by}
use Rattle.prop_search.proofs.deciding.+decide.Goals as goal

pub decide_at-decide_main-requires : goal.decide_at-decide_main-requires
decide_at-decide_main-requires t c =
    let fs = c.args.numbering.now in
    let s = sequent_of fs c.args.sequent in
    let main = c.in-Some-Main.main in
    let chosen : IsChoice fs s (Some (Main main)) = rw c.in-Some-Main.field-0-is at c.in-Some-Main.ensures in
    let within = within_by fs main c.root.result c.parts-parts.result c.root.ensures c.parts-parts.ensures in
    let taken = goes_on fs s main c.root.result c.parts-parts.result (c.steps.ensures.walk s) chosen.2 c.root.ensures c.parts-parts.ensures in
    (omega arith, (omega arith, (c.requires.fit, (chosen.0, (within, (taken, c.requires.seen))))))

pub decide_at-returns-in-Some-Close-clause-seen : goal.decide_at-returns-in-Some-Close-clause-seen
decide_at-returns-in-Some-Close-clause-seen t c = c.recycle.ensures c.args.numbering.now c.requires.seen

pub decide_either-returns-in-Some-clause-seen : goal.decide_either-returns-in-Some-clause-seen
decide_either-returns-in-Some-clause-seen t c = c.recycle.ensures c.args.numbering.now c.requires.seen

pub decide_either-returns-in_err-premise-clause-seen : goal.decide_either-returns-in_err-premise-clause-seen
decide_either-returns-in_err-premise-clause-seen t c = c.copy.ensures.seen c.args.numbering.now c.requires.seen

pub decide_either-decide_at-requires : goal.decide_either-decide_at-requires
decide_either-decide_at-requires t c = (omega arith, (c.put.ensures.fit, c.copy.ensures.seen c.args.numbering.now c.requires.seen))

pub decide_either-returns-in_err-premise-2-clause-seen : goal.decide_either-returns-in_err-premise-2-clause-seen
decide_either-returns-in_err-premise-2-clause-seen t c = c.copy-2.ensures.seen c.args.numbering.now c.decide_at.ensures.seen

pub decide_either-decide_at-requires-2 : goal.decide_either-decide_at-requires-2
decide_either-decide_at-requires-2 t c =
    let first : WalksTo (Ok tt) (c.args.left.now - 1) c.decide_at.new.left (walk (sequent_of c.args.numbering.now c.put.new.sequent)) = rw c.in_ok-decide_at.was at c.decide_at.ensures.walk in
    let spent : c.args.left.now - 1 ≡ c.decide_at.new.left + size first.0 = first.2 in
    (omega arith, (c.put-2.ensures.fit, c.copy-2.ensures.seen c.args.numbering.now c.decide_at.ensures.seen))
