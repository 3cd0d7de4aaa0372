-- The formulas of the premise are those of the conclusion or auxiliary ones.
use Rattle.exp_extract.proofs.ToldApart.{premise_told, premise_distinct}
use Rattle.exp_extract.proofs.fingerprints.tell_side_apart.Goals as goal

pub returns-then-are_few_distinct-clause-told : goal.returns-then-are_few_distinct-clause-told
returns-then-are_few_distinct-clause-told c told =
    premise_told c.args.conclusion.now c.args.added.now c.requires.distinct (c.are_few_distinct.ensures c.if-are_few_distinct.true) (c.are_told_apart.ensures told) c.args.premise.now c.requires.among

pub returns-then-are_few_distinct-clause-distinct : goal.returns-then-are_few_distinct-clause-distinct
returns-then-are_few_distinct-clause-distinct c told =
    premise_distinct c.args.conclusion.now c.args.added.now c.requires.distinct (c.are_few_distinct.ensures c.if-are_few_distinct.true) (c.are_told_apart.ensures told) c.args.premise.now c.requires.rises c.requires.among
