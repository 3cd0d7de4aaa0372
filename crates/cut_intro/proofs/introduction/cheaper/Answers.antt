-- The best candidate costs less, or there is none that does.
use Rattle.std.proofs.Common.{sym, ◌∙◌, arith}
use Rattle.std.proofs.lemmas.Bool.Decides.{nat_tests}
use Rattle.cut_intro.proofs.Choices.{none_chosen, chosen, not_chosen}
use Rattle.cut_intro.proofs.introduction.cheaper.Goals as goal

pub returns-then-is_less : goal.returns-then-is_less
returns-then-is_less g c =
    chosen c.args.width c.args.instances.now c.args.proof.now.tree c.in_ok-quantifiers.quantifiers c.in_ok-quantifiers.ensures c.requires.small c.in-Some.candidate (sym c.in-Some.is ∙ c.in_ok-candidate.ensures) (c.candidates.ensures.occurs c.args.width c.args.instances.now) (first_of (omega arith, grind (arith, nat_tests)))

pub returns-else-is_less : goal.returns-else-is_less
returns-else-is_less g c =
    not_chosen c.args.width c.args.instances.now c.args.proof.now.tree c.in_ok-quantifiers.quantifiers c.in_ok-quantifiers.ensures c.requires.small c.in-Some.candidate (sym c.in-Some.is ∙ c.in_ok-candidate.ensures) (first_of (omega arith, grind (arith, nat_tests)))

pub returns-in-None : goal.returns-in-None
returns-in-None g c = none_chosen c.args.width c.args.instances.now c.args.proof.now.tree c.in_ok-quantifiers.quantifiers c.in_ok-quantifiers.ensures c.requires.small (sym c.in-None.is ∙ c.in_ok-candidate.ensures)
