use Rattle.std.proofs.Common.{ap, ◌∙◌}
use Rattle.prop_search.specs.Bits.{has_number}
use Rattle.prop_search.proofs.BitSets.{none_in_zeros}
use Rattle.prop_search.proofs.numbered.Numbered.new.Goals as goal

pub returns-clause-empty : goal.returns-clause-empty
returns-clause-empty c = λ n. ap (λ words. has_number words n) (c.in_ok-words.ensures.items_if_clones_equal (λ y e. e)) ∙ none_in_zeros c.args.words n
