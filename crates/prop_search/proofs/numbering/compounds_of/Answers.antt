use Rattle.std.proofs.Common.{ℕ, length, ap, ◌∙◌, arith}
use Rattle.std.proofs.lemmas.List.{length-replicate}
use Rattle.prop_search.specs.Bits.{has_number, words_for}
use Rattle.prop_search.proofs.BitSets.{none_in_zeros}
use Rattle.prop_search.proofs.numbering.compounds_of.Goals as goal

pub loop-i-init : goal.loop-i-init
loop-i-init c =
    let zeros = c.in_ok-compounds.ensures.items_if_clones_equal (λ y e. e) in
    record {
      room = ap length zeros ∙ length-replicate {A = ℕ} _ 0 ∙ ap words_for c.requires.counted;
      marked = λ n below. absurd (omega arith);
      none_past = λ n _. ap (λ words. has_number words n) zeros ∙ none_in_zeros _ n;
    }
