-- The references at the next place have one number.
use Rattle.std.proofs.Common.{◌≡◌, ◌<◌, length, get_or, sym, ap, ◌∙◌, arith}
use Rattle.std.proofs.lemmas.List.{get_or_default}
use Rattle.proof_graph.specs.References.{Reference}
use Rattle.proof_graph.proofs.Standing.{take_same, number_same, lengths_same}
use Rattle.proof_graph.proofs.index.see_same.Goals as goal

pub loop-i-preserved : goal.loop-i-preserved
loop-i-preserved c =
    let lengths = lengths_same c.args.one.now c.args.other.now c.requires.numbers in
    let in_one : c.loop-i.i < length c.args.one.now = omega arith in
    let in_other : c.loop-i.i < length c.args.other.now = omega arith in
    let read : get_or c.args.other.now c.loop-i.i c.index-one-i.result ≡ c.index-other-i.result =
    get_or_default c.args.other.now c.loop-i.i c.index-one-i.result c.index-other-i.result in_other ∙ sym c.index-other-i.is in
    let numbers = number_same c.args.one.now c.args.other.now c.loop-i.i c.index-one-i.result c.requires.numbers in_one in_other in
    let number : c.index-one-i.result.number ≡ c.index-other-i.result.number =
    ap (λ (r : Reference). r.number) c.index-one-i.is ∙ numbers ∙ ap (λ (r : Reference). r.number) read in
    let same : c.index-one-i.result ≡ c.index-other-i.result = c.is_same-same.ensures.same (c.is_same-same.ensures.number.1 number) in
    take_same c.args.one.now c.args.other.now c.loop-i.i c.index-one-i.result in_one in_other c.loop-i.invariant (sym c.index-one-i.is ∙ same ∙ sym read)
