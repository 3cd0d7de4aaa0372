-- What is mixed so far, with the numbers that are left, gives the whole.
use Rattle.std.proofs.Common.{◌≡◌, drop, fold}
use Rattle.fol.specs.Mixing.{mixed}
use Rattle.proof_graph.proofs.key.with_numbers.Given as goal

abbrev pub invariant-loop-number : goal.invariant-loop-number
invariant-loop-number l = fold mixed l.mixed (drop l.number-index l.numbers) ≡ fold mixed l.fingerprint l.numbers
