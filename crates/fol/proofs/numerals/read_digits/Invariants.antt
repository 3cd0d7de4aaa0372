-- What is read so far and the digits that are left give the number of all digits.
use Rattle.std.proofs.Common.{◌≡◌, drop}
use Rattle.fol.specs.Numbered.{digits_after}
use Rattle.fol.proofs.numerals.read_digits.Given as goal

abbrev pub invariant-loop-digit : goal.invariant-loop-digit
invariant-loop-digit l = digits_after 0 l.digits ≡ digits_after l.number (drop l.digit-index l.digits)
