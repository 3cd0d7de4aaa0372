-- Each number so far leads to itself.
use Rattle.std.proofs.Common.{◌≡◌, ℕ, ◌<◌, length, get_or}
use Rattle.fol_unify.proofs.classes.Classes.new.Given as goal

abbrev pub invariant-loop-number : goal.invariant-loop-number
invariant-loop-number l = record {
  so_many : length l.links.items ≡ l.number;
  heights : length l.heights.items ≡ l.number;
  own : (n : ℕ) → n < l.number → get_or l.links.items n 0 ≡ n;
}
