use Rattle.std.proofs.Common.{◌≡◌, ℕ, false, length, take, get_or}
use Rattle.std.specs.List.{list_any}
use Rattle.exp_check.specs.Ranks.{is_level}
use Rattle.exp_check.proofs.ranks.level_at.Given as goal

abbrev pub invariant-loop-link : goal.invariant-loop-link
invariant-loop-link l = record {
  count : length l.level.items ≡ length l.ranks;
  level : (i : ℕ) → get_or l.level.items i false ≡ list_any (is_level l.ranks i) (take l.link-index l.links);
}
