-- What the ends in memory hold, and what a call moves.
use Rattle.std.specs.Prelude.{ℕ, ◌+◌, ◌-◌, ◌^◌, ◌==◌, Bool, min, List}
use Rattle.std.specs.List.{list_any}

-- a source in memory between two calls
pub record SourceState : Type 0 where
  pub left : List ℕ  -- the bytes still to come
  pub piece : ℕ  -- the most bytes that a call moves
  pub failing : List ℕ  -- the numbers of the calls that fail
  pub calls : ℕ  -- how many calls there were
  pub faults : ℕ  -- how many of them failed

-- a sink in memory between two calls
pub record SinkState : Type 0 where
  pub written : List ℕ  -- the bytes taken
  pub flushed : ℕ  -- how many of them were flushed
  pub piece : ℕ  -- the most bytes that a call moves
  pub failing : List ℕ  -- the numbers of the calls that fail
  pub calls : ℕ  -- how many calls there were
  pub faults : ℕ  -- how many of them failed

-- one more, or the greatest `u64`, at which a count stays
abbrev pub count_after : ℕ → ℕ
count_after n = min (n + 1) (2 ^ 64 - 1)

-- the call with this number is to fail
abbrev pub is_failing : List ℕ → ℕ → Bool
is_failing failing number = list_any (λ n. n == number) failing

-- how many bytes move: at most a piece, and no more than there is room for and than there are
abbrev pub moved_count : ℕ → ℕ → ℕ → ℕ
moved_count piece room there = min piece (min room there)
