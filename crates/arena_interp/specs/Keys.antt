-- Proofs with two parts as keys of a table.
--     same_partition      whether two are equal
--     partition_fingerprint      a number in which unequal ones mostly differ
use Rattle.std.specs.Prelude.{ℕ, Bool}
use Rattle.std.specs.Coded.{Coded}
use Rattle.fol.specs.Mixing.{mixed}
use Rattle.number_hash.specs.Codes.{same_by}
use Rattle.arena_interp.specs.declared.partition.Partition.{Partition}
use Rattle.arena_interp.specs.contracts.partition.Partition as row

abbrev pub coded_partition : Coded Partition
coded_partition = row.the_row.coded

abbrev pub same_partition : Partition → Partition → Bool
same_partition = same_by coded_partition

unfoldable pub partition_fingerprint : Partition → ℕ
partition_fingerprint p = mixed (mixed (mixed 0 p.proof) p.first) p.second
