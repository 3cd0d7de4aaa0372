-- Tasks as keys of a table.
--     same_task      whether two tasks are equal
--     task_fingerprint      a number in which unequal tasks mostly differ
use Rattle.std.specs.Prelude.{ℕ, ◌+◌, ◌*◌, ◌^◌, Bool}
use Rattle.std.specs.Coded.{Coded}
use Rattle.fol.specs.Mixing.{mixed}
use Rattle.number_hash.specs.Codes.{same_by}
use Rattle.arena.specs.declared.task.Change.TheVariants as change
use Rattle.arena.specs.declared.task.Task.{Task}
use Rattle.arena.specs.declared.task.Task.TheVariants as task
use Rattle.arena.specs.contracts.task.Task as row

abbrev pub coded_task : Coded Task
coded_task = row.the_row.coded

abbrev pub same_task : Task → Task → Bool
same_task = same_by coded_task

-- two numbers of 32 bits as one of 64
unfoldable pub paired : ℕ → ℕ → ℕ
paired high low = high * 2 ^ 32 + low

-- the fingerprint of a kind and three numbers
unfoldable pub numbers_fingerprint : ℕ → ℕ → ℕ → ℕ → ℕ
numbers_fingerprint kind l m n = mixed (mixed 0 (paired kind m)) (paired l n)

unfoldable pub task_fingerprint : Task → ℕ
task_fingerprint (task.Change (change.Instance u k) n) = numbers_fingerprint 0 u k n
task_fingerprint (task.Change (change.Image m) n) = numbers_fingerprint 1 m 0 n
task_fingerprint (task.Change (change.Bind v k) n) = numbers_fingerprint 2 v k n
task_fingerprint (task.Image m n) = numbers_fingerprint 3 m 0 n
task_fingerprint (task.TreeImage m n) = numbers_fingerprint 4 m 0 n
