-- What is given for the first names has been found.
use Rattle.std.proofs.Common.{◌≡◌, ◌-◌, ◌≤◌, length, map, take, vec_len}
use Rattle.operation_laws.specs.Given.{base_name, names_in}
use Rattle.job_windows.specs.Windows.{needs_at, need_named}
use Rattle.job_windows.proofs.store.Store.needs.Given as goal

abbrev pub invariant-names : goal.invariant-names
invariant-names l = (l.needs.items ≡ map (λ text. need_named l.self.names (needs_at l.self.held.items l.window.seats.items) (base_name text)) (take (vec_len l.needs) (names_in l.op)))
    × (vec_len l.needs ≤ length (names_in l.op))

abbrev pub decreases-names : goal.decreases-names
decreases-names l = length (names_in l.op) - vec_len l.needs
