-- There are as many entries as addresses.
use Rattle.std.proofs.Common.{◌≡◌, length, ap, subst, rules, arith}
use Rattle.std.specs.Prelude.{ℕ, IfOk}
use Rattle.exp_extract.proofs.MoreEntries.{length_of}
use Rattle.exp_extract.proofs.places.Places.next.Goals as goal

pub returns : goal.returns
returns c =
    let count : c.len.result ≡ length c.args.self.now = omega (arith, ap length c.self.view_is, length_of c.self.inside.entries.items, c.self.inside.entries.ok.0) in
    subst (λ (k : ℕ). IfOk c.map_err.result (λ n. n ≡ k)) count (search rules)
