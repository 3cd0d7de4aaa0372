-- The address is marked.
use Rattle.std.proofs.Common.{◌≡◌, map, subst}
use Rattle.extraction_laws.specs.States.{opened}
use Rattle.exp_extract.specs.Marked.{Marked, address_in, address_at}
use Rattle.exp_extract.specs.Marks.{set_at, instances_in}
use Rattle.exp_extract.proofs.MarkedSets.{opened_at}
use Rattle.exp_extract.proofs.marks.Marks.open.Goals as goal

pub returns-clause-state : goal.returns-clause-state
returns-clause-state c =
    let bs = c.self.inside.places in
    let same = opened_at bs c.args.place c.self.inside.used.keys c.insert.new.self.keys c.in_ok-insert.ensures.updates.0 in
    subst (λ (m : Marked). record { opened = set_at bs c.insert.new.self.keys; instances = instances_in bs; names = map (address_in bs) c.self.inside.names.places } ≡ opened (address_at m c.args.place) m.state) c.self.view_is
    (λ i. record { opened = same i; instances = instances_in bs; names = map (address_in bs) c.self.inside.names.places })
