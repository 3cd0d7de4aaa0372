-- One more address changes no mark but those of instances.
use Rattle.std.proofs.Common.{◌≡◌, refl, ap, ◌∙◌, subst}
use Rattle.extraction_laws.specs.Addresses.{part}
use Rattle.extraction_laws.specs.States.{with_address}
use Rattle.exp_extract.specs.Marked.{Marked, address_in}
use Rattle.exp_extract.specs.Quantifiers.{Grows}
use Rattle.exp_extract.specs.Marks.{instances_in}
use Rattle.exp_extract.proofs.MarkedSets.{state_grown, within_grown, grows_with, grown_itself, grown_to, instances_stay, either_way}
use Rattle.exp_extract.proofs.marks.Marks.make_part.Goals as goal

pub invariant_of-self : goal.invariant_of-self
invariant_of-self c =
    let bs = c.self.inside.places in
    let cs = c.make_part.new.self in
    let a = part (address_in bs c.args.place) c.args.number in
    let grown : Grows bs cs = either_way c.make_part.result (λ e. grown_to bs cs (with_address bs a) e (grows_with bs a)) (grown_itself bs cs) c.make_part.ensures.ok c.make_part.ensures.err in
    record { used = within_grown bs cs grown c.self.inside.used.keys c.self.invariant.used; names = within_grown bs cs grown c.self.inside.names.places c.self.invariant.names }

pub returns-clause-grown : goal.returns-clause-grown
returns-clause-grown c =
    let bs = c.self.inside.places in
    let cs = c.make_part.new.self in
    let a = part (address_in bs c.args.place) c.args.number in
    subst (λ (m : Marked). Grows m.addresses cs) c.self.view_is
    (either_way c.make_part.result (λ e. grown_to bs cs (with_address bs a) e (grows_with bs a)) (grown_itself bs cs) c.make_part.ensures.ok c.make_part.ensures.err)

pub returns-clause-state : goal.returns-clause-state
returns-clause-state c =
    let bs = c.self.inside.places in
    let cs = c.make_part.new.self in
    let a = part (address_in bs c.args.place) c.args.number in
    let grown : Grows bs cs = either_way c.make_part.result (λ e. grown_to bs cs (with_address bs a) e (grows_with bs a)) (grown_itself bs cs) c.make_part.ensures.ok c.make_part.ensures.err in
    let instances : instances_in cs ≡ instances_in bs = either_way c.make_part.result (λ e. ap instances_in e ∙ instances_stay bs a refl) (λ e. ap instances_in e) c.make_part.ensures.ok c.make_part.ensures.err in
    state_grown bs cs c.self.inside.used.keys c.self.inside.names.places grown c.self.invariant.used c.self.invariant.names instances
    ∙ ap (λ (m : Marked). m.state) c.self.view_is
