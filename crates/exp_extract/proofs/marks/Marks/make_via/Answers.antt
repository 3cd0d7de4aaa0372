-- One more address changes no mark but those of instances.
use Rattle.std.proofs.Common.{◌≡◌, List, true, false, sym, ap, ◌∙◌, subst}
use Rattle.extraction_laws.specs.Addresses.{Address, via, formula_at, side_at}
use Rattle.extraction_laws.specs.States.{instantiated, with_address}
use Rattle.exp_extract.specs.Marked.{Marked, address_in, address_at}
use Rattle.exp_extract.specs.Quantifiers.{is_weak, is_strong, Grows}
use Rattle.exp_extract.specs.Marks.{instances_in}
use Rattle.exp_extract.proofs.Quantified.{not_weak}
use Rattle.exp_extract.proofs.MarkedSets.{state_at, state_grown, state_instance, within_grown, grows_with, grown_itself, grown_to, instances_stay, either_way, on_ok}
use Rattle.exp_extract.proofs.marks.Marks.make_via.Goals as goal

pub invariant_of-self : goal.invariant_of-self
invariant_of-self c =
    let bs = c.self.inside.places in
    let cs = c.make_via.new.self in
    let a = via (address_in bs c.args.place) c.args.term.now in
    let grown : Grows bs cs = either_way c.make_via.result (λ e. grown_to bs cs (with_address bs a) e (grows_with bs a)) (grown_itself bs cs) c.make_via.ensures.ok c.make_via.ensures.err in
    record { used = within_grown bs cs grown c.self.inside.used.keys c.self.invariant.used; names = within_grown bs cs grown c.self.inside.names.places c.self.invariant.names }

pub returns-clause-grown : goal.returns-clause-grown
returns-clause-grown c =
    let bs = c.self.inside.places in
    let cs = c.make_via.new.self in
    let a = via (address_in bs c.args.place) c.args.term.now in
    subst (λ (m : Marked). Grows m.addresses cs) c.self.view_is
    (either_way c.make_via.result (λ e. grown_to bs cs (with_address bs a) e (grows_with bs a)) (grown_itself bs cs) c.make_via.ensures.ok c.make_via.ensures.err)

pub returns-clause-weak : goal.returns-clause-weak
returns-clause-weak c at =
    let bs = c.self.inside.places in
    let cs = c.make_via.new.self in
    let b = address_in bs c.args.place in
    let t = c.args.term.now in
    let weak : is_weak (formula_at b) (side_at b) ≡ true = subst (λ (m : Marked). is_weak (formula_at (address_at m c.args.place)) (side_at (address_at m c.args.place)) ≡ true) (sym c.self.view_is) at in
    on_ok c.make_via.result (λ e.
    subst (λ (m : Marked). state_at cs c.self.inside.used.keys c.self.inside.names.places ≡ instantiated (address_at m c.args.place) t m.state) c.self.view_is
    (ap (λ (ds : List Address). state_at ds c.self.inside.used.keys c.self.inside.names.places) e
    ∙ state_instance bs b t c.self.inside.used.keys c.self.inside.names.places c.self.invariant.used c.self.invariant.names weak))
    c.make_via.ensures.ok

pub returns-clause-strong : goal.returns-clause-strong
returns-clause-strong c at =
    let bs = c.self.inside.places in
    let cs = c.make_via.new.self in
    let a = via (address_in bs c.args.place) c.args.term.now in
    let strong : is_strong (formula_at (address_in bs c.args.place)) (side_at (address_in bs c.args.place)) ≡ true = subst (λ (m : Marked). is_strong (formula_at (address_at m c.args.place)) (side_at (address_at m c.args.place)) ≡ true) (sym c.self.view_is) at in
    let none : is_weak (formula_at (address_in bs c.args.place)) (side_at (address_in bs c.args.place)) ≡ false = not_weak (formula_at (address_in bs c.args.place)) (side_at (address_in bs c.args.place)) strong in
    let grown : Grows bs cs = either_way c.make_via.result (λ e. grown_to bs cs (with_address bs a) e (grows_with bs a)) (grown_itself bs cs) c.make_via.ensures.ok c.make_via.ensures.err in
    let instances : instances_in cs ≡ instances_in bs = either_way c.make_via.result (λ e. ap instances_in e ∙ instances_stay bs a none) (λ e. ap instances_in e) c.make_via.ensures.ok c.make_via.ensures.err in
    state_grown bs cs c.self.inside.used.keys c.self.inside.names.places grown c.self.invariant.used c.self.invariant.names instances
    ∙ ap (λ (m : Marked). m.state) c.self.view_is
