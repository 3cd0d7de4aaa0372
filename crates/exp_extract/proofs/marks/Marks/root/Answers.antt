-- One more address changes no mark.
use Rattle.std.proofs.Common.{◌≡◌, ◌∷◌, [], ◌++◌, false, refl, sym, ap, ◌∙◌, subst}
use Rattle.extraction_laws.specs.Addresses.{root, is_listed}
use Rattle.exp_extract.specs.Marked.{Marked}
use Rattle.exp_extract.specs.Quantifiers.{Grows}
use Rattle.exp_extract.specs.Marks.{instances_in}
use Rattle.exp_extract.proofs.MarkedSets.{state_grown, within_grown, grows_push, grown_itself, grown_to, instances_push, either_way}
use Rattle.exp_extract.proofs.marks.Marks.root.Goals as goal

pub invariant_of-self : goal.invariant_of-self
invariant_of-self c =
    let bs = c.self.inside.places in
    let cs = c.root.new.self in
    let a = root c.args.side c.args.formula in
    let grown : Grows bs cs = either_way c.root.result (λ e. grown_to bs cs (bs ++ a ∷ []) e (grows_push bs a)) (grown_itself bs cs) c.root.ensures.ok c.root.ensures.err in
    record { used = within_grown bs cs grown c.self.inside.used.keys c.self.invariant.used; names = within_grown bs cs grown c.self.inside.names.places c.self.invariant.names }

pub returns-clause-state : goal.returns-clause-state
returns-clause-state c =
    let bs = c.self.inside.places in
    let cs = c.root.new.self in
    let a = root c.args.side c.args.formula in
    let absent : is_listed a bs ≡ false = subst (λ (m : Marked). is_listed a m.addresses ≡ false) (sym c.self.view_is) c.requires.absent in
    let grown : Grows bs cs = either_way c.root.result (λ e. grown_to bs cs (bs ++ a ∷ []) e (grows_push bs a)) (grown_itself bs cs) c.root.ensures.ok c.root.ensures.err in
    let instances : instances_in cs ≡ instances_in bs = either_way c.root.result (λ e. ap instances_in e ∙ instances_push bs a absent refl) (λ e. ap instances_in e) c.root.ensures.ok c.root.ensures.err in
    state_grown bs cs c.self.inside.used.keys c.self.inside.names.places grown c.self.invariant.used c.self.invariant.names instances
    ∙ ap (λ (m : Marked). m.state) c.self.view_is
