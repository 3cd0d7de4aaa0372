-- The address is among those with a variable.
use Rattle.std.proofs.Common.{◌≡◌, ◌<◌, map, length, sym, ap, ◌∙◌, subst}
use Rattle.extraction_laws.specs.States.{named}
use Rattle.exp_extract.specs.Marked.{Marked, address_in, address_at}
use Rattle.exp_extract.specs.Quantifiers.{AreWithin}
use Rattle.exp_extract.specs.Marks.{set_at, instances_in}
use Rattle.exp_extract.proofs.MarkedSets.{named_at_numbers, within_named, on_ok, either_way}
use Rattle.exp_extract.specs.Named.{Named}
use Rattle.exp_extract.proofs.marks.Marks.name.Goals as goal

pub invariant_of-self : goal.invariant_of-self
invariant_of-self c =
    let bs = c.self.inside.places in
    let n = c.args.place in
    let l : n < length bs = subst (λ (m : Marked). n < length m.addresses) (sym c.self.view_is) c.requires in
    record {
      used = c.self.invariant.used;
      names = either_way c.name.result
          (λ e. subst (AreWithin bs) (sym e) (within_named bs n c.self.inside.names.places l c.self.invariant.names))
          (λ e. subst (AreWithin bs) (sym (ap (λ (x : Named). x.places) e)) c.self.invariant.names)
          c.name.ensures.ok c.name.ensures.err;
    }

pub returns-clause-state : goal.returns-clause-state
returns-clause-state c =
    let bs = c.self.inside.places in
    let n = c.args.place in
    let l : n < length bs = subst (λ (m : Marked). n < length m.addresses) (sym c.self.view_is) c.requires in
    on_ok c.name.result (λ e.
    subst (λ (m : Marked). record { opened = set_at bs c.self.inside.used.keys; instances = instances_in bs; names = map (address_in bs) c.name.new.self.places } ≡ named (address_at m n) m.state) c.self.view_is
    (λ i. record { opened = set_at bs c.self.inside.used.keys; instances = instances_in bs; names = (ap (map (address_in bs)) e ∙ named_at_numbers bs c.known.ensures n l c.self.inside.names.places c.self.invariant.names) i }))
    c.name.ensures.ok
