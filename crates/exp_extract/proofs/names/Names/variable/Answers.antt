-- A place that is found without a variable has the next one.
use Rattle.std.proofs.Common.{◌≡◌, None, sym, ap, ◌∙◌, subst}
use Rattle.std.specs.Prelude.{nat_eq}
use Rattle.std.specs.List.{position_or_len}
use Rattle.fol.specs.Syntax.{free}
use Rattle.finite.specs.Finite as set
use Rattle.extraction_laws.specs.States.{nth_outside}
use Rattle.exp_extract.specs.Named.{Named}
use Rattle.exp_extract.specs.Names.{variable_in}
use Rattle.exp_extract.proofs.NamedPlaces.{without_variable}
use Rattle.exp_extract.proofs.names.Names.variable.Goals as goal

pub returns-in-None : goal.returns-in-None
returns-in-None c =
    let vs = set.listing c.self.inside.outside in
    let ns = c.self.inside.named.items in
    let none : variable_in vs ns c.args.place ≡ None = sym (c.self.invariant.variables c.args.place) ∙ sym c.in-None.ensures.value in
    subst (λ (v : Named). c.self.inside.next ≡ free (nth_outside v.outside (position_or_len (nat_eq c.args.place) v.places))) c.self.view_is
    (c.self.invariant.next ∙ ap (λ n. free (nth_outside vs n)) (sym (without_variable vs ns c.args.place none)))
