-- The laws of interpolation, for what it comes to.
use Rattle.std.proofs.Common.{sym, subst}
use Rattle.fol.specs.Formed.{IsFormed}
use Rattle.interp_laws.specs.Interpolation.{Interpolation}
use Rattle.operation_laws.specs.Claims.{IsInterpolated}
use Rattle.operation_laws.proofs.laws.interpolations.Goals as goal

pub returns : goal.returns
returns c t one two n i valid first second is formed =
    let laws = c.interpolations.ensures in
    let same = laws.interpolation t one two n i is in
    let parts = laws.parts t one two n i valid first second is in
    let ends = c.proofs.ensures.ends t one two parts in
    let cut_free = c.proofs.ensures.cut_free t one two parts in
    let proofs = c.proofs.ensures.valid t one two parts (subst (λ (j : Interpolation). IsFormed j.formula) same formed) in
    subst (λ (j : Interpolation). IsInterpolated t one two j.formula j.first j.second) (sym same) (record {
      parts = laws.union t one two n i is;
      first = record { right = record { valid = proofs.0; ends = ends.0 }; cut_free = cut_free.0 };
      second = record { right = record { valid = proofs.1; ends = ends.1 }; cut_free = cut_free.1 };
      predicates = c.interpolants.ensures.predicates t one two parts (laws.bodies t one two n i is);
      variables = c.interpolants.ensures.variables t one two parts;
    })
