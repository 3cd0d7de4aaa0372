-- The most general unifier of the laws is made the same by this one.
use Rattle.std.proofs.Common.{◌≡◌}
use Rattle.std.specs.Prelude.{Some}
use Rattle.std.specs.FinMap as fin
use Rattle.substitution.specs.Maps.{Map}
use Rattle.unify_laws.specs.Unification.{mgu}
use Rattle.fol_unify.proofs.Relevant.{some_of, own, bound_only, formed_map}
use Rattle.fol_unify.proofs.unifying.mgu.Goals as goal

pub returns-clause-bound : goal.returns-clause-bound
returns-clause-bound c =
    let es = c.args.pairs.now in
    let m = c.in_ok-map.map in
    let law = c.most_general_unifiers.ensures in
    let found : (g : Map) × (mgu es ≡ Some g) = some_of (mgu es) (λ e. (c.no_unifier.ensures es).0 e (fin.get m) c.in_ok-map.ensures.unifies) in
    bound_only es found.0 (law.bound es found.0 found.1) (law.variables es found.0 found.1) m (c.in_ok-map.ensures.general (fin.get found.0) (law.unifies es found.0 found.1)) c.in_ok-map.ensures.proper

pub returns-clause-variables : goal.returns-clause-variables
returns-clause-variables c =
    let es = c.args.pairs.now in
    let m = c.in_ok-map.map in
    let law = c.most_general_unifiers.ensures in
    let found : (g : Map) × (mgu es ≡ Some g) = some_of (mgu es) (λ e. (c.no_unifier.ensures es).0 e (fin.get m) c.in_ok-map.ensures.unifies) in
    own es found.0 (law.bound es found.0 found.1) (law.variables es found.0 found.1) m (c.in_ok-map.ensures.general (fin.get found.0) (law.unifies es found.0 found.1))

pub returns-clause-formed : goal.returns-clause-formed
returns-clause-formed c =
    let es = c.args.pairs.now in
    let m = c.in_ok-map.map in
    let law = c.most_general_unifiers.ensures in
    let found : (g : Map) × (mgu es ≡ Some g) = some_of (mgu es) (λ e. (c.no_unifier.ensures es).0 e (fin.get m) c.in_ok-map.ensures.unifies) in
    formed_map es found.0 (law.bound es found.0 found.1) (law.variables es found.0 found.1) m (c.in_ok-map.ensures.general (fin.get found.0) (law.unifies es found.0 found.1)) c.in_ok-map.ensures.proper c.requires.formed (law.formed es found.0 c.requires.formed found.1)
