-- The maps have well-formed terms.
use Rattle.std.proofs.Common.{◌≡◌, ◌<◌, length, sym, ap, ◌∙◌, subst, arith}
use Rattle.std.specs.FinMap as fin
use Rattle.std.proofs.lemmas.List.{get_or_default}
use Rattle.substitution.specs.Image.{IsFormedMap}
use Rattle.substitution.specs.Maps.{Map}
use Rattle.exp_extract.specs.MapList.{map_in}
use Rattle.exp_extract.proofs.maps.Maps.get.Goals as goal

pub returns-clause-formed : goal.returns-clause-formed
returns-clause-formed c =
    let ms = c.self.inside.maps.items in
    let l : c.args.number < length ms = omega (arith, ap length c.self.view_is) in
    let there : map_in ms c.args.number ≡ c.index.result.now = get_or_default ms c.args.number fin.empty c.index.result.now l ∙ sym c.index.ensures in
    subst (λ (m : Map). IsFormedMap (fin.get m)) there (c.self.invariant.formed c.args.number l)
