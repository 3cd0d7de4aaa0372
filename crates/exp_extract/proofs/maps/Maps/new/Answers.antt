-- The map without variables is well formed.
use Rattle.std.proofs.Common.{◌≡◌, List, [], ◌∷◌, ◌++◌, sym, ap, ◌∙◌, subst, rules, arith}
use Rattle.std.specs.FinMap as fin
use Rattle.substitution.specs.Image.{IsFormedMap}
use Rattle.substitution.specs.Maps.{Map}
use Rattle.exp_extract.proofs.MapLists.{formed_more}
use Rattle.exp_extract.proofs.maps.Maps.new.Goals as goal

pub invariant_of-result : goal.invariant_of-result
invariant_of-result c =
    let items : c.push.new.self.items ≡ [] ++ c.new.result ∷ [] = c.in_ok-push.ensures.items ∙ ap (λ (ms : List Map). ms ++ c.new.result ∷ []) c.new-maps.ensures.items in
    record {
      formed = formed_more [] c.push.new.self.items c.new.result items (λ n l. absurd (omega arith)) (subst (λ (m : Map). IsFormedMap (fin.get m)) (sym c.new.ensures) c.well_formed_maps.ensures.empty);
      made = search rules;
    }
