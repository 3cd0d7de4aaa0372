-- The new map is made as it is said.
use Rattle.std.proofs.Common.{◌≡◌, ◌<◌, [], ◌∷◌, ◌++◌, length, sym, ap, ◌∙◌, subst, rules, arith}
use Rattle.std.specs.Prelude.{Option, nat_eq, IfSome}
use Rattle.std.specs.Map.{lookup}
use Rattle.std.specs.FinMap as fin
use Rattle.std.proofs.lemmas.List.{get_or_default}
use Rattle.substitution.specs.Image.{IsFormedMap}
use Rattle.substitution.specs.Maps.{Map}
use Rattle.exp_extract.specs.declared.maps.Extension.{Extension}
use Rattle.exp_extract.specs.MapList.{map_in}
use Rattle.exp_extract.specs.Maps.{IsMade}
use Rattle.exp_extract.proofs.MapLists.{made_new, formed_more, old_made, if_some}
use Rattle.exp_extract.proofs.MarkedSets.{either_way}
use Rattle.exp_extract.proofs.maps.Maps.extend.Goals as goal

pub invariant_of-self-2 : goal.invariant_of-self-2
invariant_of-self-2 c =
    let ms = c.self.inside.maps.items in
    let ns = c.push.new.self.items in
    let x = c.set.new.self in
    let items : ns ≡ ms ++ x ∷ [] = c.in_ok-push.ensures.items in
    let l : c.args.parent < length ms = omega (arith, c.requires.number, ap length c.self.view_is) in
    let parent : c.in_ok-map.map ≡ map_in ms c.args.parent = c.in_ok-map.ensures ∙ (c.index.ensures ∙ get_or_default ms c.args.parent c.index.result.now fin.empty l) in
    let made : x ≡ fin.insert (map_in ms c.args.parent) c.args.eigenvariable.now c.args.variable.now =
    c.in_ok-set.ensures.ok ∙ (λ i. fin.insert (parent i) (c.in_ok-copy.ensures i) (c.in_ok-copy-2.ensures i)) in
    let formed : IsFormedMap (fin.get x) = subst (λ (m : Map). IsFormedMap (fin.get m)) (sym made)
    (c.well_formed_maps.ensures.insert (map_in ms c.args.parent) c.args.eigenvariable.now c.args.variable.now (c.self.invariant.formed c.args.parent l) c.requires.formed) in
    let last : c.in_ok-number.number ≡ length ms = search rules in
    let made_copy : x ≡ fin.insert (map_in ms c.args.parent) c.in_ok-copy-3.field-0 c.in_ok-copy-4.field-0 =
    made ∙ (λ i. fin.insert (map_in ms c.args.parent) (sym c.in_ok-copy-3.ensures i) (sym c.in_ok-copy-4.ensures i)) in
    let entry : IsMade ns (record { parent = c.args.parent; eigenvariable = c.in_ok-copy-3.field-0; variable = c.in_ok-copy-4.field-0; number = c.in_ok-number.number }) =
    made_new ms ns x c.args.parent c.in_ok-number.number c.in_ok-copy-3.field-0 c.in_ok-copy-4.field-0 items last l made_copy in
    record {
      formed = formed_more ms ns x items c.self.invariant.formed formed;
      made = λ q. either_way c.insert.result
          (λ u. subst (λ (o : Option Extension). IfSome o (IsMade ns)) (sym (u.0 q))
          (if_some ns (nat_eq c.fingerprint.result q) _ _ entry (old_made ms ns x items _ (c.self.invariant.made q))))
          (λ e. subst (λ es. IfSome (lookup (nat_eq q) es) (IsMade ns)) (sym e) (old_made ms ns x items _ (c.self.invariant.made q)))
          c.insert.ensures.updates c.insert.ensures.err;
    }
