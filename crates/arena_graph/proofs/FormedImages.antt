-- The image of a sequent of well-formed formulas under a map of well-formed terms.
use Rattle.std.proofs.Common.{◌≡◌, true, List, [], ◌∷◌, map, refl, sym, ◌∙◌}
use Rattle.std.specs.FinMap as fin
use Rattle.std.specs.List.{list_all}
use Rattle.fol.specs.Syntax.{Formula}
use Rattle.fol.specs.OrderLaws.{formula_total}
use Rattle.fol.proofs.OrderTies.{formula_ties}
use Rattle.fol.specs.Formed.{is_formed}
use Rattle.finite.specs.Finite as set
use Rattle.finite.proofs.Finite.{has-listing}
use Rattle.free_variables.proofs.RisingLists.{list_passes}
use Rattle.substitution.specs.Image.{image, IsFormedMap}
use Rattle.substitution.specs.Maps.{Map}
use Rattle.substitution.proofs.Booleans.{and_left, and_right, and_both}
use Rattle.substitution.proofs.ImageFormed.{formed-image}
use Rattle.lk_rules.specs.declared.sequent.Sequent.{Sequent}
use Rattle.lk_rules.specs.Formulas.{FormulaSet, image_set}
use Rattle.lk_rules.specs.Sequents.{image_sequent}
use Rattle.lk_rules.proofs.Listings.{alike}
use Rattle.arena.proofs.SetLaws.{has-list}
use Rattle.proof_trees.specs.Conclusions.{IsFormedSequent}

module _ (m : Map) (formed : IsFormedMap (fin.get m)) where
  formed_each : (fs : List Formula) → list_all is_formed fs ≡ true → list_all is_formed (map (image (fin.get m)) fs) ≡ true
  formed_each [] h = refl
  formed_each (f ∷ fs) h =
      and_both _ _ (formed-image (fin.get m) f 0 formed (and_left (is_formed f) (list_all is_formed fs) h)) (formed_each fs (and_right (is_formed f) (list_all is_formed fs) h))

  formed_set : (s : FormulaSet) → list_all is_formed (set.listing s) ≡ true → list_all is_formed (set.listing (image_set (fin.get m) s)) ≡ true
  formed_set s h =
      let images : List Formula = map (image (fin.get m)) (set.listing s) in
      list_passes formula_total is_formed (alike is_formed) (set.listing (image_set (fin.get m) s)) images (formed_each (set.listing s) h)
      (λ q. sym (has-listing (image_set (fin.get m) s) q) ∙ has-list formula_total formula_ties images q)

  pub formed_image_sequent : (s : Sequent) → IsFormedSequent s → IsFormedSequent (image_sequent (fin.get m) s)
  formed_image_sequent s h = record { left = formed_set s.left h.left; right = formed_set s.right h.right }
