-- The image of a right inference is right.
use Rattle.std.proofs.Common.{◌≡◌, ℕ, Bool, true, false, List, map, Option, Some, None, IfSome, option_map, refl, sym, subst, ◌∙◌}
use Rattle.std.specs.FinMap as fin
use Rattle.std.specs.List.{All}
use Rattle.std.proofs.lemmas.List.Elements.{All-map}
use Rattle.fol.specs.Syntax.{Formula}
use Rattle.finite.specs.Finite as set
use Rattle.free_variables.specs.Occurrence.{is_free_in}
use Rattle.substitution.specs.Closed.{IsClosedMap}
use Rattle.substitution.specs.Image.{image}
use Rattle.substitution.specs.Maps.{Map}
use Rattle.lk_rules.specs.declared.sequent.Sequent.{Sequent}
use Rattle.lk_rules.specs.declared.sequent.Side.{Side}
use Rattle.lk_rules.specs.declared.sequent.Side.TheVariants.{Left, Right}
use Rattle.lk_rules.specs.declared.rule.Rule.{Rule}
use Rattle.lk_rules.specs.declared.rule.Rule.TheVariants.{AllR, ExL}
use Rattle.lk_rules.specs.Formulas.{image_set}
use Rattle.lk_rules.specs.Sequents.{side_of, is_free_in_sequent, image_sequent}
use Rattle.lk_rules.specs.Rules.{IsFormedRule, main, aux, eigen_free, IsWithin, Row}
use Rattle.proof_trees.specs.Substitution.{image_rule, premise_map}
use Rattle.proof_trees.proofs.Members.{image_member, image_within}
use Rattle.proof_trees.proofs.Premises.{main_stands_in}
use Rattle.proof_trees.proofs.RuleImages.{needs-image, shape-image, main-image, eigen-image, is_eigen_in_main, aux-image, same_conclusion}

not_true : (a b : Bool) → (a ≡ true → b ≡ true) → b ≡ false → a ≡ false
not_true true b f h = sym (f refl) ∙ h
not_true false b f h = refl

-- the eigenvariable of a right inference isn't free in the main formula
eigen_out : (r : Rule) (s : Sequent) → ((side : Side) → All (λ f. set.has (side_of s side) f ≡ true) (main r side)) → eigen_free r s ≡ false → is_eigen_in_main r ≡ false
eigen_out (AllR a y) s stands h = not_true (is_free_in y a) (is_free_in_sequent y s) (main_stands_in (is_free_in y) (AllR a y) s refl stands) h
eigen_out (ExL a y) s stands h = not_true (is_free_in y a) (is_free_in_sequent y s) (main_stands_in (is_free_in y) (ExL a y) s refl stands) h
eigen_out r s stands h = refl

module _ (m : Map) (closed : IsClosedMap (fin.get m)) (r : Rule) (formed : IsFormedRule r) (s : Sequent) (eigen : eigen_free r s ≡ false) (out : is_eigen_in_main r ≡ false) where
  within_image : (i : ℕ) (x : Sequent) → IsWithin r s i x
      → IsWithin (image_rule m r (image_sequent (fin.get m) s)) (image_sequent (fin.get m) s) i (image_sequent (fin.get (premise_map m r (image_sequent (fin.get m) s))) x)
  within_image i x w =
      let e : Sequent = image_sequent (fin.get m) s in
      let n : Map = premise_map m r e in
      let end : image_sequent (fin.get n) s ≡ e = same_conclusion m r e s eigen in
      let lefts : map (image (fin.get n)) (aux r i Left) ≡ aux (image_rule m r e) i Left = sym (aux-image m r e i Left closed formed out) in
      let rights : map (image (fin.get n)) (aux r i Right) ≡ aux (image_rule m r e) i Right = sym (aux-image m r e i Right closed formed out) in
      record {
        left = λ f q. sym (λ k. set.has (set.adds_each ((end k).left) (lefts k)) f) ∙ image_within (fin.get n) x.left s.left (aux r i Left) w.left f q;
        right = λ f q. sym (λ k. set.has (set.adds_each ((end k).right) (rights k)) f) ∙ image_within (fin.get n) x.right s.right (aux r i Right) w.right f q;
      }

  premise_image : (i : ℕ) (premise : Option Sequent) → IfSome premise (IsWithin r s i)
      → IfSome (option_map (image_sequent (fin.get (premise_map m r (image_sequent (fin.get m) s)))) premise) (IsWithin (image_rule m r (image_sequent (fin.get m) s)) (image_sequent (fin.get m) s) i)
  premise_image i None w = tt
  premise_image i (Some x) w = within_image i x w

main_image : (m : Map) (r : Rule) (e s : Sequent) → ((side : Side) → All (λ f. set.has (side_of s side) f ≡ true) (main r side))
    → (side : Side) → All (λ f. set.has (side_of (image_sequent (fin.get m) s) side) f ≡ true) (main (image_rule m r e) side)
main_image m r e s stands Left =
    let P : List Formula → Type 0 = λ fs. All (λ f. set.has (image_set (fin.get m) s.left) f ≡ true) fs in
    subst P (sym (main-image m r e Left)) (All-map (λ f. set.has (image_set (fin.get m) s.left) f ≡ true) (image (fin.get m)) (main r Left) (λ k d l. image_member (fin.get m) s.left _ (stands Left k d l)))
main_image m r e s stands Right =
    let P : List Formula → Type 0 = λ fs. All (λ f. set.has (image_set (fin.get m) s.right) f ≡ true) fs in
    subst P (sym (main-image m r e Right)) (All-map (λ f. set.has (image_set (fin.get m) s.right) f ≡ true) (image (fin.get m)) (main r Right) (λ k d l. image_member (fin.get m) s.right _ (stands Right k d l)))

pub row-image : (m : Map) (r : Rule) (s : Sequent) (n : ℕ) (first second : Option Sequent) → IsClosedMap (fin.get m) → IsFormedRule r → Row r s n first second
    → Row (image_rule m r (image_sequent (fin.get m) s)) (image_sequent (fin.get m) s) n
    (option_map (image_sequent (fin.get (premise_map m r (image_sequent (fin.get m) s)))) first)
    (option_map (image_sequent (fin.get (premise_map m r (image_sequent (fin.get m) s)))) second)
row-image m r s n first second closed formed row =
    let e : Sequent = image_sequent (fin.get m) s in
    let out : is_eigen_in_main r ≡ false = eigen_out r s row.main_formula row.eigenvariable in
    record {
      premises = row.premises ∙ sym (needs-image m r e);
      shape = shape-image m r e ∙ row.shape;
      main_formula = main_image m r e s row.main_formula;
      eigenvariable = eigen-image m r e;
      first_premise = premise_image m closed r formed s row.eigenvariable out 0 first row.first_premise;
      second_premise = premise_image m closed r formed s row.eigenvariable out 1 second row.second_premise;
    }

-- the auxiliary formulas of a right inference go to auxiliary formulas
pub aux-image_in_row : (m : Map) (r : Rule) (s e : Sequent) (i : ℕ) (side : Side) → IsClosedMap (fin.get m) → IsFormedRule r → ((p : Side) → All (λ f. set.has (side_of s p) f ≡ true) (main r p)) → eigen_free r s ≡ false
    → aux (image_rule m r e) i side ≡ map (image (fin.get (premise_map m r e))) (aux r i side)
aux-image_in_row m r s e i side closed formed stands eigen = aux-image m r e i side closed formed (eigen_out r s stands eigen)
