-- Unions of sets of formulas, their images, and sets without one formula.
use Rattle.std.proofs.Common.{◌≡◌, Bool, true, false, not, ◌||◌, List, [], ◌∷◌, map, filter, Option, refl, sym, ap, ◌∙◌}
use Rattle.std.specs.List.{list_any}
use Rattle.std.specs.Ordering.{eq_by_cmp}
use Rattle.std.proofs.lemmas.Map.Views.{any-filter_same}
use Rattle.fol.specs.declared.symbols.Var.{Var}
use Rattle.fol.specs.Syntax.{Term, Formula}
use Rattle.fol.specs.Order.{formula_cmp}
use Rattle.fol.specs.OrderLaws.{formula_total}
use Rattle.fol.proofs.OrderTies.{formula_ties, formula_equality_same}
use Rattle.finite.specs.Finite as set
use Rattle.finite.proofs.Finite.{has-listing, has-empty, has-adds, has-adds_each, same_members}
use Rattle.free_variables.specs.Union.{union_of}
use Rattle.substitution.specs.Image.{image}
use Rattle.lk_rules.specs.declared.sequent.Sequent.{Sequent}
use Rattle.lk_rules.specs.Formulas.{FormulaSet, image_set}
use Rattle.lk_rules.specs.Sequents.{empty, union_sequent, image_sequent}
use Rattle.proof_trees.proofs.Booleans.{or_first, or_second, either}
use Rattle.proof_trees.proofs.Members.{image_within}
use Rattle.proof_trees.specs.FormulaSets.{without}

pub equal : (f g : Formula) → eq_by_cmp formula_cmp f g ≡ true → f ≡ g
equal f g = (formula_equality_same f g (eq_by_cmp formula_cmp f g) refl).0

pub tied : (f g : Formula) → f ≡ g → eq_by_cmp formula_cmp f g ≡ true
tied f g = (formula_equality_same f g (eq_by_cmp formula_cmp f g) refl).1

same_truth : (a b : Bool) → (a ≡ true → b ≡ true) → (b ≡ true → a ≡ true) → a ≡ b
same_truth true b f g = sym (f refl)
same_truth false true f g = g refl
same_truth false false f g = refl

or-false : (a : Bool) → (a || false) ≡ a
or-false true = refl
or-false false = refl

-- sets with the same members are equal
pub same_sets : (s t : FormulaSet) → ((q : Formula) → set.has s q ≡ true → set.has t q ≡ true) → ((q : Formula) → set.has t q ≡ true → set.has s q ≡ true) → s ≡ t
same_sets s t f g = same_members formula_total formula_ties s t (λ q. same_truth _ _ (f q) (g q))

pub has-union : (s t : FormulaSet) (q : Formula) → set.has (union_of s t) q ≡ (set.has s q || set.has t q)
has-union s t q = has-adds_each formula_total s (set.listing t) q ∙ ap (λ b. set.has s q || b) (sym (has-listing t q))

pub in_first : (s t : FormulaSet) (q : Formula) → set.has s q ≡ true → set.has (union_of s t) q ≡ true
in_first s t q h = has-union s t q ∙ or_first (set.has s q) (set.has t q) h

pub in_second : (s t : FormulaSet) (q : Formula) → set.has t q ≡ true → set.has (union_of s t) q ≡ true
in_second s t q h = has-union s t q ∙ or_second (set.has s q) (set.has t q) h

pub in_either : {P : Type 0} (s t : FormulaSet) (q : Formula) → (set.has s q ≡ true → P) → (set.has t q ≡ true → P) → set.has (union_of s t) q ≡ true → P
in_either s t q f g h = either (set.has s q) (set.has t q) f g (sym (has-union s t q) ∙ h)

pub added : (s : FormulaSet) (f : Formula) → set.has (set.adds s f) f ≡ true
added s f = has-adds formula_total s f f ∙ or_first (eq_by_cmp formula_cmp f f) (set.has s f) (tied f f refl)

pub stays : (s : FormulaSet) (f q : Formula) → set.has s q ≡ true → set.has (set.adds s f) q ≡ true
stays s f q h = has-adds formula_total s f q ∙ or_second (eq_by_cmp formula_cmp q f) (set.has s q) h

union-empty : (s : FormulaSet) → union_of s set.empty ≡ s
union-empty s = same_members formula_total formula_ties (union_of s set.empty) s (λ q. has-union s set.empty q ∙ ap (λ b. set.has s q || b) (has-empty formula_cmp q) ∙ or-false (set.has s q))

pub union-empty_sequent : (s : Sequent) → union_sequent s empty ≡ s
union-empty_sequent s = λ i. record { left = union-empty s.left i; right = union-empty s.right i }

-- images

has-image : (m : Var → Option Term) (s : FormulaSet) (q : Formula) → set.has (image_set m s) q ≡ list_any (eq_by_cmp formula_cmp q) (map (image m) (set.listing s))
has-image m s q =
    has-adds_each formula_total set.empty (map (image m) (set.listing s)) q
    ∙ ap (λ b. b || list_any (eq_by_cmp formula_cmp q) (map (image m) (set.listing s))) (has-empty formula_cmp q)

module _ (m : Var → Option Term) (s t : FormulaSet) where
  image_in_union : (q : Formula) → set.has (image_set m (union_of s t)) q ≡ true → set.has (union_of (image_set m s) (image_set m t)) q ≡ true
  image_in_union q h =
      has-union (image_set m s) (image_set m t) q
      ∙ ap (λ b. set.has (image_set m s) q || b) (has-image m t q)
      ∙ sym (has-adds_each formula_total (image_set m s) (map (image m) (set.listing t)) q)
      ∙ image_within m (union_of s t) s (set.listing t) (λ f e. e) q h

  union_in_image : (q : Formula) → set.has (union_of (image_set m s) (image_set m t)) q ≡ true → set.has (image_set m (union_of s t)) q ≡ true
  union_in_image q h =
      in_either (image_set m s) (image_set m t) q
      (image_within m s (union_of s t) [] (in_first s t) q)
      (image_within m t (union_of s t) [] (in_second s t) q)
      h

  image-union : image_set m (union_of s t) ≡ union_of (image_set m s) (image_set m t)
  image-union = same_sets _ _ image_in_union union_in_image

pub image-union_sequent : (m : Var → Option Term) (s t : Sequent) → image_sequent m (union_sequent s t) ≡ union_sequent (image_sequent m s) (image_sequent m t)
image-union_sequent m s t = λ i. record { left = image-union m s.left t.left i; right = image-union m s.right t.right i }

-- sets that a map leaves as they are

map_fixed : (h : Formula → Formula) (fs : List Formula) → ((f : Formula) → list_any (eq_by_cmp formula_cmp f) fs ≡ true → h f ≡ f) → map h fs ≡ fs
map_fixed h [] fixed = refl
map_fixed h (f ∷ fs) fixed =
    λ i. fixed f (or_first (eq_by_cmp formula_cmp f f) (list_any (eq_by_cmp formula_cmp f) fs) (tied f f refl)) i
    ∷ map_fixed h fs (λ g e. fixed g (or_second (eq_by_cmp formula_cmp g f) (list_any (eq_by_cmp formula_cmp g) fs) e)) i

relisted : (s : FormulaSet) → set.of_list (set.listing s) ≡ s
relisted s =
    same_members formula_total formula_ties (set.of_list (set.listing s)) s
    (λ q. has-adds_each formula_total set.empty (set.listing s) q ∙ ap (λ b. b || list_any (eq_by_cmp formula_cmp q) (set.listing s)) (has-empty formula_cmp q) ∙ sym (has-listing s q))

pub image_of_fixed : (m : Var → Option Term) (s : FormulaSet) → ((f : Formula) → set.has s f ≡ true → image m f ≡ f) → image_set m s ≡ s
image_of_fixed m s fixed =
    ap set.of_list (map_fixed (image m) (set.listing s) (λ f e. fixed f (has-listing s f ∙ e))) ∙ relisted s

-- a set without one formula

swapped : (a b c : Formula) → eq_by_cmp formula_cmp a b ≡ false → eq_by_cmp formula_cmp b c ≡ true → not (eq_by_cmp formula_cmp a c) ≡ true
swapped a b c h e = ap not (ap (eq_by_cmp formula_cmp a) (sym (equal b c e)) ∙ h)

-- every other member stays
pub without_member : (s : FormulaSet) (a q : Formula) → set.has s q ≡ true → eq_by_cmp formula_cmp a q ≡ false → set.has (without s a) q ≡ true
without_member s a q h other =
    has-adds_each formula_total set.empty (filter (λ f. not (eq_by_cmp formula_cmp a f)) (set.listing s)) q
    ∙ ap (λ b. b || list_any (eq_by_cmp formula_cmp q) (filter (λ f. not (eq_by_cmp formula_cmp a f)) (set.listing s))) (has-empty formula_cmp q)
    ∙ any-filter_same (eq_by_cmp formula_cmp q) (λ f. not (eq_by_cmp formula_cmp a f)) true (λ f e. swapped a q f other e) (set.listing s)
    ∙ sym (has-listing s q) ∙ h
