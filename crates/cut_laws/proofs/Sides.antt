-- Members of sets of formulas and of the sides of sequents: what stays in a premise where its conclusion changes.
use Rattle.std.proofs.Common.{◌≡◌, Bool, true, false, ◌||◌, List, [], ◌∷◌, map, Option, refl, sym, ap, ◌∙◌}
use Rattle.std.specs.List.{list_any}
use Rattle.std.specs.Ordering.{eq_by_cmp}
use Rattle.std.specs.FinMap as fin
use Rattle.std.proofs.lemmas.Bool.{false≢true, or_parts}
use Rattle.fol.specs.declared.symbols.Var.{Var}
use Rattle.fol.specs.Syntax.{Term, Formula}
use Rattle.fol.specs.Order.{formula_cmp}
use Rattle.fol.specs.OrderLaws.{formula_total}
use Rattle.fol.proofs.OrderTies.{formula_equality_same}
use Rattle.finite.specs.Finite as set
use Rattle.finite.proofs.Finite.{has-listing, has-empty, has-adds_each}
use Rattle.free_variables.specs.Occurrence.{is_free_in}
use Rattle.substitution.specs.Image.{image}
use Rattle.substitution.specs.Maps.{only}
use Rattle.substitution.proofs.ImageLaws.{away, image-empty}
use Rattle.lk_rules.specs.declared.sequent.Sequent.{Sequent}
use Rattle.lk_rules.specs.declared.sequent.Side.{Side}
use Rattle.lk_rules.specs.declared.sequent.Side.TheVariants.{Left, Right}
use Rattle.lk_rules.specs.Formulas.{FormulaSet, image_set}
use Rattle.lk_rules.specs.Sequents.{side_of, adds_to, extended, is_free_in_sequent, image_sequent, IsSubsequent}
use Rattle.proof_trees.proofs.Booleans.{or_first, or_second, either}
use Rattle.proof_trees.proofs.Members.{from_some, some_passes}

pub equal : (f g : Formula) → eq_by_cmp formula_cmp f g ≡ true → f ≡ g
equal f g = (formula_equality_same f g (eq_by_cmp formula_cmp f g) refl).0

pub tied : (f g : Formula) → f ≡ g → eq_by_cmp formula_cmp f g ≡ true
tied f g = (formula_equality_same f g (eq_by_cmp formula_cmp f g) refl).1

pub alone : (b : Bool) → (b || false) ≡ true → b ≡ true
alone true e = refl
alone false e = e

pub clash : {P : Type 0} (b : Bool) → b ≡ true → b ≡ false → P
clash b e h = absurd (false≢true (sym h ∙ e))

pub neither_first : (a b : Bool) → (a || b) ≡ false → a ≡ false
neither_first a b h = (or_parts a b h).0

pub neither_second : (a b : Bool) → (a || b) ≡ false → b ≡ false
neither_second a b h = (or_parts a b h).1

-- members of a set with the formulas of a list

larger : (s : FormulaSet) (fs : List Formula) (f : Formula) → set.has s f ≡ true → set.has (set.adds_each s fs) f ≡ true
larger s fs f e = has-adds_each formula_total s fs f ∙ or_first _ _ e

pub added : (s : FormulaSet) (fs : List Formula) (f : Formula) → list_any (eq_by_cmp formula_cmp f) fs ≡ true → set.has (set.adds_each s fs) f ≡ true
added s fs f e = has-adds_each formula_total s fs f ∙ or_second (set.has s f) _ e

pub old_or_added : {P : Type 0} (s : FormulaSet) (fs : List Formula) (f : Formula) → (set.has s f ≡ true → P) → (list_any (eq_by_cmp formula_cmp f) fs ≡ true → P) → set.has (set.adds_each s fs) f ≡ true → P
old_or_added s fs f old new e = either (set.has s f) (list_any (eq_by_cmp formula_cmp f) fs) old new (sym (has-adds_each formula_total s fs f) ∙ e)

-- x within e and some formulas is within s and these, where what it has of e is in s
subset_kept : (x e s : FormulaSet) (fs : List Formula) → ((f : Formula) → set.has x f ≡ true → set.has e f ≡ true → set.has s f ≡ true) → set.IsSubset x (set.adds_each e fs)
    → set.IsSubset x (set.adds_each s fs)
subset_kept x e s fs keeps within f m = old_or_added e fs f (λ old. larger s fs f (keeps f m old)) (added s fs f) (within f m)

-- x within e and some formulas is within s, these and a, where e is within s and a
subset_with : (x e s : FormulaSet) (a : Formula) (fs : List Formula) → set.IsSubset e (set.adds s a) → set.IsSubset x (set.adds_each e fs) → set.IsSubset x (set.adds (set.adds_each s fs) a)
subset_with x e s a fs within h f m =
    old_or_added e fs f
    (λ old. old_or_added s (a ∷ []) f (λ in_s. larger (set.adds_each s fs) (a ∷ []) f (larger s fs f in_s)) (added (set.adds_each s fs) (a ∷ []) f) (within f old))
    (λ new. larger (set.adds_each s fs) (a ∷ []) f (added s fs f new))
    (h f m)

-- images

any-map : (p : Formula → Bool) (h : Formula → Formula) (fs : List Formula) → list_any p (map h fs) ≡ list_any (λ f. p (h f)) fs
any-map p h [] = refl
any-map p h (f ∷ fs) = ap (λ b. p (h f) || b) (any-map p h fs)

-- a member of an image is the image of a member
from_image : {P : Type 0} (m : Var → Option Term) (x : FormulaSet) (q : Formula) → ((f : Formula) → set.has x f ≡ true → q ≡ image m f → P) → set.has (image_set m x) q ≡ true → P
from_image m x q use_it =
    old_or_added set.empty (map (image m) (set.listing x)) q
    (λ none. clash (set.has (set.empty {R = formula_cmp}) q) none (has-empty formula_cmp q))
    (λ some. from_some (λ f. eq_by_cmp formula_cmp q (image m f)) (set.listing x) (λ f member same. use_it f (has-listing x f ∙ member) (equal q (image m f) same))
    (sym (any-map (eq_by_cmp formula_cmp q) (image m) (set.listing x)) ∙ some))

mapped : (h : Formula → Formula) (fs : List Formula) (f : Formula) → list_any (eq_by_cmp formula_cmp f) fs ≡ true → list_any (eq_by_cmp formula_cmp (h f)) (map h fs) ≡ true
mapped h fs f one = any-map (eq_by_cmp formula_cmp (h f)) h fs ∙ some_passes (λ g. eq_by_cmp formula_cmp (h f) (h g)) fs f one (tied (h f) (h f) refl)

-- the same of the image of x, under a map that changes nothing in e
image_kept : (m : Var → Option Term) (x e s : FormulaSet) (fs : List Formula) → ((f : Formula) → set.has e f ≡ true → image m f ≡ f)
    → ((f : Formula) → set.has x f ≡ true → set.has e f ≡ true → set.has s f ≡ true) → set.IsSubset x (set.adds_each e fs) → set.IsSubset (image_set m x) (set.adds_each s (map (image m) fs))
image_kept m x e s fs stays keeps within q =
    from_image m x q (λ f in_x is.
    old_or_added e fs f
    (λ old. larger s (map (image m) fs) q (ap (set.has s) (is ∙ stays f old) ∙ keeps f in_x old))
    (λ new. ap (set.has (set.adds_each s (map (image m) fs))) is ∙ added s (map (image m) fs) (image m f) (mapped (image m) fs f new))
    (within f in_x))

-- sequents

pub itself : (s : Sequent) → IsSubsequent s s
itself s = record { left = λ f m. m; right = λ f m. m }

-- a sequent is one of itself with further formulas
pub within_extended : (s : Sequent) (fs : Side → List Formula) → IsSubsequent s (extended s fs)
within_extended s fs = record { left = larger s.left (fs Left); right = larger s.right (fs Right) }

-- inclusion by sides
pub on_side : (s t : Sequent) → IsSubsequent s t → (side : Side) → set.IsSubset (side_of s side) (side_of t side)
on_side s t h Left = h.left
on_side s t h Right = h.right

of_sides : (s t : Sequent) → ((side : Side) → set.IsSubset (side_of s side) (side_of t side)) → IsSubsequent s t
of_sides s t h = record { left = h Left; right = h Right }

pub through : (s t u : Sequent) → IsSubsequent s t → IsSubsequent t u → IsSubsequent s u
through s t u h g = record { left = λ f m. g.left f (h.left f m); right = λ f m. g.right f (h.right f m) }

-- what each side of x has of e is in s
abbrev pub Keeps : (x e s : Sequent) → Type 0
Keeps x e s = (side : Side) (f : Formula) → set.has (side_of x side) f ≡ true → set.has (side_of e side) f ≡ true → set.has (side_of s side) f ≡ true

-- x within e and some formulas is within s and these
kept_extended : (x e s : Sequent) (fs : Side → List Formula) → Keeps x e s → IsSubsequent x (extended e fs) → IsSubsequent x (extended s fs)
kept_extended x e s fs keeps h = record {
  left = subset_kept x.left e.left s.left (fs Left) (keeps Left) h.left;
  right = subset_kept x.right e.right s.right (fs Right) (keeps Right) h.right;
}

pub extended_both : (s t : Sequent) (fs : Side → List Formula) → IsSubsequent s t → IsSubsequent (extended s fs) (extended t fs)
extended_both s t fs h = kept_extended (extended s fs) s t fs (λ side f _ m. on_side s t h side f m) (itself (extended s fs))

-- x within e and some formulas is within s, these and a, where e is within s with a on a side
pub extended_with : (side : Side) (x e s : Sequent) (a : Formula) (fs : Side → List Formula) → IsSubsequent e (adds_to s side a) → IsSubsequent x (extended e fs) → IsSubsequent x (adds_to (extended s fs) side a)
extended_with Left x e s a fs within h = record {
  left = subset_with x.left e.left s.left a (fs Left) within.left h.left;
  right = subset_kept x.right e.right s.right (fs Right) (λ f _ m. within.right f m) h.right;
}
extended_with Right x e s a fs within h = record {
  left = subset_kept x.left e.left s.left (fs Left) (λ f _ m. within.left f m) h.left;
  right = subset_with x.right e.right s.right a (fs Right) within.right h.right;
}

pub wider_with : (side : Side) (x s : Sequent) (a : Formula) (fs : Side → List Formula) → IsSubsequent x (adds_to s side a) → IsSubsequent x (adds_to (extended s fs) side a)
wider_with side x s a fs h = extended_with side x x s a fs h (within_extended x fs)

pub within_added : (side : Side) (s : Sequent) (a : Formula) → IsSubsequent s (adds_to s side a)
within_added Left s a = record { left = larger s.left (a ∷ []); right = λ f m. m }
within_added Right s a = record { left = λ f m. m; right = larger s.right (a ∷ []) }

-- a formula of s with a on a side is one of s, or it is a, on that side
pub old_or_new : {P : Type 0} (side other : Side) (s : Sequent) (a f : Formula) → (set.has (side_of s other) f ≡ true → P) → (other ≡ side → f ≡ a → P)
    → set.has (side_of (adds_to s side a) other) f ≡ true → P
old_or_new Left Left s a f old new = old_or_added s.left (a ∷ []) f old (λ m. new refl (equal f a (alone _ m)))
old_or_new Right Right s a f old new = old_or_added s.right (a ∷ []) f old (λ m. new refl (equal f a (alone _ m)))
old_or_new Left Right s a f old new = old
old_or_new Right Left s a f old new = old

-- a formula that s has already
pub absorbed : (side : Side) (s : Sequent) (a : Formula) → set.has (side_of s side) a ≡ true → IsSubsequent (adds_to s side a) s
absorbed side s a there =
    of_sides (adds_to s side a) s (λ p f. old_or_new side p s a f (λ old. old) (λ here is. (λ i. set.has (side_of s (here i)) (is i)) ∙ there))

-- where e is within s with a on a side, and x doesn't have a there
pub keeps_without : (side : Side) (x e s : Sequent) (a : Formula) → set.has (side_of x side) a ≡ false → IsSubsequent e (adds_to s side a) → Keeps x e s
keeps_without side x e s a out within p f in_x in_e =
    old_or_new side p s a f
    (λ old. old)
    (λ here is. clash (set.has (side_of x side) a) ((λ i. set.has (side_of x (sym here i)) (sym is i)) ∙ in_x) out)
    (on_side e (adds_to s side a) within p f in_e)

pub extended_without : (side : Side) (x e s : Sequent) (a : Formula) (fs : Side → List Formula) → set.has (side_of x side) a ≡ false → IsSubsequent e (adds_to s side a) → IsSubsequent x (extended e fs)
    → IsSubsequent x (extended s fs)
extended_without side x e s a fs out within = kept_extended x e s fs (keeps_without side x e s a out within)

-- a variable that isn't free in a sequent isn't free in a formula of it, so a term for it changes nothing there

out_of_member : (y : Var) (s : FormulaSet) (f : Formula) → list_any (is_free_in y) (set.listing s) ≡ false → set.has s f ≡ true → is_free_in y f ≡ false
out_of_member y s f out m =
    elim (is_free_in y f) as (λ b. is_free_in y f ≡ b → b ≡ false) [
      | true ↦ λ e. clash (list_any (is_free_in y) (set.listing s)) (some_passes (is_free_in y) (set.listing s) f (sym (has-listing s f) ∙ m) e) out
      | false ↦ λ e. refl
    ] refl

pub out_of_side : (y : Var) (e : Sequent) (side : Side) (f : Formula) → is_free_in_sequent y e ≡ false → set.has (side_of e side) f ≡ true → is_free_in y f ≡ false
out_of_side y e Left f out = out_of_member y e.left f (neither_first _ _ out)
out_of_side y e Right f out = out_of_member y e.right f (neither_second (list_any (is_free_in y) (set.listing e.left)) _ out)

pub stays_in : (y : Var) (u : Term) (e : Sequent) (side : Side) (f : Formula) → is_free_in_sequent y e ≡ false → set.has (side_of e side) f ≡ true → image (fin.get (only y u)) f ≡ f
stays_in y u e side f out m = away fin.empty y u f (out_of_side y e side f out m) ∙ image-empty f

-- the image of a premise, under a map for such a variable, is within s and the images of the auxiliary formulas
pub image_extended : (y : Var) (u : Term) (x e s : Sequent) (fs : Side → List Formula) → is_free_in_sequent y e ≡ false → Keeps x e s → IsSubsequent x (extended e fs)
    → IsSubsequent (image_sequent (fin.get (only y u)) x) (extended s (λ side. map (image (fin.get (only y u))) (fs side)))
image_extended y u x e s fs out keeps h = record {
  left = image_kept (fin.get (only y u)) x.left e.left s.left (fs Left) (λ f. stays_in y u e Left f out) (keeps Left) h.left;
  right = image_kept (fin.get (only y u)) x.right e.right s.right (fs Right) (λ f. stays_in y u e Right f out) (keeps Right) h.right;
}
