-- Images of sequents, their variables, and the formulas of resolvents.
use Rattle.std.proofs.Common.{◌≡◌, true, false, not as negated, ◌||◌, sym, ap, ◌∙◌}
use Rattle.std.specs.List.{list_any}
use Rattle.std.specs.Ordering.{eq_by_cmp}
use Rattle.std.proofs.lemmas.Bool.{not-true}
use Rattle.fol.specs.declared.symbols.Var.{Var}
use Rattle.fol.specs.Syntax.{Term, free, bound, app, Terms, nil, cons, Formula, atom, top, bot, not, and, or, imp, all, ex}
use Rattle.fol.specs.Order.{formula_cmp}
use Rattle.finite.specs.Finite as set
use Rattle.finite.proofs.Finite.{has-listing}
use Rattle.free_variables.specs.Occurrence.{is_free_in, is_free_in_term, is_free_in_terms}
use Rattle.substitution.specs.Image.{image_term, image_terms, image, after}
use Rattle.substitution.proofs.ImageLaws.{agree, itself}
use Rattle.lk_rules.specs.declared.sequent.Sequent.{Sequent}
use Rattle.lk_rules.specs.Formulas.{FormulaSet}
use Rattle.lk_rules.specs.Sequents.{IsSubsequent, is_free_in_sequent, image_sequent}
use Rattle.proof_trees.proofs.Booleans.{or_first, or_second, either}
use Rattle.proof_trees.proofs.Members.{some_passes, from_some}
use Rattle.proof_trees.proofs.FormulaSets.{in_first, in_second, in_either, without_member}
use Rattle.proof_trees.specs.FormulaSets.{without}
use Rattle.refutations.specs.Refutations.{resolvent}
use Rattle.substitution.proofs.Booleans.{and_left, and_right}
use Rattle.clause_laws.proofs.Sets.{Replacing, from_image, image_subset, same_images, image-image_set, has-passing}

-- subsequents

pub within_itself : (c : Sequent) → IsSubsequent c c
within_itself c = record { left = λ q e. e; right = λ q e. e }

pub within_both : (c d e : Sequent) → IsSubsequent c d → IsSubsequent d e → IsSubsequent c e
within_both c d e h g = record { left = λ q m. g.left q (h.left q m); right = λ q m. g.right q (h.right q m) }

pub image_within : (m : Replacing) (c d : Sequent) → IsSubsequent c d → IsSubsequent (image_sequent m c) (image_sequent m d)
image_within m c d h = record { left = image_subset m c.left d.left h.left; right = image_subset m c.right d.right h.right }

pub image-image_sequent : (g h : Replacing) (c : Sequent) → image_sequent h (image_sequent g c) ≡ image_sequent (after g h) c
image-image_sequent g h c = λ i. record { left = image-image_set g h c.left i; right = image-image_set g h c.right i }

-- variables

abbrev pub HasVariable : FormulaSet → Var → Type 0
HasVariable s v = list_any (is_free_in v) (set.listing s) ≡ true

free_in_member : (s : FormulaSet) (f : Formula) (v : Var) → set.has s f ≡ true → is_free_in v f ≡ true → HasVariable s v
free_in_member s f v m e = some_passes (is_free_in v) (set.listing s) f (sym (has-listing s f) ∙ m) e

pub free_on_left : (c : Sequent) (f : Formula) (v : Var) → set.has c.left f ≡ true → is_free_in v f ≡ true → is_free_in_sequent v c ≡ true
free_on_left c f v m e = or_first _ _ (free_in_member c.left f v m e)

pub free_on_right : (c : Sequent) (f : Formula) (v : Var) → set.has c.right f ≡ true → is_free_in v f ≡ true → is_free_in_sequent v c ≡ true
free_on_right c f v m e = or_second (list_any (is_free_in v) (set.listing c.left)) _ (free_in_member c.right f v m e)

-- a variable of a sequent is one of its formulas
pub from_free : {P : Type 0} (c : Sequent) (v : Var) → ((f : Formula) → set.has c.left f ≡ true → is_free_in v f ≡ true → P) → ((f : Formula) → set.has c.right f ≡ true → is_free_in v f ≡ true → P)
    → is_free_in_sequent v c ≡ true → P
from_free c v left right e =
    either (list_any (is_free_in v) (set.listing c.left)) (list_any (is_free_in v) (set.listing c.right))
    (from_some (is_free_in v) (set.listing c.left) (λ f m. left f (has-listing c.left f ∙ m)))
    (from_some (is_free_in v) (set.listing c.right) (λ f m. right f (has-listing c.right f ∙ m)))
    e

-- maps that do the same to the variables of a sequent have one image of it
pub agree_sequent : (g h : Replacing) (c : Sequent) → ((v : Var) → is_free_in_sequent v c ≡ true → image_term g (free v) ≡ image_term h (free v)) → image_sequent g c ≡ image_sequent h c
agree_sequent g h c same =
    let lefts = same_images g h c.left (λ f m. agree g h f (λ v e. same v (free_on_left c f v m e))) in
    let rights = same_images g h c.right (λ f m. agree g h f (λ v e. same v (free_on_right c f v m e))) in
    λ i. record { left = lefts i; right = rights i }

-- a variable of an image is one of the term for a variable

module _ {P : Type 0} (m : Replacing) (w : Var) where
  mutual
    pub from_free_term : (t : Term) → ((v : Var) → is_free_in_term v t ≡ true → is_free_in_term w (image_term m (free v)) ≡ true → P) → is_free_in_term w (image_term m t) ≡ true → P
    from_free_term (free v) use_it e = use_it v (itself v) e
    from_free_term (bound i) use_it e = cc
    from_free_term (app s ts) use_it e = from_free_terms ts use_it e

    from_free_terms : (ts : Terms) → ((v : Var) → is_free_in_terms v ts ≡ true → is_free_in_term w (image_term m (free v)) ≡ true → P) → is_free_in_terms w (image_terms m ts) ≡ true → P
    from_free_terms nil use_it e = cc
    from_free_terms (cons t ts) use_it e =
        either (is_free_in_term w (image_term m t)) (is_free_in_terms w (image_terms m ts))
        (from_free_term t (λ v d. use_it v (or_first (is_free_in_term v t) (is_free_in_terms v ts) d)))
        (from_free_terms ts (λ v d. use_it v (or_second (is_free_in_term v t) (is_free_in_terms v ts) d)))
        e

  of_two : (f g : Formula) → ((v : Var) → (is_free_in v f || is_free_in v g) ≡ true → is_free_in_term w (image_term m (free v)) ≡ true → P)
      → (((v : Var) → is_free_in v f ≡ true → is_free_in_term w (image_term m (free v)) ≡ true → P) → is_free_in w (image m f) ≡ true → P)
      → (((v : Var) → is_free_in v g ≡ true → is_free_in_term w (image_term m (free v)) ≡ true → P) → is_free_in w (image m g) ≡ true → P)
      → (is_free_in w (image m f) || is_free_in w (image m g)) ≡ true → P
  of_two f g use_it one two e =
      either (is_free_in w (image m f)) (is_free_in w (image m g))
      (one (λ v d. use_it v (or_first (is_free_in v f) (is_free_in v g) d)))
      (two (λ v d. use_it v (or_second (is_free_in v f) (is_free_in v g) d)))
      e

  pub from_free_image : (f : Formula) → ((v : Var) → is_free_in v f ≡ true → is_free_in_term w (image_term m (free v)) ≡ true → P) → is_free_in w (image m f) ≡ true → P
  from_free_image (atom s ts) use_it e = from_free_terms ts use_it e
  from_free_image top use_it e = cc
  from_free_image bot use_it e = cc
  from_free_image (not f) use_it e = from_free_image f use_it e
  from_free_image (and f g) use_it e = of_two f g use_it (from_free_image f) (from_free_image g) e
  from_free_image (or f g) use_it e = of_two f g use_it (from_free_image f) (from_free_image g) e
  from_free_image (imp f g) use_it e = of_two f g use_it (from_free_image f) (from_free_image g) e
  from_free_image (all f) use_it e = from_free_image f use_it e
  from_free_image (ex f) use_it e = from_free_image f use_it e

  -- the same of a sequent
  pub from_free_image_sequent : (c : Sequent) → ((v : Var) → is_free_in_sequent v c ≡ true → is_free_in_term w (image_term m (free v)) ≡ true → P) → is_free_in_sequent w (image_sequent m c) ≡ true → P
  from_free_image_sequent c use_it =
      from_free (image_sequent m c) w
      (λ q member e. from_image m c.left q (λ f at is. from_free_image f (λ v d. use_it v (free_on_left c f v at d)) (sym (ap (is_free_in w) is) ∙ e)) member)
      (λ q member e. from_image m c.right q (λ f at is. from_free_image f (λ v d. use_it v (free_on_right c f v at d)) (sym (ap (is_free_in w) is) ∙ e)) member)

-- resolvents

pub from_without : {P : Type 0} (s : FormulaSet) (a q : Formula) → (set.has s q ≡ true → eq_by_cmp formula_cmp a q ≡ false → P) → set.has (without s a) q ≡ true → P
from_without s a q use_it e =
    let both = sym (has-passing (λ f. negated (eq_by_cmp formula_cmp a f)) s q) ∙ e in
    use_it (and_right (negated (eq_by_cmp formula_cmp a q)) (set.has s q) both) (not-true (eq_by_cmp formula_cmp a q) (and_left (negated (eq_by_cmp formula_cmp a q)) (set.has s q) both))

module _ (p n : Sequent) (a : Formula) where
  pub left_of_first : (q : Formula) → set.has p.left q ≡ true → set.has (resolvent p n a).left q ≡ true
  left_of_first q e = in_first p.left (without n.left a) q e

  pub left_of_second : (q : Formula) → set.has n.left q ≡ true → eq_by_cmp formula_cmp a q ≡ false → set.has (resolvent p n a).left q ≡ true
  left_of_second q e other = in_second p.left (without n.left a) q (without_member n.left a q e other)

  pub right_of_first : (q : Formula) → set.has p.right q ≡ true → eq_by_cmp formula_cmp a q ≡ false → set.has (resolvent p n a).right q ≡ true
  right_of_first q e other = in_first (without p.right a) n.right q (without_member p.right a q e other)

  pub right_of_second : (q : Formula) → set.has n.right q ≡ true → set.has (resolvent p n a).right q ≡ true
  right_of_second q e = in_second (without p.right a) n.right q e

  pub from_left : {P : Type 0} (q : Formula) → (set.has p.left q ≡ true → P) → (set.has n.left q ≡ true → eq_by_cmp formula_cmp a q ≡ false → P) → set.has (resolvent p n a).left q ≡ true → P
  from_left q one two = in_either p.left (without n.left a) q one (from_without n.left a q two)

  pub from_right : {P : Type 0} (q : Formula) → (set.has p.right q ≡ true → eq_by_cmp formula_cmp a q ≡ false → P) → (set.has n.right q ≡ true → P) → set.has (resolvent p n a).right q ≡ true → P
  from_right q one two = in_either (without p.right a) n.right q (from_without p.right a q one) two
