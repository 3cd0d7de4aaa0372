-- The central lemma: a resolvent of clauses that are subsumed is subsumed by one of those that subsume them, or by a resolvent of these.
use Rattle.std.proofs.Common.{◌≡◌, Bool, true, false, List, ◌++◌, filter, sym, ap, ◌∙◌, ◌⊎◌, inl, inr}
use Rattle.std.specs.FinMap as fin
use Rattle.std.specs.Ordering.{eq_by_cmp}
use Rattle.std.proofs.lemmas.Bool.{both_ways}
use Rattle.fol.specs.Syntax.{free, Formula}
use Rattle.fol.specs.Order.{formula_cmp}
use Rattle.finite.specs.Finite as set
use Rattle.finite.proofs.Finite.{has-listing}
use Rattle.substitution.specs.Image.{image, after}
use Rattle.substitution.specs.Maps.{Map}
use Rattle.substitution.proofs.ImageLaws.{agree, image-image}
use Rattle.lk_rules.specs.declared.sequent.Sequent.{Sequent}
use Rattle.lk_rules.specs.Formulas.{FormulaSet, image_set}
use Rattle.lk_rules.specs.Sequents.{IsSubsequent, image_sequent}
use Rattle.proof_trees.specs.FormulaSets.{is_atom}
use Rattle.proof_trees.proofs.Members.{image_member}
use Rattle.proof_trees.proofs.FormulaSets.{equal, tied}
use Rattle.refutations.specs.Refutations.{resolvent}
use Rattle.substitution.proofs.Booleans.{and_both, and_left, and_right}
use Rattle.unify_laws.proofs.Images.{split}
use Rattle.clause_laws.specs.Subsumption.{Subsumes}
use Rattle.clause_laws.specs.Resolvents.{IsResolvent, resolved_by}
use Rattle.clause_laws.proofs.Sets.{Replacing, is_in, in_filter, from_image, images_within}
use Rattle.clause_laws.proofs.Unified.{IsUnifierOf, IsUnified, unified}
use Rattle.clause_laws.proofs.Sequents.{left_of_first, left_of_second, right_of_first, right_of_second, from_left, from_right}
use Rattle.clause_laws.proofs.Resolving.{atom-image, in_front, in_back, in_parts, resolves}

pub apart_from : (s : FormulaSet) (a q : Formula) → set.has s a ≡ false → set.has s q ≡ true → eq_by_cmp formula_cmp a q ≡ false
apart_from s a q out member = split (eq_by_cmp formula_cmp a q) (λ e. absurd (both_ways (set.has s a) out (ap (set.has s) (equal a q e) ∙ member))) (λ e. e)

-- a resolvent of c and d subsumes r
pub record ByResolvent (c d r : Sequent) : Type 0 where
  pub resolvent : Sequent
  pub resolves : IsResolvent c d resolvent
  pub subsumes : Subsumes resolvent r

-- Under the map u, the clauses c and d become parts of x and y, which are resolved on the atom a.
module _ (u : Replacing) (c d x y : Sequent) (a : Formula) (is : is_atom a ≡ true) (one : IsSubsequent (image_sequent u c) x) (two : IsSubsequent (image_sequent u d) y) where
  -- where no right atom of c becomes a, nothing of it goes
  first_stays : set.has (image_set u c.right) a ≡ false → IsSubsequent (image_sequent u c) (resolvent x y a)
  first_stays out = record {
    left = λ q e. left_of_first x y a q (one.left q e);
    right = λ q e. right_of_first x y a q (one.right q e) (apart_from (image_set u c.right) a q out e);
  }

  -- where no left atom of d becomes a, nothing of it goes
  second_stays : set.has (image_set u d.left) a ≡ false → IsSubsequent (image_sequent u d) (resolvent x y a)
  second_stays out = record {
    left = λ q e. left_of_second x y a q (two.left q e) (apart_from (image_set u d.left) a q out e);
    right = λ q e. right_of_second x y a q (two.right q e);
  }

  -- all atoms that become a

  abbrev becomes : Formula → Bool
  becomes f = eq_by_cmp formula_cmp (image u f) a

  abbrev chosen : FormulaSet → List Formula
  chosen s = filter becomes (set.listing s)

  in_chosen : (s : FormulaSet) (f : Formula) → set.has s f ≡ true → image u f ≡ a → is_in (chosen s) f ≡ true
  in_chosen s f member e = in_filter becomes (set.listing s) f ∙ and_both (becomes f) _ (tied (image u f) a e) (sym (has-listing s f) ∙ member)

  chosen_member : (s : FormulaSet) (f : Formula) → is_in (chosen s) f ≡ true → set.has s f ≡ true
  chosen_member s f e = has-listing s f ∙ and_right (becomes f) _ (sym (in_filter becomes (set.listing s) f) ∙ e)

  chosen_becomes : (s : FormulaSet) (f : Formula) → is_in (chosen s) f ≡ true → image u f ≡ a
  chosen_becomes s f e = equal (image u f) a (and_left (becomes f) _ (sym (in_filter becomes (set.listing s) f) ∙ e))

  abbrev all_chosen : List Formula
  all_chosen = chosen c.right ++ chosen d.left

  each_becomes : (f : Formula) → is_in all_chosen f ≡ true → image u f ≡ a
  each_becomes f = in_parts (chosen c.right) (chosen d.left) f (chosen_becomes c.right f) (chosen_becomes d.left f)

  atoms_chosen : (f : Formula) → is_in all_chosen f ≡ true → is_atom f ≡ true
  atoms_chosen f e = sym (atom-image u f) ∙ ap is_atom (each_becomes f e) ∙ is

  unified_chosen : IsUnified all_chosen
  unified_chosen = unified all_chosen atoms_chosen u a each_becomes

  module _ (m : Map) (right : IsUnifierOf all_chosen m) (f : Formula) (at : is_in (chosen c.right) f ≡ true) where
    -- u is m and then u
    onward : (q : Formula) → image u (image (fin.get m) q) ≡ image u q
    onward q = image-image (fin.get m) u q ∙ agree (after (fin.get m) u) u q (λ v e. right.general u a each_becomes (free v))

    -- what does not become f's image under m does not become a
    stays_apart : (q : Formula) → (image u q ≡ a → is_in all_chosen q ≡ true) → eq_by_cmp formula_cmp (image (fin.get m) f) (image (fin.get m) q) ≡ false → eq_by_cmp formula_cmp a (image u q) ≡ false
    stays_apart q chosen_too other =
        split (eq_by_cmp formula_cmp a (image u q))
        (λ e. absurd (both_ways (eq_by_cmp formula_cmp (image (fin.get m) f) (image (fin.get m) q)) other
        (tied (image (fin.get m) f) (image (fin.get m) q) (right.one f q (in_front (chosen c.right) (chosen d.left) f at) (chosen_too (sym (equal a (image u q) e)))))))
        (λ e. e)

    abbrev p : Sequent
    p = image_sequent (fin.get m) c

    abbrev n : Sequent
    n = image_sequent (fin.get m) d

    abbrev b : Formula
    b = image (fin.get m) f

    left_within : set.IsSubset (image_set u (resolved_by c d f m).left) (resolvent x y a).left
    left_within =
        images_within u (resolvent p n b).left (resolvent x y a).left
        (λ q. from_left p n b q
        (from_image (fin.get m) c.left q (λ k member made.
        let now : image u q ≡ image u k = ap (image u) made ∙ onward k in
        ap (set.has (resolvent x y a).left) now ∙ left_of_first x y a (image u k) (one.left (image u k) (image_member u c.left k member))))
        (λ in_image other. from_image (fin.get m) d.left q (λ k member made.
        let now : image u q ≡ image u k = ap (image u) made ∙ onward k in
        ap (set.has (resolvent x y a).left) now
        ∙ left_of_second x y a (image u k) (two.left (image u k) (image_member u d.left k member))
        (stays_apart k (λ e. in_back (chosen c.right) (chosen d.left) k (in_chosen d.left k member e)) (ap (eq_by_cmp formula_cmp b) (sym made) ∙ other)))
        in_image))

    right_within : set.IsSubset (image_set u (resolved_by c d f m).right) (resolvent x y a).right
    right_within =
        images_within u (resolvent p n b).right (resolvent x y a).right
        (λ q. from_right p n b q
        (λ in_image other. from_image (fin.get m) c.right q (λ k member made.
        let now : image u q ≡ image u k = ap (image u) made ∙ onward k in
        ap (set.has (resolvent x y a).right) now
        ∙ right_of_first x y a (image u k) (one.right (image u k) (image_member u c.right k member))
        (stays_apart k (λ e. in_front (chosen c.right) (chosen d.left) k (in_chosen c.right k member e)) (ap (eq_by_cmp formula_cmp b) (sym made) ∙ other)))
        in_image)
        (from_image (fin.get m) d.right q (λ k member made.
        let now : image u q ≡ image u k = ap (image u) made ∙ onward k in
        ap (set.has (resolvent x y a).right) now ∙ right_of_second x y a (image u k) (two.right (image u k) (image_member u d.right k member)))))

    resolvent_subsumes : Subsumes (resolved_by c d f m) (resolvent x y a)
    resolvent_subsumes = record { map = u; within = record { left = left_within; right = right_within } }

  pub by_cases : Subsumes c (resolvent x y a) ⊎ (Subsumes d (resolvent x y a) ⊎ ByResolvent c d (resolvent x y a))
  by_cases =
      split (set.has (image_set u c.right) a)
      (λ some. split (set.has (image_set u d.left) a)
      (from_image u c.right a (λ f member made. from_image u d.left a (λ g on also.
      let found = unified_chosen in
      let at = in_chosen c.right f member (sym made) in
      inr (inr (record {
        resolvent = resolved_by c d f found.map;
        resolves =
            resolves c d (chosen c.right) (chosen d.left) f g at (in_chosen d.left g on (sym also)) (chosen_member c.right) (chosen_member d.left)
            (atoms_chosen f (in_front (chosen c.right) (chosen d.left) f at)) found.map found.right;
        subsumes = resolvent_subsumes found.map found.right f at;
      }))))
      some)
      (λ out. inr (inl (record { map = u; within = second_stays out }))))
      (λ out. inl (record { map = u; within = first_stays out }))
