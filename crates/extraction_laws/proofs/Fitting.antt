-- Each formula of a conclusion on the way has the address of its image, on its side. So it is for the premises of a rule where it is for
-- the conclusion.
use Rattle.std.proofs.Common.{◌≡◌, ℕ, zero, suc, true, false, ◌||◌, ◌&&◌, if◌then◌else◌, refl, sym, ap, subst, ◌∙◌}
use Rattle.std.specs.FinMap as fin
use Rattle.std.specs.List.{list_any}
use Rattle.std.specs.Ordering.{eq_by_cmp}
use Rattle.std.specs.Prelude.{unwrap_or}
use Rattle.fol.specs.declared.symbols.Var.{Var}
use Rattle.fol.specs.Syntax.{Term, free, Formula, not, and, or, imp, all, ex}
use Rattle.fol.specs.Order.{formula_cmp}
use Rattle.finite.specs.Finite as set
use Rattle.free_variables.specs.Occurrence.{is_free_in}
use Rattle.substitution.specs.Closed.{IsClosedMap}
use Rattle.substitution.specs.Instance.{inst}
use Rattle.substitution.specs.Image.{image, image_term}
use Rattle.substitution.specs.Maps.{Map}
use Rattle.substitution.proofs.ImageLaws.{image-inst_at, own_binding, away, closed_insert}
use Rattle.lk_rules.specs.declared.sequent.Sequent.{Sequent}
use Rattle.lk_rules.specs.declared.sequent.Side.{Side}
use Rattle.lk_rules.specs.declared.sequent.Side.TheVariants.{Left, Right}
use Rattle.lk_rules.specs.declared.rule.Rule.{Rule}
use Rattle.lk_rules.specs.declared.rule.Rule.TheVariants.{NegL, NegR, AndL, AndR, OrL, OrR, ImpL, ImpR, AllL, AllR, ExL, ExR, DefL, DefR, Cut, Weak}
use Rattle.lk_rules.specs.Sequents.{side_of, is_free_in_sequent}
use Rattle.lk_rules.specs.Rules.{is_unfolding_rule, aux, main_stands, eigen_free, IsWithin}
use Rattle.proof_trees.specs.Trees.{is_cut}
use Rattle.cut_laws.proofs.Sides.{alone, clash, old_or_added, out_of_side}
use Rattle.proof_trees.proofs.FormulaSets.{equal}
use Rattle.search_laws.proofs.Searched.{alone_left, alone_right}
use Rattle.search_laws.proofs.Tests.{split}
use Rattle.extraction_laws.specs.Addresses.{Address, part, via, part_formula, part_side, body_of}
use Rattle.extraction_laws.specs.Extraction.{Context, main_address, auxiliary_address, inner_context, inner_map}
use Rattle.extraction_laws.specs.Images.{HasImage, HaveImages}
use Rattle.extraction_laws.proofs.Grades.{part_is, instance_is}

-- parts

module _ (m : Map) (a : Address) (s : Side) (f : Formula) (main : HasImage m a s f) where
  placed_part : (i : ℕ) (g h : Formula) (side : Side) → part_formula (image (fin.get m) f) i ≡ image (fin.get m) g → part_side (image (fin.get m) f) i s ≡ side → eq_by_cmp formula_cmp h g ≡ true → HasImage m (part a i) side h
  placed_part i g h side is on e = record {
    formula = part_is a i (image (fin.get m) f) (image (fin.get m) g) main.formula is ∙ ap (image (fin.get m)) (sym (equal h g e));
    side = (λ j. part_side (main.formula j) i (main.side j)) ∙ on;
  }

  placed_alone : (i : ℕ) (g h : Formula) (side : Side) → part_formula (image (fin.get m) f) i ≡ image (fin.get m) g → part_side (image (fin.get m) f) i s ≡ side → (eq_by_cmp formula_cmp h g || false) ≡ true → HasImage m (part a i) side h
  placed_alone i g h side is on e = placed_part i g h side is on (alone (eq_by_cmp formula_cmp h g) e)

  placed_of_two : (g k h : Formula) (side : Side) → part_formula (image (fin.get m) f) 0 ≡ image (fin.get m) g → part_formula (image (fin.get m) f) 1 ≡ image (fin.get m) k
      → part_side (image (fin.get m) f) 0 s ≡ side → part_side (image (fin.get m) f) 1 s ≡ side → (eq_by_cmp formula_cmp h g || (eq_by_cmp formula_cmp h k || false)) ≡ true
      → HasImage m (part a (if eq_by_cmp formula_cmp h g then 0 else 1)) side h
  placed_of_two g k h side first second on also e =
      elim (eq_by_cmp formula_cmp h g) as (λ b. eq_by_cmp formula_cmp h g ≡ b → (b || (eq_by_cmp formula_cmp h k || false)) ≡ true → HasImage m (part a (if b then 0 else 1)) side h) [
        | true ↦ λ is _. placed_part 0 g h side first on is
        | false ↦ λ _ other. placed_alone 1 k h side second also other
      ] refl e

-- instances

module _ (m : Map) (closed : IsClosedMap (fin.get m)) (a : Address) (s : Side) (f b : Formula) (main : HasImage m a s f) (body : body_of (image (fin.get m) f) ≡ image (fin.get m) b) where
  placed_instance : (t : Term) (h : Formula) → (eq_by_cmp formula_cmp h (inst b t) || false) ≡ true → HasImage m (via a (image_term (fin.get m) t)) s h
  placed_instance t h e = record {
    formula =
        instance_is a (image_term (fin.get m) t) (image (fin.get m) f) (image (fin.get m) b) main.formula body
        ∙ (sym (image-inst_at (fin.get m) closed t b 0)
        ∙ ap (image (fin.get m)) (sym (equal h (inst b t) (alone _ e))));
    side = main.side;
  }

  placed_variable : (y v : Var) (h : Formula) → is_free_in y b ≡ false → (eq_by_cmp formula_cmp h (inst b (free y)) || false) ≡ true → HasImage (fin.insert m y (free v)) (via a (free v)) s h
  placed_variable y v h out e =
      let n : Map = fin.insert m y (free v) in
      let as_variable : image_term (fin.get n) (free y) ≡ free v = ap (λ o. unwrap_or o (free y)) (own_binding m y (free v)) in
      let instance : image (fin.get n) (inst b (free y)) ≡ inst (image (fin.get m) b) (free v) =
      image-inst_at (fin.get n) (closed_insert m y (free v) closed refl) (free y) b 0
      ∙ (λ i. inst (away m y (free v) b out i) (as_variable i))
      in record {
        formula =
            instance_is a (free v) (image (fin.get m) f) (image (fin.get m) b) main.formula body
            ∙ (sym instance
            ∙ ap (image (fin.get n)) (sym (equal h (inst b (free y)) (alone _ e))));
        side = main.side;
      }

-- the terms of the map stay closed
pub closed_inner : (m : Map) → IsClosedMap (fin.get m) → (v : Var) (r : Rule) → IsClosedMap (fin.get (inner_map r m v))
closed_inner m closed v (AllR f y) = closed_insert m y (free v) closed refl
closed_inner m closed v (ExL f y) = closed_insert m y (free v) closed refl
closed_inner m closed v r = closed

-- a formula of a premise is one of the conclusion or an auxiliary one
pub from_within : {P : Type 0} (s : Sequent) (r : Rule) (i : ℕ) (x : Sequent) (side : Side) (h : Formula) → IsWithin r s i x → set.has (side_of x side) h ≡ true
    → (set.has (side_of s side) h ≡ true → P) → (set.has (side_of s side) h ≡ false → list_any (eq_by_cmp formula_cmp h) (aux r i side) ≡ true → P) → P
from_within s r i x Left h within e old new =
    split (set.has s.left h) old (λ out. new out (old_or_added s.left (aux r i Left) h (λ there. clash _ there out) (λ there. there) (within.left h e)))
from_within s r i x Right h within e old new =
    split (set.has s.right h) old (λ out. new out (old_or_added s.right (aux r i Right) h (λ there. clash _ there out) (λ there. there) (within.right h e)))

module _ (m : Map) (closed : IsClosedMap (fin.get m)) (c : Context) (s : Sequent) (v : Var) (fits : HaveImages m c s) where
  -- main formulas

  on_left : (f : Formula) → ((set.has s.left f && true) && true) ≡ true → HasImage m (c Left f) Left f
  on_left f h = fits Left f (alone_left _ h)

  on_right : (f : Formula) → (true && (set.has s.right f && true)) ≡ true → HasImage m (c Right f) Right f
  on_right f h = fits Right f (alone_right _ h)

  eigen_left : (y : Var) (f : Formula) → is_free_in_sequent y s ≡ false → ((set.has s.left f && true) && true) ≡ true → is_free_in y f ≡ false
  eigen_left y f out h = out_of_side y s Left f out (alone_left _ h)

  eigen_right : (y : Var) (f : Formula) → is_free_in_sequent y s ≡ false → (true && (set.has s.right f && true)) ≡ true → is_free_in y f ≡ false
  eigen_right y f out h = out_of_side y s Right f out (alone_right _ h)

  -- auxiliary formulas
  placed_auxiliary : (r : Rule) (i : ℕ) (side : Side) (h : Formula) → is_cut r ≡ false → is_unfolding_rule r ≡ false → main_stands r s ≡ true → eigen_free r s ≡ false → list_any (eq_by_cmp formula_cmp h) (aux r i side) ≡ true
      → HasImage (inner_map r m v) (auxiliary_address r m v (main_address r c) i side h) side h
  placed_auxiliary (NegL (not f)) zero Right h no_cut no_unfolding main out e = placed_alone m _ Left (not f) (on_left (not f) main) 0 f h Right refl refl e
  placed_auxiliary (NegR (not f)) zero Left h no_cut no_unfolding main out e = placed_alone m _ Right (not f) (on_right (not f) main) 0 f h Left refl refl e
  placed_auxiliary (AndL (and f g)) zero Left h no_cut no_unfolding main out e = placed_of_two m _ Left (and f g) (on_left (and f g) main) f g h Left refl refl refl refl e
  placed_auxiliary (AndR (and f g)) zero Right h no_cut no_unfolding main out e = placed_alone m _ Right (and f g) (on_right (and f g) main) 0 f h Right refl refl e
  placed_auxiliary (AndR (and f g)) (suc zero) Right h no_cut no_unfolding main out e = placed_alone m _ Right (and f g) (on_right (and f g) main) 1 g h Right refl refl e
  placed_auxiliary (OrL (or f g)) zero Left h no_cut no_unfolding main out e = placed_alone m _ Left (or f g) (on_left (or f g) main) 0 f h Left refl refl e
  placed_auxiliary (OrL (or f g)) (suc zero) Left h no_cut no_unfolding main out e = placed_alone m _ Left (or f g) (on_left (or f g) main) 1 g h Left refl refl e
  placed_auxiliary (OrR (or f g)) zero Right h no_cut no_unfolding main out e = placed_of_two m _ Right (or f g) (on_right (or f g) main) f g h Right refl refl refl refl e
  placed_auxiliary (ImpL (imp f g)) zero Right h no_cut no_unfolding main out e = placed_alone m _ Left (imp f g) (on_left (imp f g) main) 0 f h Right refl refl e
  placed_auxiliary (ImpL (imp f g)) (suc zero) Left h no_cut no_unfolding main out e = placed_alone m _ Left (imp f g) (on_left (imp f g) main) 1 g h Left refl refl e
  placed_auxiliary (ImpR (imp f g)) zero Left h no_cut no_unfolding main out e = placed_alone m _ Right (imp f g) (on_right (imp f g) main) 0 f h Left refl refl e
  placed_auxiliary (ImpR (imp f g)) zero Right h no_cut no_unfolding main out e = placed_alone m _ Right (imp f g) (on_right (imp f g) main) 1 g h Right refl refl e
  placed_auxiliary (AllL (all b) t) zero Left h no_cut no_unfolding main out e = placed_instance m closed _ Left (all b) b (on_left (all b) main) refl t h e
  placed_auxiliary (AllR (all b) y) zero Right h no_cut no_unfolding main out e = placed_variable m closed _ Right (all b) b (on_right (all b) main) refl y v h (eigen_right y (all b) out main) e
  placed_auxiliary (ExL (ex b) y) zero Left h no_cut no_unfolding main out e = placed_variable m closed _ Left (ex b) b (on_left (ex b) main) refl y v h (eigen_left y (ex b) out main) e
  placed_auxiliary (ExR (ex b) t) zero Right h no_cut no_unfolding main out e = placed_instance m closed _ Right (ex b) b (on_right (ex b) main) refl t h e
  placed_auxiliary (DefL f) i side h no_cut no_unfolding main out e = cc
  placed_auxiliary (DefR f) i side h no_cut no_unfolding main out e = cc
  placed_auxiliary (Cut f) i side h no_cut no_unfolding main out e = cc
  placed_auxiliary Weak zero Left h no_cut no_unfolding main out e = cc
  placed_auxiliary r i side h no_cut no_unfolding main out e = cc

  -- formulas of the conclusion: the eigenvariable is free in none
  same_image : (r : Rule) (side : Side) (h : Formula) → eigen_free r s ≡ false → set.has (side_of s side) h ≡ true → image (fin.get m) h ≡ image (fin.get (inner_map r m v)) h
  same_image (AllR f y) side h out e = sym (away m y (free v) h (out_of_side y s side h out e))
  same_image (ExL f y) side h out e = sym (away m y (free v) h (out_of_side y s side h out e))
  same_image r side h out e = refl

  -- a premise fits
  pub fits_inner : (r : Rule) (i : ℕ) (x : Sequent) → is_cut r ≡ false → is_unfolding_rule r ≡ false → main_stands r s ≡ true → eigen_free r s ≡ false → IsWithin r s i x → HaveImages (inner_map r m v) (inner_context r s m c v i) x
  fits_inner r i x no_cut no_unfolding main out within side h e =
      let new : Address = auxiliary_address r m v (main_address r c) i side h in
      let at = λ (a : Address). HasImage (inner_map r m v) a side h in
      from_within s r i x side h within e
      (λ there. subst at (sym (ap (λ b. if b then c side h else new) there)) (record { formula = (fits side h there).formula ∙ same_image r side h out there; side = (fits side h there).side }))
      (λ away extra. subst at (sym (ap (λ b. if b then c side h else new) away)) (placed_auxiliary r i side h no_cut no_unfolding main out extra))
