-- Proofs of a sequent with one formula more, which is the interpolant: by one inference from others.
use Rattle.std.proofs.Common.{◌≡◌, ℕ, true, false, not, ◌&&◌, [], ◌∷◌, IfSome, refl, sym, ap, subst}
use Rattle.fol.specs.Syntax.{Formula}
use Rattle.fol.specs.Formed.{is_formed}
use Rattle.lk_rules.specs.declared.sequent.Sequent.{Sequent}
use Rattle.lk_rules.specs.declared.sequent.Side.{Side}
use Rattle.lk_rules.specs.declared.rule.Rule.{Rule}
use Rattle.lk_rules.specs.Sequents.{adds_to, extended, IsSubsequent}
use Rattle.lk_rules.specs.Rules.{IsFormedRule, needs, has_shape, aux, eigen_free, main_stands, IsWithin}
use Rattle.lk_rules.proofs.Rows.{main_of}
use Rattle.lk_rules.proofs.Subsequents.{and_both}
use Rattle.proof_trees.specs.Trees.{Tree, node, Trees, none, more, concl, count, first_end, second_end, IsInference, IsValid, is_cut, cut_free}
use Rattle.proof_trees.proofs.Verdicts.{verdict_of_row}
use Rattle.cut_laws.proofs.Sides.{within_added, within_extended}
use Rattle.interp_laws.proofs.Members.{Stands, among, among_first, among_second, member, through, new_in, with_new, new_in_extended, placed}

-- t is a proof without cuts of s with f on that side, valid where f is well formed
pub record IsProof (s : Sequent) (side : Side) (f : Formula) (t : Tree) : Type 0 where
  pub end : concl t ≡ adds_to s side f
  pub without_cuts : cut_free t ≡ true
  pub valid : is_formed f ≡ true → IsValid t

-- a rule that may be used at a conclusion, whatever its premises and what it names
pub record IsUsable (r : Rule) (e : Sequent) : Type 0 where
  pub shape : has_shape r ≡ true
  pub stands : main_stands r e ≡ true
  pub eigenvariable : eigen_free r e ≡ false
  pub no_cut : is_cut r ≡ false

module _ (r : Rule) (e : Sequent) (h : IsUsable r e) (formed : IsFormedRule r) where
  inference : (ts : Trees) → count ts ≡ needs r → IfSome (first_end ts) (IsWithin r e 0) → IfSome (second_end ts) (IsWithin r e 1) → IsInference r e ts
  inference ts number first second = record {
    right = verdict_of_row r e (count ts) (first_end ts) (second_end ts) (record {
      premises = number;
      shape = h.shape;
      main_formula = main_of r e h.stands;
      eigenvariable = h.eigenvariable;
      first_premise = first;
      second_premise = second;
    });
    formed = formed;
  }

  -- by a rule without premises
  pub leaf_valid : needs r ≡ 0 → IsValid (node r e none)
  leaf_valid number = (inference none (sym number) tt tt, tt)

  -- by one with one premise
  pub over_one_valid : needs r ≡ 1 → (p : Tree) → IsWithin r e 0 (concl p) → IsValid p → IsValid (node r e (more p none))
  over_one_valid number p within valid = (inference (more p none) (sym number) within tt, (valid, tt))

  -- and by one with two
  pub over_two_valid : needs r ≡ 2 → (p q : Tree) → IsWithin r e 0 (concl p) → IsWithin r e 1 (concl q) → IsValid p → IsValid q → IsValid (node r e (more p (more q none)))
  over_two_valid number p q first second valid also = (inference (more p (more q none)) (sym number) first second, (valid, (also, tt)))

-- a tree has no cuts where its rule is none and its premises have none

pub leaf_free : (r : Rule) (e : Sequent) → is_cut r ≡ false → cut_free (node r e none) ≡ true
leaf_free r e uncut = and_both (not (is_cut r)) true (ap not uncut) refl

pub over_one_free : (r : Rule) (e : Sequent) (p : Tree) → is_cut r ≡ false → cut_free p ≡ true → cut_free (node r e (more p none)) ≡ true
over_one_free r e p uncut free = and_both (not (is_cut r)) (cut_free p && true) (ap not uncut) (and_both (cut_free p) true free refl)

pub over_two_free : (r : Rule) (e : Sequent) (p q : Tree) → is_cut r ≡ false → cut_free p ≡ true → cut_free q ≡ true → cut_free (node r e (more p (more q none))) ≡ true
over_two_free r e p q uncut free also =
    and_both (not (is_cut r)) (cut_free p && (cut_free q && true)) (ap not uncut) (and_both (cut_free p) (cut_free q && true) free (and_both (cut_free q) true also refl))

-- a sequent with one of the auxiliary formulas is within a conclusion that has the rest
pub within_with : (r : Rule) (i : ℕ) (e s : Sequent) (side : Side) (f : Formula) → IsSubsequent s e → among (aux r i side) f ≡ true → IsWithin r e i (adds_to s side f)
within_with r i e s side f within one =
    with_new side s (extended e (aux r i)) f (through s e (extended e (aux r i)) within (within_extended e (aux r i))) (new_in_extended e (aux r i) side f one)

-- the end of a proof, in place of another name of it
at_end : (r : Rule) (e : Sequent) (i : ℕ) (p : Tree) (s : Sequent) → concl p ≡ s → IsWithin r e i s → IsWithin r e i (concl p)
at_end r e i p s end within = subst (IsWithin r e i) (sym end) within

-- a rule with one premise, once more over a proof of the premise's part
pub again : (r : Rule) (s : Sequent) (side : Side) (f : Formula) (p : Tree) → IsUsable r (adds_to s side f) → IsFormedRule r → needs r ≡ 1 → IsProof (extended s (aux r 0)) side f p
    → IsProof s side f (node r (adds_to s side f) (more p none))
again r s side f p usable formed number h = record {
  end = refl;
  without_cuts = over_one_free r (adds_to s side f) p usable.no_cut h.without_cuts;
  valid = λ formula. over_one_valid r (adds_to s side f) usable formed number p
      (at_end r (adds_to s side f) 0 p (adds_to (extended s (aux r 0)) side f) h.end (placed side s (adds_to s side f) (aux r 0) f (within_added side s f) (new_in side s f)))
      (h.valid formula);
}

-- a rule that makes f of g, over a proof with g
pub over_part : (r : Rule) (s : Sequent) (side : Side) (f g : Formula) (p : Tree) → IsUsable r (adds_to s side f) → needs r ≡ 1 → aux r 0 side ≡ g ∷ [] → (is_formed f ≡ true → IsFormedRule r)
    → (is_formed f ≡ true → is_formed g ≡ true) → IsProof s side g p → IsProof s side f (node r (adds_to s side f) (more p none))
over_part r s side f g p usable number is formed part_formed h = record {
  end = refl;
  without_cuts = over_one_free r (adds_to s side f) p usable.no_cut h.without_cuts;
  valid = λ formula. over_one_valid r (adds_to s side f) usable (formed formula) number p
      (at_end r (adds_to s side f) 0 p (adds_to s side g) h.end (within_with r 0 (adds_to s side f) s side g (within_added side s f) (subst (λ fs. among fs g ≡ true) (sym is) (among_first g []))))
      (h.valid (part_formed formula));
}

-- a rule that makes f of g and of h, over proofs with either
pub over_parts : (r : Rule) (s : Sequent) (side : Side) (f g h : Formula) (p q : Tree) → IsUsable r (adds_to s side f) → needs r ≡ 2 → aux r 0 side ≡ g ∷ [] → aux r 1 side ≡ h ∷ []
    → (is_formed f ≡ true → IsFormedRule r) → (is_formed f ≡ true → is_formed g ≡ true) → (is_formed f ≡ true → is_formed h ≡ true)
    → IsProof s side g p → IsProof s side h q → IsProof s side f (node r (adds_to s side f) (more p (more q none)))
over_parts r s side f g h p q usable number first second formed g_formed h_formed left right = record {
  end = refl;
  without_cuts = over_two_free r (adds_to s side f) p q usable.no_cut left.without_cuts right.without_cuts;
  valid = λ formula. over_two_valid r (adds_to s side f) usable (formed formula) number p q
      (at_end r (adds_to s side f) 0 p (adds_to s side g) left.end (within_with r 0 (adds_to s side f) s side g (within_added side s f) (subst (λ fs. among fs g ≡ true) (sym first) (among_first g []))))
      (at_end r (adds_to s side f) 1 q (adds_to s side h) right.end (within_with r 1 (adds_to s side f) s side h (within_added side s f) (subst (λ fs. among fs h ≡ true) (sym second) (among_first h []))))
      (left.valid (g_formed formula)) (right.valid (h_formed formula));
}

-- a rule with two premises, over proofs of the premises' parts with g and with h
pub over_premises : (r : Rule) (s : Sequent) (side : Side) (g h : Formula) (p q : Tree) → IsUsable r (adds_to (adds_to s side g) side h) → IsFormedRule r → needs r ≡ 2
    → IsProof (extended s (aux r 0)) side g p → IsProof (extended s (aux r 1)) side h q
    → is_formed g ≡ true → is_formed h ≡ true → IsValid (node r (adds_to (adds_to s side g) side h) (more p (more q none)))
over_premises r s side g h p q usable formed number left right g_formed h_formed =
    let e : Sequent = adds_to (adds_to s side g) side h in
    let within : IsSubsequent s e = through s (adds_to s side g) e (within_added side s g) (within_added side (adds_to s side g) h) in
    let old : Stands e side g = member (adds_to s side g) e (within_added side (adds_to s side g) h) side g (new_in side s g) in
    over_two_valid r e usable formed number p q
    (at_end r e 0 p (adds_to (extended s (aux r 0)) side g) left.end (placed side s e (aux r 0) g within old))
    (at_end r e 1 q (adds_to (extended s (aux r 1)) side h) right.end (placed side s e (aux r 1) h within (new_in side (adds_to s side g) h)))
    (left.valid g_formed) (right.valid h_formed)

-- a rule that makes f of g and h at once, over a proof with both
pub over_pair : (r : Rule) (s : Sequent) (side : Side) (f g h : Formula) (p : Tree) → IsUsable r (adds_to s side f) → needs r ≡ 1 → aux r 0 side ≡ g ∷ h ∷ [] → (is_formed f ≡ true → IsFormedRule r)
    → concl p ≡ adds_to (adds_to s side g) side h → cut_free p ≡ true → (is_formed f ≡ true → IsValid p) → IsProof s side f (node r (adds_to s side f) (more p none))
over_pair r s side f g h p usable number is formed ends free good = record {
  end = refl;
  without_cuts = over_one_free r (adds_to s side f) p usable.no_cut free;
  valid = λ formula. over_one_valid r (adds_to s side f) usable (formed formula) number p (at_end r (adds_to s side f) 0 p (adds_to (adds_to s side g) side h) ends within) (good formula);
}
  where
    e : Sequent
    e = extended (adds_to s side f) (aux r 0)

    first : IsSubsequent (adds_to s side g) e
    first = within_with r 0 (adds_to s side f) s side g (within_added side s f) (subst (λ fs. among fs g ≡ true) (sym is) (among_first g (h ∷ [])))

    within : IsSubsequent (adds_to (adds_to s side g) side h) e
    within = with_new side (adds_to s side g) e h first (new_in_extended (adds_to s side f) (aux r 0) side h (subst (λ fs. among fs h ≡ true) (sym is) (among_second g h)))
