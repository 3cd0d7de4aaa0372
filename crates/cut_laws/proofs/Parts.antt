-- Cuts on the parts of a formula that both premises introduce are valid.
use Rattle.std.proofs.Common.{◌≡◌, false, List, [], ◌∷◌, Some, IfSome, map, option_to_list, sym, subst, arith}
use Rattle.std.specs.FinMap as fin
use Rattle.fol.specs.declared.symbols.Var.{Var}
use Rattle.fol.specs.Syntax.{Term, free, pred, defined, Formula, atom, not, and, or, imp, all, ex}
use Rattle.fol.specs.Formed.{is_formed, IsFormed, IsFormedTerm}
use Rattle.finite.specs.Finite as set
use Rattle.free_variables.specs.Occurrence.{is_free_in}
use Rattle.substitution.specs.Image.{image}
use Rattle.substitution.specs.Instance.{inst}
use Rattle.substitution.specs.Maps.{only}
use Rattle.substitution.proofs.ClosedLaws.{closed_term_of}
use Rattle.substitution.proofs.ImageLaws.{rename, formed_insert, formed_empty}
use Rattle.substitution.specs.Unfolding.{unf}
use Rattle.substitution.proofs.InstanceFormed.{formed-inst}
use Rattle.substitution.proofs.Unfoldings.{formed-unf}
use Rattle.lk_rules.specs.declared.sequent.Sequent.{Sequent}
use Rattle.lk_rules.specs.declared.sequent.Side.{Side}
use Rattle.lk_rules.specs.declared.sequent.Side.TheVariants.{Left, Right}
use Rattle.lk_rules.specs.declared.rule.Rule.{Rule}
use Rattle.lk_rules.specs.declared.rule.Rule.TheVariants.{NegL, NegR, AndL, AndR, OrL, OrR, ImpL, ImpR, AllL, AllR, ExL, ExR, DefL, DefR}
use Rattle.lk_rules.specs.Sequents.{adds_to, extended, is_free_in_sequent, IsSubsequent}
use Rattle.lk_rules.specs.Rules.{aux, IsWithin}
use Rattle.lk_rules.proofs.Subsequents.{and_left, and_right}
use Rattle.proof_trees.specs.Trees.{Tree, node, Trees, none, more, concl, rule_of, below, IsValid}
use Rattle.proof_trees.specs.Substitution.{sub}
use Rattle.proof_trees.proofs.Substituted.{sub_valid, concl-sub}
use Rattle.cut_laws.specs.Contraction.{has_above, cut, opposite, cut_on, cut_unfolded, by_parts}
use Rattle.cut_laws.proofs.Sides.{neither_first, itself, extended_with, wider_with, out_of_side, keeps_without, image_extended}
use Rattle.cut_laws.proofs.Cuts.{row_of, ValidCut, cut_valid, Premises, premises_of, premises_without}
use Rattle.cut_laws.proofs.Introduced.{IsIntroduction, right_not, right_and, right_or, right_imp, right_all, right_ex, right_def, left_not, left_and, left_or, left_imp, left_all, left_ex, left_def}

-- the premises of an introduction, at the conclusion of the cut
pub premises_at : (side : Side) (s : Sequent) (a : Formula) (t : Tree) → IsSubsequent (concl t) (adds_to s side a) → IsValid t → has_above side a (below t) ≡ false → Premises (rule_of t) s (below t)
premises_at side s a (node q e ts) within h above = premises_without side q e s a ts within above (premises_of q e ts (row_of (node q e ts) h) h.1)

-- connectives

negation : (s : Sequent) (b : Formula) (p p' : Tree) → IsFormed b → Premises (NegR (not b)) s (more p none) → Premises (NegL (not b)) s (more p' none) → IsValid (cut s b p' p)
negation s b p p' formed x y =
    cut_valid Right s b p' p (record { formed = formed; within = y.within.0; other = x.within.0; valid = y.valid.0; other_valid = x.valid.0 })

-- one formula on one side
abbrev alone_on : Side → Formula → Side → List Formula
alone_on Left c Left = c ∷ []
alone_on Right c Right = c ∷ []
alone_on side c other = []

-- a cut whose premise with the formula on that side is another cut
two_cuts : (side : Side) (s : Sequent) (f b : Formula) (t u v : Tree) → IsFormed f → ValidCut Right (adds_to s side f) b t u → IsSubsequent (concl v) (adds_to s (opposite side) f) → IsValid v
    → IsValid (cut_on side s f (cut (adds_to s side f) b t u) v)
two_cuts side s f b t u v formed h other valid =
    let upper : Tree = cut (adds_to s side f) b t u in
    cut_valid side s f upper v (record { formed = formed; within = itself (adds_to s side f); other = other; valid = cut_valid Right (adds_to s side f) b t u h; other_valid = valid })

conjunction : (s : Sequent) (b c : Formula) (p p' p'' : Tree) → IsFormed (and b c) → Premises (AndR (and b c)) s (more p (more p' none)) → Premises (AndL (and b c)) s (more p'' none)
    → IsValid (cut s b p (cut (adds_to s Left b) c p' p''))
conjunction s b c p p' p'' formed x y =
    two_cuts Left s b c p' p'' p (and_left _ _ formed)
    (record {
      formed = and_right (is_formed b) _ formed;
      within = wider_with Right (concl p') s c (alone_on Left b) x.within.1.0;
      other = y.within.0;
      valid = x.valid.1.0;
      other_valid = y.valid.0;
    })
    x.within.0 x.valid.0

disjunction : (s : Sequent) (b c : Formula) (p p' p'' : Tree) → IsFormed (or b c) → Premises (OrR (or b c)) s (more p none) → Premises (OrL (or b c)) s (more p' (more p'' none))
    → IsValid (cut s c (cut (adds_to s Right c) b p p') p'')
disjunction s b c p p' p'' formed x y =
    two_cuts Right s c b p p' p'' (and_right (is_formed b) _ formed)
    (record {
      formed = and_left _ _ formed;
      within = extended_with Right (concl p) (adds_to s Right b) s b (alone_on Right c) (itself (adds_to s Right b)) x.within.0;
      other = wider_with Left (concl p') s b (alone_on Right c) y.within.0;
      valid = x.valid.0;
      other_valid = y.valid.0;
    })
    y.within.1.0 y.valid.1.0

implication : (s : Sequent) (b c : Formula) (p p' p'' : Tree) → IsFormed (imp b c) → Premises (ImpR (imp b c)) s (more p none) → Premises (ImpL (imp b c)) s (more p' (more p'' none))
    → IsValid (cut s c (cut (adds_to s Right c) b p' p) p'')
implication s b c p p' p'' formed x y =
    two_cuts Right s c b p' p p'' (and_right (is_formed b) _ formed)
    (record {
      formed = and_left _ _ formed;
      within = wider_with Right (concl p') s b (alone_on Right c) y.within.0;
      other = x.within.0;
      valid = y.valid.0;
      other_valid = x.valid.0;
    })
    y.within.1.0 y.valid.1.0

-- quantifiers: the premise of a rule at the conclusion e, with a term for a variable y that isn't free in e

instance : (b : Formula) (y : Var) (t : Term) → IsFormedTerm t → is_free_in y b ≡ false → image (fin.get (only y t)) (inst b (free y)) ≡ inst b t
instance b y t formed out = rename y t b (closed_term_of t 0 formed) out

premise_with : (side : Side) (s e : Sequent) (a : Formula) (q : Rule) (y : Var) (t : Term) (p : Tree) → is_free_in_sequent y e ≡ false → IsSubsequent e (adds_to s side a) → has_above side a (more p none) ≡ false
    → IsWithin q e 0 (concl p) → IsSubsequent (concl (sub p (only y t))) (extended s (λ other. map (image (fin.get (only y t))) (aux q 0 other)))
premise_with side s e a q y t p out within above h =
    subst (λ x. IsSubsequent x (extended s (λ other. map (image (fin.get (only y t))) (aux q 0 other)))) (sym (concl-sub p (only y t)))
    (image_extended y t (concl p) e s (aux q 0) out (keeps_without side (concl p) e s a (neither_first _ _ above) within) h)

universal : (s e e' : Sequent) (b : Formula) (y : Var) (t : Term) (p p' : Tree) → ValidCut Right s (all b) (node (AllR (all b) y) e (more p none)) (node (AllL (all b) t) e' (more p' none))
    → has_above Right (all b) (more p none) ≡ false → Premises (AllL (all b) t) s (more p' none) → IsValid (cut s (inst b t) (sub p (only y t)) p')
universal s e e' b y t p p' h above x =
    let term : IsFormedTerm t = and_right (is_formed (all b)) _ h.other_valid.0.formed in
    let row = row_of (node (AllR (all b) y) e (more p none)) h.valid in
    let out : is_free_in y b ≡ false = out_of_side y e Right (all b) row.eigenvariable (row.main_formula Right 0 (all b) (omega arith)) in
    cut_valid Right s (inst b t) (sub p (only y t)) p' (record {
      formed = formed-inst b t h.formed term;
      within = subst (λ f. IsSubsequent (concl (sub p (only y t))) (adds_to s Right f)) (instance b y t term out)
          (premise_with Right s e (all b) (AllR (all b) y) y t p row.eigenvariable h.within above row.first_premise);
      other = x.within.0;
      valid = sub_valid p (only y t) (formed_insert fin.empty y t formed_empty term) h.valid.1.0;
      other_valid = h.other_valid.1.0;
    })

existential : (s e e' : Sequent) (b : Formula) (y : Var) (t : Term) (p p' : Tree) → ValidCut Right s (ex b) (node (ExR (ex b) t) e (more p none)) (node (ExL (ex b) y) e' (more p' none))
    → has_above Left (ex b) (more p' none) ≡ false → Premises (ExR (ex b) t) s (more p none) → IsValid (cut s (inst b t) p (sub p' (only y t)))
existential s e e' b y t p p' h above x =
    let term : IsFormedTerm t = and_right (is_formed (ex b)) _ h.valid.0.formed in
    let row = row_of (node (ExL (ex b) y) e' (more p' none)) h.other_valid in
    let out : is_free_in y b ≡ false = out_of_side y e' Left (ex b) row.eigenvariable (row.main_formula Left 0 (ex b) (omega arith)) in
    cut_valid Right s (inst b t) p (sub p' (only y t)) (record {
      formed = formed-inst b t h.formed term;
      within = x.within.0;
      other = subst (λ f. IsSubsequent (concl (sub p' (only y t))) (adds_to s Left f)) (instance b y t term out)
          (premise_with Left s e' (ex b) (ExL (ex b) y) y t p' row.eigenvariable h.other above row.first_premise);
      valid = h.valid.1.0;
      other_valid = sub_valid p' (only y t) (formed_insert fin.empty y t formed_empty term) h.other_valid.1.0;
    })

-- an atom and what it unfolds to

definition : (s : Sequent) (a b : Formula) (l r p p' : Tree) → unf a ≡ Some b → IsFormed a → Premises (DefR a) s (more p none) → Premises (DefL a) s (more p' none) → IsValid (cut_unfolded s a l r (unf a) p p')
definition s (atom (pred q (defined c)) ts) b l r p p' e formed x y =
    let a : Formula = atom (pred q (defined c)) ts in
    subst (λ o. IsValid (cut_unfolded s a l r o p p')) (sym e) (cut_valid Right s b p p' (record {
      formed = subst (λ o. IfSome o IsFormed) e (formed-unf a formed);
      within = record { left = x.within.0.left; right = subst (λ o. set.IsSubset (concl p).right (set.adds_each s.right (option_to_list o))) e x.within.0.right };
      other = record { left = subst (λ o. set.IsSubset (concl p').left (set.adds_each s.left (option_to_list o))) e y.within.0.left; right = y.within.0.right };
      valid = x.valid.0;
      other_valid = y.valid.0;
    }))
definition s a b l r p p' e formed x y = cc

-- what stands in place of a cut whose formula both premises introduce, and above neither it stands again
pub by_parts_valid : (s : Sequent) (a : Formula) (q q' : Rule) → IsIntroduction Right q a → IsIntroduction Left q' a → (e e' : Sequent) (ts ts' : Trees)
    → ValidCut Right s a (node q e ts) (node q' e' ts') → Premises q s ts → Premises q' s ts' → has_above Right a ts ≡ false → has_above Left a ts' ≡ false → IsValid (by_parts s a (node q e ts) (node q' e' ts'))
by_parts_valid s a q q' (right_not b) (left_not b') e e' (more p none) (more p' none) h x y al ar = negation s b p p' h.formed x y
by_parts_valid s a q q' (right_and b c) (left_and b' c') e e' (more p (more p' none)) (more p'' none) h x y al ar = conjunction s b c p p' p'' h.formed x y
by_parts_valid s a q q' (right_or b c) (left_or b' c') e e' (more p none) (more p' (more p'' none)) h x y al ar = disjunction s b c p p' p'' h.formed x y
by_parts_valid s a q q' (right_imp b c) (left_imp b' c') e e' (more p none) (more p' (more p'' none)) h x y al ar = implication s b c p p' p'' h.formed x y
by_parts_valid s a q q' (right_all b v) (left_all b' t) e e' (more p none) (more p' none) h x y al ar = universal s e e' b v t p p' h al y
by_parts_valid s a q q' (right_ex b t) (left_ex b' v) e e' (more p none) (more p' none) h x y al ar = existential s e e' b v t p p' h ar x
by_parts_valid s a q q' (right_def o us b u) (left_def o' us' b' u') e e' (more p none) (more p' none) h x y al ar =
    definition s (atom o us) b (node q e (more p none)) (node q' e' (more p' none)) p p' u h.formed x y
by_parts_valid s a q q' i i' e e' ts ts' h x y al ar = cut_valid Right s a (node q e ts) (node q' e' ts') h
