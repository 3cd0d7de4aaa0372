-- The cuts on the parts of a formula, by numbers.
use Rattle.std.proofs.Common.{◌≡◌, ℕ, List, refl, sym, ap, ◌∙◌}
use Rattle.lk_rules.specs.declared.sequent.Sequent.{Sequent}
use Rattle.lk_rules.specs.declared.sequent.Side.{Side}
use Rattle.lk_rules.specs.declared.sequent.Side.TheVariants.{Left, Right}
use Rattle.proof_trees.specs.Trees.{Tree, node, rule_of, concl, below, AllValid}
use Rattle.cut_laws.specs.Contraction.{by_parts}
use Rattle.arena_cells.specs.declared.key.RuleKey.{RuleKey}
use Rattle.arena_cells.specs.declared.key.RuleKey.TheVariants.{AllL, AllR, ExL, ExR, DefL, DefR}
use Rattle.arena_cells.specs.declared.key.Parts.{Parts}
use Rattle.arena_cells.specs.declared.key.Parts.TheVariants as parts
use Rattle.arena_cells.specs.declared.key.Key.{Key}
use Rattle.arena_cells.specs.declared.key.Key.TheVariants.{Atom, Defined, Not, And, Or, Imp, All, Ex}
use Rattle.arena_cells.specs.Items.{Item}
use Rattle.arena_cells.specs.Standing.{formula_of, formula_at, IsFormulaAt}
use Rattle.arena_cells.specs.Meaning.{meaning, rule_at, trees_at, HasRuleParts, HasPremises, HasParts, IsKeyAt}
use Rattle.arena_cells.proofs.Staying.{item_is}
use Rattle.arena_cuts.specs.Reductions.{instance_numbers, unfolded_numbers, reduction_numbers, IsReductionAt, reduced_tree}

module _ (a : List Item) where
  instance_there : (side : Side) (b : ℕ) (l : RuleKey) (ps : Parts) (r : RuleKey) (qs : Parts) → IsFormulaAt a b → HasRuleParts a l → HasPremises a ps → AllValid (trees_at a ps) → HasRuleParts a r → HasPremises a qs
      → AllValid (trees_at a qs) → IsReductionAt a (instance_numbers side b l ps r qs)
  instance_there Right b (AllR f y) (parts.One p) (AllL g t) (parts.One q) k hl hp vp hr hq vq = record { body = k; term = hr.1; variable = hl.1; premise = hp; valid = vp.0; other = hq }
  instance_there Left b (ExR f t) (parts.One q) (ExL g y) (parts.One p) k hl hq vq hr hp vp = record { body = k; term = hl.1; variable = hr.1; premise = hp; valid = vp.0; other = hq }
  instance_there side b l ps r qs k hl hp vp hr hq vq = tt

  unfolded_there : (l : RuleKey) (ps : Parts) (r : RuleKey) (qs : Parts) → HasPremises a ps → HasPremises a qs → IsReductionAt a (unfolded_numbers l ps r qs)
  unfolded_there (DefR f) (parts.One p) (DefL g) (parts.One q) hp hq = (hp, hq)
  unfolded_there l ps r qs hp hq = tt

  -- the parts stand at the numbers
  pub reduction_there : (k : Key) (l : RuleKey) (ps : Parts) (r : RuleKey) (qs : Parts) → HasParts a k → HasRuleParts a l → HasPremises a ps → AllValid (trees_at a ps) → HasRuleParts a r → HasPremises a qs → AllValid (trees_at a qs)
      → IsReductionAt a (reduction_numbers k l ps r qs)
  reduction_there (Not b) l (parts.One p) r (parts.One q) k hl hp vp hr hq vq = (k, (hq, hp))
  reduction_there (And b c) l (parts.Two p q) r (parts.One o) k hl hp vp hr hq vq = (k.0, (record { formula = k.1; left = hp.1; right = hq }, hp.0))
  reduction_there (Or b c) l (parts.One p) r (parts.Two q o) k hl hp vp hr hq vq = (k.1, (record { formula = k.0; left = hp; right = hq.0 }, hq.1))
  reduction_there (Imp b c) l (parts.One p) r (parts.Two q o) k hl hp vp hr hq vq = (k.1, (record { formula = k.0; left = hq.0; right = hp }, hq.1))
  reduction_there (All b) l ps r qs k hl hp vp hr hq vq = instance_there Right b l ps r qs k hl hp vp hr hq vq
  reduction_there (Ex b) l ps r qs k hl hp vp hr hq vq = instance_there Left b l ps r qs k hl hp vp hr hq vq
  reduction_there (Defined s b ts) l ps r qs k hl hp vp hr hq vq = unfolded_there l ps r qs hp hq
  reduction_there x l ps r qs k hl hp vp hr hq vq = tt

  module _ (s d e : Sequent) where
    universal_is : (b : ℕ) (l : RuleKey) (ps : Parts) (r : RuleKey) (qs : Parts) → let f = formula_of (meaning a (All b)) in
        reduced_tree a s f (node (rule_at a l) d (trees_at a ps)) (node (rule_at a r) e (trees_at a qs)) (instance_numbers Right b l ps r qs) ≡ by_parts s f (node (rule_at a l) d (trees_at a ps)) (node (rule_at a r) e (trees_at a qs))
    universal_is b (AllR f y) (parts.One p) (AllL g t) (parts.One q) = refl
    universal_is b l ps r qs = refl

    existential_is : (b : ℕ) (l : RuleKey) (ps : Parts) (r : RuleKey) (qs : Parts) → let f = formula_of (meaning a (Ex b)) in
        reduced_tree a s f (node (rule_at a l) d (trees_at a ps)) (node (rule_at a r) e (trees_at a qs)) (instance_numbers Left b l ps r qs) ≡ by_parts s f (node (rule_at a l) d (trees_at a ps)) (node (rule_at a r) e (trees_at a qs))
    existential_is b (ExR f t) (parts.One q) (ExL g y) (parts.One p) = refl
    existential_is b l ps r qs = refl

    -- an atom whose symbol has no body doesn't unfold
    plain_is : (n m : ℕ) (l : RuleKey) (ps : Parts) (r : RuleKey) (qs : Parts) → let f = formula_of (meaning a (Atom n m)) in
        reduced_tree a s f (node (rule_at a l) d (trees_at a ps)) (node (rule_at a r) e (trees_at a qs)) (reduction_numbers (Atom n m) l ps r qs) ≡ by_parts s f (node (rule_at a l) d (trees_at a ps)) (node (rule_at a r) e (trees_at a qs))
    plain_is n m (DefR f) (parts.One p) (DefL g) (parts.One q) = refl
    plain_is n m l ps r qs = refl

    unfolded_is : (n b m : ℕ) (l : RuleKey) (ps : Parts) (r : RuleKey) (qs : Parts) → let f = formula_of (meaning a (Defined n b m)) in
        reduced_tree a s f (node (rule_at a l) d (trees_at a ps)) (node (rule_at a r) e (trees_at a qs)) (unfolded_numbers l ps r qs) ≡ by_parts s f (node (rule_at a l) d (trees_at a ps)) (node (rule_at a r) e (trees_at a qs))
    unfolded_is n b m (DefR f) (parts.One p) (DefL g) (parts.One q) = refl
    unfolded_is n b m l ps r qs = refl

    keyed_is : (k : Key) (l : RuleKey) (ps : Parts) (r : RuleKey) (qs : Parts) → let f = formula_of (meaning a k) in
        reduced_tree a s f (node (rule_at a l) d (trees_at a ps)) (node (rule_at a r) e (trees_at a qs)) (reduction_numbers k l ps r qs) ≡ by_parts s f (node (rule_at a l) d (trees_at a ps)) (node (rule_at a r) e (trees_at a qs))
    keyed_is (Not b) l (parts.One p) r (parts.One q) = refl
    keyed_is (And b c) l (parts.Two p q) r (parts.One o) = refl
    keyed_is (Or b c) l (parts.One p) r (parts.Two q o) = refl
    keyed_is (Imp b c) l (parts.One p) r (parts.Two q o) = refl
    keyed_is (All b) l ps r qs = universal_is b l ps r qs
    keyed_is (Ex b) l ps r qs = existential_is b l ps r qs
    keyed_is (Atom n m) l ps r qs = plain_is n m l ps r qs
    keyed_is (Defined n b m) l ps r qs = unfolded_is n b m l ps r qs
    keyed_is k l ps r qs = refl

  parted : (t : Tree) (q : RuleKey) (ps : Parts) → rule_of t ≡ rule_at a q → below t ≡ trees_at a ps → node (rule_at a q) (concl t) (trees_at a ps) ≡ t
  parted (node r s ts) q ps rule above = λ i. node (sym rule i) s (sym above i)

  -- cuts on the parts of the formula at a number, by its key and the last rules of the premises
  pub reduction_is : (s : Sequent) (n : ℕ) (k : Key) (l r : Tree) (q : RuleKey) (ps : Parts) (q' : RuleKey) (ps' : Parts) → IsKeyAt a n k → rule_of l ≡ rule_at a q → below l ≡ trees_at a ps → rule_of r ≡ rule_at a q' → below r ≡ trees_at a ps'
      → reduced_tree a s (formula_at a n) l r (reduction_numbers k q ps q' ps') ≡ by_parts s (formula_at a n) l r
  reduction_is s n k l r q ps q' ps' here rule above rule' above' =
      let formula : formula_at a n ≡ formula_of (meaning a k) = ap formula_of (item_is a n _ here.stands) in
      (λ i. reduced_tree a s (formula i) (sym (parted l q ps rule above) i) (sym (parted r q' ps' rule' above') i) (reduction_numbers k q ps q' ps'))
      ∙ keyed_is s (concl l) (concl r) k q ps q' ps'
      ∙ (λ i. by_parts s (sym formula i) (parted l q ps rule above i) (parted r q' ps' rule' above' i))
