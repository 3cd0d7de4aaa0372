-- A rule and its premises under a new conclusion, in which the eigenvariable may be free.
use Rattle.std.proofs.Common.{◌≡◌, ℕ, suc, true, false, if◌then◌else◌, map, refl, sym, ap, subst, ◌∙◌}
use Rattle.std.specs.FinMap as fin
use Rattle.fol.specs.declared.symbols.Var.{Var}
use Rattle.fol.specs.Syntax.{free, all, ex}
use Rattle.fol.specs.Formed.{is_formed, IsFormedVar}
use Rattle.substitution.specs.Image.{image, IsFormedMap}
use Rattle.substitution.specs.Maps.{Map, only}
use Rattle.substitution.proofs.ImageLaws.{image-empty, formed_insert, formed_empty, closed_empty}
use Rattle.lk_rules.specs.declared.sequent.Sequent.{Sequent}
use Rattle.lk_rules.specs.declared.sequent.Side.{Side}
use Rattle.lk_rules.specs.declared.rule.Rule.{Rule}
use Rattle.lk_rules.specs.declared.rule.Rule.TheVariants.{AllR, ExL}
use Rattle.lk_rules.specs.Sequents.{extended, is_free_in_sequent, image_sequent, IsSubsequent}
use Rattle.lk_rules.specs.Rules.{IsFormedRule, needs, has_shape, aux, eigen_free, main_stands, IsWithin, Row}
use Rattle.lk_rules.proofs.Subsequents.{and_left, and_right, and_both}
use Rattle.proof_trees.specs.Trees.{Tree, node, Trees, none, more, concl, count, first_end, second_end, AllValid}
use Rattle.proof_trees.specs.Substitution.{renamed, sub, sub_all}
use Rattle.proof_trees.proofs.RowImages.{aux-image_in_row}
use Rattle.proof_trees.proofs.RuleImages.{renamed_out, renamed_formed}
use Rattle.proof_trees.proofs.Substituted.{sub_valid}
use Rattle.cut_laws.specs.Contraction.{moved_rule, renamed_trees, moved_trees}
use Rattle.cut_laws.proofs.Sides.{image_extended}
use Rattle.cut_laws.proofs.Cuts.{AllWithin, Premises}

pub moved_shape : (end : Sequent) (q : Rule) → has_shape (moved_rule end q) ≡ has_shape q
moved_shape end (AllR (all b) y) = refl
moved_shape end (ExL (ex b) y) = refl
moved_shape end q = refl

pub moved_stands : (end s : Sequent) (q : Rule) → main_stands (moved_rule end q) s ≡ main_stands q s
moved_stands end s (AllR a y) = refl
moved_stands end s q = refl

pub moved_eigen : (end : Sequent) (q : Rule) → eigen_free (moved_rule end q) end ≡ false
moved_eigen end (AllR a y) = renamed_out y end
moved_eigen end (ExL a y) = renamed_out y end
moved_eigen end q = refl

pub moved_formed : (end : Sequent) (q : Rule) → IsFormedRule q → IsFormedRule (moved_rule end q)
moved_formed end (AllR a y) h = and_both _ _ (and_left _ _ h) (renamed_formed y end (and_right (is_formed a) _ h))
moved_formed end (ExL a y) h = and_both _ _ (and_left _ _ h) (renamed_formed y end (and_right (is_formed a) _ h))
moved_formed end q h = h

renamed_same : (y : Var) (end : Sequent) → is_free_in_sequent y end ≡ false → renamed y end ≡ y
unfolding renamed
renamed_same y end h = rw h refl

count-sub : (ts : Trees) (m : Map) → count (sub_all ts m) ≡ count ts
count-sub none m = refl
count-sub (more t ts) m = ap suc (count-sub ts m)

valid-sub : (ts : Trees) (m : Map) → IsFormedMap (fin.get m) → AllValid ts → AllValid (sub_all ts m)
valid-sub none m formed h = tt
valid-sub (more t ts) m formed h = (sub_valid t m formed h.0, valid-sub ts m formed h.1)

-- a rule by its eigenvariable y, and the rule by another, z
module _ (rule : Var → Rule) (y z : Var) (e : Sequent) (out : is_free_in_sequent y e ≡ false)
    (auxiliary : (i : ℕ) (side : Side) → aux (rule z) i side ≡ map (image (fin.get (only y (free z)))) (aux (rule y) i side)) where
  within_sub : (i : ℕ) (t : Tree) → IsWithin (rule y) e i (concl t) → IsWithin (rule z) e i (concl (sub t (only y (free z))))
  within_sub i (node r x ts) h =
      subst (λ fs. IsSubsequent (image_sequent (fin.get (only y (free z))) x) (extended e fs)) (λ k side. sym (auxiliary i side) k) (image_extended y (free z) x e e (aux (rule y) i) out (λ side f _ m. m) h)

  all_within_sub : (i : ℕ) (ts : Trees) → AllWithin (rule y) e i ts → AllWithin (rule z) e i (sub_all ts (only y (free z)))
  all_within_sub i none h = tt
  all_within_sub i (more t ts) h = (within_sub i t h.0, all_within_sub (suc i) ts h.1)

renamed_premises : (rule : Var → Rule) (y : Var) (end e : Sequent) (ts : Trees) → is_free_in_sequent y e ≡ false → IsFormedVar y → ((z : Var) → needs (rule z) ≡ needs (rule y))
    → ((i : ℕ) (side : Side) → aux (rule (renamed y end)) i side ≡ map (image (fin.get (only y (free (renamed y end))))) (aux (rule y) i side))
    → Premises (rule y) e ts → Premises (rule (renamed y end)) e (renamed_trees end y ts)
renamed_premises rule y end e ts out formed number auxiliary h =
    elim (is_free_in_sequent y end) as (λ b. is_free_in_sequent y end ≡ b → Premises (rule (renamed y end)) e (if b then sub_all ts (only y (free (renamed y end))) else ts)) [
      | true ↦ λ _. record {
        number = count-sub ts (only y (free (renamed y end))) ∙ h.number ∙ sym (number (renamed y end));
        within = all_within_sub rule y (renamed y end) e out auxiliary 0 ts h.within;
        valid = valid-sub ts (only y (free (renamed y end))) (formed_insert fin.empty y (free (renamed y end)) formed_empty (renamed_formed y end formed)) h.valid;
      }
      | false ↦ λ same. subst (λ z. Premises (rule z) e ts) (sym (renamed_same y end same)) h
    ] refl

-- the premises of a right inference are premises of the moved rule, once its eigenvariable is renamed in them
pub moved_premises : (q : Rule) (end e : Sequent) (ts : Trees) → Row q e (count ts) (first_end ts) (second_end ts) → IsFormedRule q → Premises q e ts → Premises (moved_rule end q) e (moved_trees end q ts)
moved_premises (AllR f y) end e ts row formed h =
    renamed_premises (AllR f) y end e ts row.eigenvariable (and_right (is_formed f) _ formed) (λ z. refl)
    (λ i side. ap (λ g. aux (AllR g (renamed y end)) i side) (sym (image-empty f)) ∙ aux-image_in_row fin.empty (AllR f y) e end i side closed_empty formed row.main_formula row.eigenvariable)
    h
moved_premises (ExL f y) end e ts row formed h =
    renamed_premises (ExL f) y end e ts row.eigenvariable (and_right (is_formed f) _ formed) (λ z. refl)
    (λ i side. ap (λ g. aux (ExL g (renamed y end)) i side) (sym (image-empty f)) ∙ aux-image_in_row fin.empty (ExL f y) e end i side closed_empty formed row.main_formula row.eigenvariable)
    h
moved_premises q end e ts row formed h = h
