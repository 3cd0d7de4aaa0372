-- What lacks marks or links isn't subsumed, and what lacks marks is no image.
use Rattle.std.proofs.Common.{◌≡◌, false, refl, sym, ap, subst, ◌∙◌}
use Rattle.std.specs.Prelude.{bit_or, Option, Some, None, IfSome}
use Rattle.std.specs.FinMap as fin
use Rattle.std.proofs.lemmas.Bool.{both_ways}
use Rattle.fol.specs.Syntax.{Formula, atom}
use Rattle.substitution.specs.Maps.{Map}
use Rattle.lk_rules.specs.declared.sequent.Sequent.{Sequent}
use Rattle.unify_laws.proofs.Images.{split}
use Rattle.unify_laws.proofs.Matched.{within_itself}
use Rattle.clause_laws.specs.Subsumption.{IsClause, Subsumes}
use Rattle.clause_laws.specs.Searching.{match_atom, subsumes}
use Rattle.clause_laws.proofs.Searched.{Finds, finds_atom, subsumes-tested}
use Rattle.res_prover.specs.declared.marked.MarkedClause.TheInside.{Inside}
use Rattle.res_prover.specs.declared.links.Links.{Links}
use Rattle.res_prover.specs.Marks.{is_marked_within}
use Rattle.res_prover.specs.Links.{AreLinksOf}
use Rattle.res_prover.specs.Marked.{IsMarked}
use Rattle.res_prover.proofs.MarkLaws.{marks_left, marks_right, image_within}
use Rattle.res_prover.proofs.LinkLaws.{links_within}

pub shown : (one other : Inside) (c d : Sequent) → one.cell.value.clause ≡ c → other.cell.value.clause ≡ d → Subsumes c d → Subsumes one.cell.value.clause other.cell.value.clause
shown one other c d is_c is_d h = subst (λ x. Subsumes x other.cell.value.clause) (sym is_c) (subst (Subsumes c) (sym is_d) h)

module _ (one other : Inside) (m : IsMarked one) (n : IsMarked other) (h : Subsumes one.cell.value.clause other.cell.value.clause) where
  pub left_within : bit_or one.left_marks other.left_marks ≡ other.left_marks
  left_within = ap (λ a. bit_or a other.left_marks) m.left_marks ∙ ap (bit_or _) n.left_marks ∙ marks_left one.cell.value.clause other.cell.value.clause h ∙ sym n.left_marks

  pub right_within : bit_or one.right_marks other.right_marks ≡ other.right_marks
  right_within = ap (λ a. bit_or a other.right_marks) m.right_marks ∙ ap (bit_or _) n.right_marks ∙ marks_right one.cell.value.clause other.cell.value.clause h ∙ sym n.right_marks

  pub link_within : (l k : Links) → one.links ≡ Some l → other.links ≡ Some k → bit_or l.needed k.offered ≡ k.offered
  link_within l k is_l is_k =
      let c = one.cell.value.clause in
      let d = other.cell.value.clause in
      let mine : AreLinksOf c l = subst (λ o. IfSome o (AreLinksOf c)) is_l m.links in
      let others : AreLinksOf d k = subst (λ o. IfSome o (AreLinksOf d)) is_k n.links in
      ap (λ a. bit_or a k.offered) mine.needed ∙ ap (bit_or _) others.offered ∙ links_within c d h ∙ sym others.offered

-- a clause that lacks a mark isn't found

pub not_found : (c d : Sequent) → IsClause c → (Subsumes c d → ⊥) → false ≡ subsumes c d
not_found c d clause never =
    split (subsumes c d)
    (λ found. absurd (never ((subsumes-tested c d clause).0 found)))
    (λ out. sym out)

-- an atom that lacks a mark isn't matched

none_found : (f g : Formula) (m : Map) → is_marked_within f g ≡ false → (o : Option Map) → Finds f g m o → o ≡ None
none_found f g m out None finds = refl
none_found f g m out (Some n) finds =
    let both = (finds (fin.get n)).0 (within_itself n) in
    absurd (both_ways (is_marked_within f g) out (image_within (fin.get n) f g both.1))

pub not_sent : (f g : Formula) (m : Map) → is_marked_within f g ≡ false → match_atom f g m ≡ None
not_sent (atom p ts) g m out = none_found (atom p ts) g m out (match_atom (atom p ts) g m) (finds_atom (atom p ts) g m refl)
not_sent f g m out = refl
