-- Instances of an expansion proof of well-formed parts.
use Rattle.std.proofs.Common.{◌≡◌, ℕ, Bool, true, ◌&&◌, List, Ok, sym, subst, ◌∙◌}
use Rattle.std.specs.List.{All, list_all}
use Rattle.std.proofs.lemmas.List.Elements.{All-weaker}
use Rattle.std.proofs.lemmas.List.Sums.{list_all-from_AllPass}
use Rattle.fol.specs.Formed.{is_formed, are_formed_terms_at}
use Rattle.finite.specs.Finite as set
use Rattle.lk_rules.proofs.Subsequents.{and_both}
use Rattle.proof_trees.specs.Trees.{Tree, concl}
use Rattle.extraction_laws.specs.Extraction.{extracted}
use Rattle.herbrand_laws.specs.Herbrand.{Item, items_of}
use Rattle.introduction_laws.specs.Instancing.{instancing}
use Rattle.cut_intro.specs.Instancing.{AreInstancesFor}
use Rattle.introduction_laws.specs.Introducing.{has_formed_instances}
use Rattle.introduction_laws.proofs.Faultless.{instances}

abbrev has_formed_tuples : Item → Bool
has_formed_tuples i = list_all (are_formed_terms_at 0) i.tuples

abbrev HasFormedTuples : Item → Type 0
HasFormedTuples i = All (λ us. are_formed_terms_at 0 us ≡ true) i.tuples

-- what the instances that are answered name is well formed
pub instances_formed : (t : Tree) (n : ℕ) (items : List Item) → instancing t n ≡ Ok items → AreInstancesFor (concl t) items → has_formed_instances t ≡ true
instances_formed t n items is right =
    let left_side = list_all is_formed (set.listing (concl t).left) in
    let right_side = list_all is_formed (set.listing (concl t).right) in
    let terms = subst (All HasFormedTuples) (sym right.of_trees ∙ instances t n items is) right.proof.terms in
    and_both (left_side && right_side) (list_all has_formed_tuples (items_of (extracted t)))
    (and_both left_side right_side (list_all-from_AllPass is_formed (set.listing (concl t).left) right.proof.formulas.left)
    (list_all-from_AllPass is_formed (set.listing (concl t).right) right.proof.formulas.right))
    (list_all-from_AllPass has_formed_tuples (items_of (extracted t))
    (All-weaker HasFormedTuples (λ i. has_formed_tuples i ≡ true) (λ i h. list_all-from_AllPass (are_formed_terms_at 0) i.tuples h) (items_of (extracted t)) terms))
