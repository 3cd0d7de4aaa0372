-- The items of an expansion proof's trees are instances of its sequent.
use Rattle.std.proofs.Common.{◌≡◌, true, None, List, map}
use Rattle.std.specs.List.{All}
use Rattle.std.proofs.lemmas.List.Elements.{All-append, All-map, All-weaker}
use Rattle.std.proofs.lemmas.List.Sums.{AllPass-from_list_all}
use Rattle.fol.specs.Formed.{are_formed_terms_at, IsFormed}
use Rattle.finite.specs.Finite as set
use Rattle.lk_rules.specs.declared.sequent.Sequent.{Sequent}
use Rattle.lk_rules.specs.declared.sequent.Side.{Side}
use Rattle.lk_rules.specs.declared.sequent.Side.TheVariants.{Left, Right}
use Rattle.expansion_laws.specs.Expansions.{Exp, shallow}
use Rattle.expansion_laws.specs.Proofs.{IsExpansionProof}
use Rattle.exp_tree.specs.declared.sequents.ExpSequent.{ExpSequent}
use Rattle.exp_tree.specs.Reads.{expansion_of}
use Rattle.exp_tree.specs.Sequents.{AreArranged}
use Rattle.expansion_laws.specs.Formed.{is_formed_exp}
use Rattle.herbrand_laws.specs.Herbrand.{prefix, Item, item_of, items_of, tuples_on}
use Rattle.introduction_laws.specs.Instancing.{first_not_prenex}
use Rattle.cut_intro.specs.Instancing.{AreInstancesFor}
use Rattle.introduction_laws.proofs.Prenexes.{prenex_of}
use Rattle.cut_intro.proofs.TreeItems.{tuples_formed}

abbrev HasFormedTuples : Item → Type 0
HasFormedTuples i = All (λ us. are_formed_terms_at 0 us ≡ true) i.tuples

side_formed : (side : Side) (es : List Exp) → AreArranged es → All HasFormedTuples (map (item_of side) es)
side_formed side es h =
    All-map HasFormedTuples (item_of side) es
    (All-weaker (λ e. is_formed_exp e ≡ true) (λ e. HasFormedTuples (item_of side e))
    (λ e f. AllPass-from_list_all (are_formed_terms_at 0) (tuples_on side e) (tuples_formed (prefix side (shallow e)) e f)) es
    (AllPass-from_list_all is_formed_exp es h.formed))

pub instances_for : (s : Sequent) (e : ExpSequent) → IsExpansionProof (expansion_of e) s → first_not_prenex s ≡ None → All IsFormed (set.listing s.left) → All IsFormed (set.listing s.right) → AreArranged e.left → AreArranged e.right
    → (items : List Item) → items ≡ items_of (expansion_of e) → AreInstancesFor s items
instances_for s e proof none left right first second items is = record {
  expansion = expansion_of e;
  proof = record {
    proof = proof;
    prenex = prenex_of s none;
    formulas = record { left = left; right = right };
    terms = All-append HasFormedTuples (map (item_of Left) e.left) (map (item_of Right) e.right) (side_formed Left e.left first) (side_formed Right e.right second);
  };
  of_trees = is;
}
