-- Instances that are read one after another.
use Rattle.std.proofs.Common.{◌≡◌, ℕ, true, ◌&&◌, List, [], ◌∷◌, ◌++◌, map, Option, Some, refl, sym, ap, ◌∙◌, subst}
use Rattle.std.proofs.lemmas.Bool.{and_parts}
use Rattle.std.proofs.lemmas.List.{append-nil, append_assoc, map-append}
use Rattle.std.specs.Cmp.Derive.{both_true}
use Rattle.std.specs.Map.{keys_of}
use Rattle.fol.specs.Syntax.{Term}
use Rattle.fol.specs.Formed.{is_formed_term}
use Rattle.expansion_laws.specs.Expansions.{Exp, more}
use Rattle.extraction_laws.specs.Addresses.{Address, via}
use Rattle.extraction_laws.specs.States.{instances_by}
use Rattle.exp_tree.specs.declared.expansion.Inst.{Inst}
use Rattle.expansion_laws.specs.Formed.{is_formed_exp, are_formed_insts}
use Rattle.exp_tree.specs.Shown.{insts_of}
use Rattle.exp_extract.specs.Marked.{Marked, address_in, address_at, IsPlace}
use Rattle.exp_extract.specs.Entries.{IsChild, FindsChild}

abbrev term_of : Inst → Term
term_of i = i.term

-- what the map of the instances finds
pub child_at : (m : Marked) (bs : List Address) (p : ℕ) (t : Term) (n : ℕ) → bs ≡ m.addresses → (o : Option ℕ) → o ≡ Some n → FindsChild bs (via (address_in bs p) t) o → IsPlace m n × (address_at m n ≡ via (address_at m p) t)
child_at m bs p t n view o is h =
    subst (λ (cs : List Address). IsChild cs (via (address_in cs p) t) n) view (subst (FindsChild bs (via (address_in bs p) t)) is h)

-- the tree of each instance is that of its term
abbrev AreTrees : (Term → Exp) → List Inst → Type 0
AreTrees e [] = Unit {0}
AreTrees e (i ∷ is) = (i.child ≡ e i.term) × AreTrees e is

trees_push : (e : Term → Exp) (is : List Inst) (i : Inst) → AreTrees e is → i.child ≡ e i.term → AreTrees e (is ++ i ∷ [])
trees_push e [] i h here = (here, tt)
trees_push e (j ∷ is) i h here = (h.0, trees_push e is i h.1 here)

trees_are : (e : Term → Exp) (is : List Inst) → AreTrees e is → insts_of is ≡ instances_by e (map term_of is)
trees_are e [] h = refl
trees_are e (i ∷ is) h = λ j. more i.term (h.0 j) (trees_are e is h.1 j)

formed_push : (is : List Inst) (i : Inst) → are_formed_insts (insts_of is) ≡ true → is_formed_term i.term ≡ true → is_formed_exp i.child ≡ true → are_formed_insts (insts_of (is ++ i ∷ [])) ≡ true
formed_push [] i h term child = both_true (both_true term child) refl
formed_push (j ∷ is) i h term child =
    let parts = and_parts (is_formed_term j.term && is_formed_exp j.child) (are_formed_insts (insts_of is)) h in
    both_true parts.0 (formed_push is i parts.1 term child)

-- instances by the terms before those of the entries that are left, with the trees e of the terms
pub record AreRead (e : Term → Exp) (ts : List Term) (left : List (Term × ℕ)) (is : List Inst) : Type 0 where
  pub terms : map term_of is ++ keys_of left ≡ ts
  pub trees : AreTrees e is
  pub formed : are_formed_insts (insts_of is) ≡ true

pub none_read : (e : Term → Exp) (es : List (Term × ℕ)) → AreRead e (keys_of es) es []
none_read e es = record { terms = refl; trees = tt; formed = refl }

pub one_more : (e : Term → Exp) (ts : List Term) (t : Term) (n : ℕ) (left : List (Term × ℕ)) (is : List Inst) (i : Inst) → AreRead e ts ((t, n) ∷ left) is → i.term ≡ t → i.child ≡ e t
    → is_formed_term t ≡ true → is_formed_exp i.child ≡ true → AreRead e ts left (is ++ i ∷ [])
one_more e ts t n left is i h term child formed_term formed_child = record {
  terms =
      ap (λ us. us ++ keys_of left) (map-append term_of is (i ∷ []))
      ∙ (append_assoc (map term_of is) (i.term ∷ []) (keys_of left)
      ∙ (ap (λ u. map term_of is ++ (u ∷ keys_of left)) term ∙ h.terms));
  trees = trees_push e is i h.trees (child ∙ ap e (sym term));
  formed = formed_push is i h.formed (ap is_formed_term term ∙ formed_term) formed_child;
}

-- all of them
pub all_read : (e : Term → Exp) (ts : List Term) (is : List Inst) → AreRead e ts [] is → insts_of is ≡ instances_by e ts
all_read e ts is h = trees_are e is h.trees ∙ ap (instances_by e) (sym (append-nil (map term_of is)) ∙ h.terms)
