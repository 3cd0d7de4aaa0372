-- The faults of Herbrand instances in their order.
use Rattle.std.proofs.Common.{◌≡◌, ℕ, ◌≤◌, Bool, true, false, arith, Option, Some, None, Ok, Err, refl, sym, ap, ◌∙◌, if◌then◌else◌}
use Rattle.std.specs.Prelude.{nat_lt}
use Rattle.std.specs.List.{position}
use Rattle.std.proofs.lemmas.Bool.Decides.{nat_tests}
use Rattle.std.proofs.lemmas.List.Elements.{All-weaker}
use Rattle.fol.specs.Syntax.{Formula}
use Rattle.lk_rules.specs.declared.sequent.Sequent.{Sequent}
use Rattle.lk_rules.specs.declared.sequent.Side.{Side}
use Rattle.lk_rules.specs.declared.sequent.Side.TheVariants.{Left, Right}
use Rattle.proof_trees.specs.Trees.{Tree, concl, size}
use Rattle.step_laws.specs.Places.{steps_of, is_cut_step}
use Rattle.step_laws.specs.Faults.{Placed, first_defined, or_fault}
use Rattle.step_laws.proofs.Found.{plain_found}
use Rattle.expansion_laws.specs.Expansions.{shallow}
use Rattle.expansion_laws.specs.Dependency.{Expansion}
use Rattle.expansion_laws.specs.Proofs.{IsExpansionProof}
use Rattle.extraction_laws.specs.Extraction.{extracted}
use Rattle.extraction_laws.specs.declared.fault.ExtractFault.TheVariants as extract
use Rattle.extraction_laws.specs.Extracting.{extracting}
use Rattle.herbrand_laws.specs.Herbrand.{is_prenex, items_of}
use Rattle.herbrand_laws.proofs.Herbrand.{IsTreeFor, trees_left, trees_right, prenex_without_bodies}
use Rattle.introduction_laws.specs.declared.fault.HerbrandFault.TheVariants.{Cut, NotPrenex, Budget}
use Rattle.introduction_laws.specs.Instancing.{first_not_prenex, instancing}
use Rattle.cut_intro.specs.Instancing.{ArePrenex}
use Rattle.introduction_laws.proofs.Prenexes.{prenex_of}

-- where none is found, each formula is weak quantifiers over a matrix

-- so none has a defined symbol
none_defined : (s : Sequent) → first_not_prenex s ≡ None → first_defined s ≡ None
none_defined s none = (plain_found s).1 (prenex_without_bodies s (prenex_of s none))

-- and the trees of an expansion proof are for such formulas
pub prenex_trees : (x : Expansion) (s : Sequent) → IsExpansionProof x s → first_not_prenex s ≡ None → ArePrenex x
prenex_trees x s proof none = record {
  left = All-weaker (IsTreeFor s Left) (λ e. is_prenex Left (shallow e) ≡ true) (λ e h. h.prenex) x.left (trees_left x s proof (prenex_of s none));
  right = All-weaker (IsTreeFor s Right) (λ e. is_prenex Right (shallow e) ≡ true) (λ e h. h.prenex) x.right (trees_right x s proof (prenex_of s none));
}

-- what isn't something is nothing
pub none_left : {X : Type 0} (o : Option X) → ((x : X) → o ≡ Some x → ⊥) → o ≡ None
none_left None h = refl
none_left (Some x) h = absurd (h x refl)

within : (n m : ℕ) → nat_lt n m ≡ false → m ≤ n
within n m h = grind (arith, nat_tests)

module _ (t : Tree) (n : ℕ) where
  abbrev cut_place : Option ℕ
  cut_place = position is_cut_step (steps_of t)

  whole : instancing t n ≡ or_fault Cut cut_place (or_fault (λ (p : Placed). NotPrenex p.0 p.1) (first_not_prenex (concl t)) (if nat_lt n (size t) then Err Budget else Ok (items_of (extracted t))))
  unfolding instancing
  whole = refl

  -- a formula isn't of the kind: the first cut comes first
  module _ (p : Placed) (found : first_not_prenex (concl t) ≡ Some p) where
    beside : instancing t n ≡ or_fault Cut cut_place (Err (NotPrenex p.0 p.1))
    beside = whole ∙ ap (λ o. or_fault Cut cut_place (or_fault (λ (q : Placed). NotPrenex q.0 q.1) o (if nat_lt n (size t) then Err Budget else Ok (items_of (extracted t))))) found

    pub at_cut : (k : ℕ) → Some k ≡ cut_place → instancing t n ≡ Err (Cut k)
    at_cut k e = beside ∙ ap (λ o. or_fault Cut o (Err (NotPrenex p.0 p.1))) (sym e)

    pub at_formula : None ≡ cut_place → instancing t n ≡ Err (NotPrenex p.0 p.1)
    at_formula e = beside ∙ ap (λ o. or_fault Cut o (Err (NotPrenex p.0 p.1))) (sym e)

  module _ (none : first_not_prenex (concl t) ≡ None) where
    instances : instancing t n ≡ or_fault Cut cut_place (if nat_lt n (size t) then Err Budget else Ok (items_of (extracted t)))
    instances = whole ∙ ap (λ o. or_fault Cut cut_place (or_fault (λ (q : Placed). NotPrenex q.0 q.1) o (if nat_lt n (size t) then Err Budget else Ok (items_of (extracted t))))) none

    trees : extracting t n ≡ or_fault extract.Cut cut_place (if nat_lt n (size t) then Err extract.Budget else Ok (extracted t))
    unfolding extracting
    trees = ap (λ o. or_fault extract.Cut cut_place (or_fault (λ (q : Placed). extract.Defined q.0 q.1) o (if nat_lt n (size t) then Err extract.Budget else Ok (extracted t)))) (none_defined (concl t) none)

    pub trees_found : (x : Expansion) → extracting t n ≡ Ok x → instancing t n ≡ Ok (items_of x)
    trees_found x e = instances ∙ go cut_place (nat_lt n (size t)) (sym trees ∙ e)
      where
        go : (cut : Option ℕ) (b : Bool) → or_fault extract.Cut cut (if b then Err extract.Budget else Ok (extracted t)) ≡ Ok x → or_fault Cut cut (if b then Err Budget else Ok (items_of (extracted t))) ≡ Ok (items_of x)
        go (Some k) b h = absurd (cc)
        go None true h = absurd (cc)
        go None false h = let same : extracted t ≡ x = cc in ap (λ y. Ok (items_of y)) same

    pub size_within : (x : Expansion) → extracting t n ≡ Ok x → size t ≤ n
    size_within x e = go cut_place (nat_lt n (size t)) refl (sym trees ∙ e)
      where
        go : (cut : Option ℕ) (b : Bool) → nat_lt n (size t) ≡ b → or_fault extract.Cut cut (if b then Err extract.Budget else Ok (extracted t)) ≡ Ok x → size t ≤ n
        go (Some k) b s h = absurd (cc)
        go None true s h = absurd (cc)
        go None false s h = within n (size t) s

    pub trees_cut : (k : ℕ) → extracting t n ≡ Err (extract.Cut k) → instancing t n ≡ Err (Cut k)
    trees_cut k e = instances ∙ go cut_place (nat_lt n (size t)) (sym trees ∙ e)
      where
        go : (cut : Option ℕ) (b : Bool) → or_fault extract.Cut cut (if b then Err extract.Budget else Ok (extracted t)) ≡ Err (extract.Cut k) → or_fault Cut cut (if b then Err Budget else Ok (items_of (extracted t))) ≡ Err (Cut k)
        go (Some j) b h = let same : j ≡ k = cc in ap (λ m. Err (Cut m)) same
        go None true h = absurd (cc)
        go None false h = absurd (cc)

    pub trees_budget : extracting t n ≡ Err extract.Budget → instancing t n ≡ Err Budget
    trees_budget e = instances ∙ go cut_place (nat_lt n (size t)) (sym trees ∙ e)
      where
        go : (cut : Option ℕ) (b : Bool) → or_fault extract.Cut cut (if b then Err extract.Budget else Ok (extracted t)) ≡ Err extract.Budget → or_fault Cut cut (if b then Err Budget else Ok (items_of (extracted t))) ≡ Err Budget
        go (Some j) b h = absurd (cc)
        go None true h = refl
        go None false h = absurd (cc)

    pub trees_defined : (f : Formula) (side : Side) → extracting t n ≡ Err (extract.Defined f side) → ⊥
    trees_defined f side e = go cut_place (nat_lt n (size t)) (sym trees ∙ e)
      where
        go : (cut : Option ℕ) (b : Bool) → or_fault extract.Cut cut (if b then Err extract.Budget else Ok (extracted t)) ≡ Err (extract.Defined f side) → ⊥
        go (Some j) b h = cc
        go None true h = cc
        go None false h = cc
