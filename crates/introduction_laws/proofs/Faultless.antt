-- Instances that aren't refused.
use Rattle.std.proofs.Common.{◌≡◌, ℕ, ◌≤◌, Bool, true, false, arith, List, Option, Some, None, Result, Ok, Err, refl, sym, subst, ◌∙◌, if◌then◌else◌}
use Rattle.std.specs.Prelude.{nat_lt}
use Rattle.std.specs.List.{position}
use Rattle.std.proofs.lemmas.Bool.Decides.{nat_tests}
use Rattle.proof_trees.specs.Trees.{Tree, concl, size, IsValid, IsCutFree}
use Rattle.step_laws.specs.Places.{steps_of, is_cut_step}
use Rattle.step_laws.specs.Faults.{Placed, or_fault}
use Rattle.step_laws.proofs.CutPlaces.{no_first_cut}
use Rattle.search_laws.specs.Truth.{IsPropositional, IsTautology}
use Rattle.expansion_laws.specs.Proofs.{IsExpansionProof}
use Rattle.extraction_laws.specs.Extraction.{extracted}
use Rattle.extraction_laws.proofs.Extracted.{expansion_proof}
use Rattle.herbrand_laws.specs.Herbrand.{Item, items_of, IsPrenex, herbrand_sequent}
use Rattle.herbrand_laws.proofs.Herbrand.{prenex_without_bodies, herbrand_tautology, herbrand_plain}
use Rattle.introduction_laws.specs.declared.fault.HerbrandFault.{HerbrandFault}
use Rattle.introduction_laws.specs.declared.fault.HerbrandFault.TheVariants.{Cut, NotPrenex, Budget}
use Rattle.introduction_laws.specs.Instancing.{first_not_prenex, instancing}
use Rattle.introduction_laws.proofs.Prenexes.{prenex_of}

small_enough : (n m : ℕ) → nat_lt n m ≡ false → m ≤ n
small_enough n m h = grind (arith, nat_tests)

module _ (t : Tree) (n : ℕ) where
  abbrev cut_place : Option ℕ
  cut_place = position is_cut_step (steps_of t)

  abbrev in_order : Option ℕ → Option Placed → Bool → Result (List Item) HerbrandFault
  in_order cut p b = or_fault Cut cut (or_fault (λ (q : Placed). NotPrenex q.0 q.1) p (if b then Err Budget else Ok (items_of (extracted t))))

  by_parts : instancing t n ≡ in_order cut_place (first_not_prenex (concl t)) (nat_lt n (size t))
  unfolding instancing
  by_parts = refl

  -- what isn't refused has no fault
  pub record IsFaultless (items : List Item) : Type 0 where
    pub no_cut : cut_place ≡ None
    pub prenex : first_not_prenex (concl t) ≡ None
    pub small : size t ≤ n
    pub is : items ≡ items_of (extracted t)

  pub faultless : (items : List Item) → instancing t n ≡ Ok items → IsFaultless items
  faultless items e = go cut_place (first_not_prenex (concl t)) (nat_lt n (size t)) refl refl refl (sym by_parts ∙ e)
    where
      go : (cut : Option ℕ) (p : Option Placed) (b : Bool) → cut_place ≡ cut → first_not_prenex (concl t) ≡ p → nat_lt n (size t) ≡ b → in_order cut p b ≡ Ok items → IsFaultless items
      go (Some k) p b c e f h = absurd (cc)
      go None (Some q) b c e f h = absurd (cc)
      go None None true c e f h = absurd (cc)
      go None None false c e f h = record { no_cut = c; prenex = e; small = small_enough n (size t) f; is = cc }

  module _ (items : List Item) (answered : instancing t n ≡ Ok items) where
    here : IsFaultless items
    here = faultless items answered

    pub instances : items ≡ items_of (extracted t)
    instances = here.is

    pub cut_free : IsCutFree t
    cut_free = (no_first_cut t None (sym here.no_cut)).0 refl

    pub prenex : IsPrenex (concl t)
    prenex = prenex_of (concl t) here.prenex

    pub budget : size t ≤ n
    budget = here.small

    pub expands : IsValid t → IsExpansionProof (extracted t) (concl t)
    expands valid = expansion_proof t valid cut_free (prenex_without_bodies (concl t) prenex)

    pub tautology : IsValid t → IsTautology (herbrand_sequent items)
    tautology valid = subst (λ is. IsTautology (herbrand_sequent is)) (sym here.is) (herbrand_tautology (extracted t) (concl t) (expands valid) prenex)

    pub propositional : IsValid t → IsPropositional (herbrand_sequent items)
    propositional valid = subst (λ is. IsPropositional (herbrand_sequent is)) (sym here.is) (herbrand_plain (extracted t) (concl t) (expands valid) prenex)
