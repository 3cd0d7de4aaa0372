-- What an extraction comes to, by what was found so far: the faults are looked for in their order.
use Rattle.std.proofs.Common.{◌≡◌, ℕ, ◌≤◌, Bool, true, false, Option, Some, None, Result, Ok, Err, refl, sym, ap, ◌∙◌, arith}
use Rattle.std.specs.Prelude.{nat_lt, if◌then◌else◌}
use Rattle.std.specs.List.{position}
use Rattle.std.proofs.lemmas.Bool.Decides.{nat_tests}
use Rattle.proof_trees.specs.Trees.{Tree, concl, size, IsCutFree}
use Rattle.proof_trees.specs.Occurrence.{has_body_in_sequent}
use Rattle.step_laws.specs.Places.{steps_of, is_cut_step}
use Rattle.step_laws.specs.Faults.{Placed, first_defined, or_fault}
use Rattle.step_laws.proofs.CutPlaces.{no_first_cut}
use Rattle.step_laws.proofs.Found.{plain_found}
use Rattle.expansion_laws.specs.Dependency.{Expansion}
use Rattle.extraction_laws.specs.Extraction.{extracted}
use Rattle.extraction_laws.specs.declared.fault.ExtractFault.{ExtractFault}
use Rattle.extraction_laws.specs.declared.fault.ExtractFault.TheVariants.{Cut, Defined, Budget}
use Rattle.extraction_laws.specs.Extracting.{extracting}

within_budget : (n m : ℕ) → nat_lt n m ≡ false → m ≤ n
within_budget n m h = grind (arith, nat_tests)

abbrev defined_fault : Placed → ExtractFault
defined_fault p = Defined p.0 p.1

module _ (t : Tree) (n : ℕ) where
  abbrev cut_place : Option ℕ
  cut_place = position is_cut_step (steps_of t)

  abbrev definition : Option Placed
  definition = first_defined (concl t)

  abbrev sized : Bool → Result Expansion ExtractFault
  sized b = if b then Err Budget else Ok (extracted t)

  abbrev in_order : Option ℕ → Option Placed → Bool → Result Expansion ExtractFault
  in_order cut d b = or_fault Cut cut (or_fault defined_fault d (sized b))

  whole : extracting t n ≡ in_order cut_place definition (nat_lt n (size t))
  unfolding extracting
  whole = refl

  pub at_cut : (k : ℕ) → Some k ≡ cut_place → extracting t n ≡ Err (Cut k)
  at_cut k e = whole ∙ ap (λ o. in_order o definition (nat_lt n (size t))) (sym e)

  module _ (no_cut : cut_place ≡ None) where
    pub at_definition : (p : Placed) → Some p ≡ definition → extracting t n ≡ Err (Defined p.0 p.1)
    at_definition p e = whole ∙ (λ i. in_order (no_cut i) (sym e i) (nat_lt n (size t)))

    module _ (no_body : definition ≡ None) where
      pub at_budget : true ≡ nat_lt n (size t) → extracting t n ≡ Err Budget
      at_budget h = whole ∙ (λ i. in_order (no_cut i) (no_body i) (sym h i))

      pub within : false ≡ nat_lt n (size t) → extracting t n ≡ Ok (extracted t)
      within h = whole ∙ (λ i. in_order (no_cut i) (no_body i) (sym h i))

  -- what isn't refused has no fault
  pub record IsFaultless (x : Expansion) : Type 0 where
    pub no_cut : cut_place ≡ None
    pub no_body : definition ≡ None
    pub small : size t ≤ n
    pub is : x ≡ extracted t

  pub faultless : (x : Expansion) → extracting t n ≡ Ok x → IsFaultless x
  faultless x e = go cut_place definition (nat_lt n (size t)) refl refl refl (sym whole ∙ e)
    where
      go : (cut : Option ℕ) (d : Option Placed) (b : Bool) → cut_place ≡ cut → definition ≡ d → nat_lt n (size t) ≡ b → in_order cut d b ≡ Ok x → IsFaultless x
      go (Some k) d b c e f h = absurd (cc)
      go None (Some q) b c e f h = absurd (cc)
      go None None true c e f h = absurd (cc)
      go None None false c e f h = record { no_cut = c; no_body = e; small = within_budget n (size t) f; is = cc }

  module _ (x : Expansion) (answered : extracting t n ≡ Ok x) where
    here : IsFaultless x
    here = faultless x answered

    pub expansion : x ≡ extracted t
    expansion = here.is

    pub cut_free : IsCutFree t
    cut_free = (no_first_cut t None (sym here.no_cut)).0 refl

    pub bodies : has_body_in_sequent (concl t) ≡ false
    bodies = (plain_found (concl t)).0 here.no_body

    pub budget : size t ≤ n
    budget = here.small
