-- What an interpolation comes to, by what was found so far: the faults are looked for in their order.
use Rattle.std.proofs.Common.{◌≡◌, ℕ, ◌≤◌, Bool, true, false, Option, Some, None, Result, Ok, Err, refl, sym, ap, ◌∙◌, arith}
use Rattle.std.specs.Prelude.{nat_lt, if◌then◌else◌}
use Rattle.std.specs.List.{position}
use Rattle.std.proofs.lemmas.Bool.Decides.{nat_tests}
use Rattle.lk_rules.specs.declared.sequent.Sequent.{Sequent}
use Rattle.lk_rules.specs.Sequents.{union_sequent}
use Rattle.proof_trees.specs.Trees.{Tree, concl, size}
use Rattle.step_laws.specs.Places.{steps_of, is_cut_step}
use Rattle.step_laws.specs.Faults.{Placed, first_defined, or_fault}
use Rattle.interp_laws.specs.Interpolation.{Interpolation, itp}
use Rattle.interp_laws.specs.declared.fault.InterpFault.{InterpFault}
use Rattle.interp_laws.specs.declared.fault.InterpFault.TheVariants.{Cut, Defined, Partition, Budget}
use Rattle.interp_laws.specs.Interpolating.{first_difference, interpolating}

within_budget : (n m : ℕ) → nat_lt n m ≡ false → m ≤ n
within_budget n m h = grind (arith, nat_tests)

abbrev defined_fault : Placed → InterpFault
defined_fault p = Defined p.0 p.1

abbrev partition_fault : Placed → InterpFault
partition_fault p = Partition p.0 p.1

module _ (t : Tree) (one two : Sequent) (n : ℕ) where
  abbrev cut_place : Option ℕ
  cut_place = position is_cut_step (steps_of t)

  abbrev definition : Option Placed
  definition = first_defined (concl t)

  abbrev difference : Option Placed
  difference = first_difference (union_sequent one two) (concl t)

  abbrev sized : Bool → Result Interpolation InterpFault
  sized b = if b then Err Budget else Ok (itp t one two)

  abbrev in_order : Option ℕ → Option Placed → Option Placed → Bool → Result Interpolation InterpFault
  in_order cut d p b = or_fault Cut cut (or_fault defined_fault d (or_fault partition_fault p (sized b)))

  whole : interpolating t one two n ≡ in_order cut_place definition difference (nat_lt n (size t))
  unfolding interpolating
  whole = refl

  pub at_cut : (k : ℕ) → Some k ≡ cut_place → interpolating t one two n ≡ Err (Cut k)
  at_cut k e = whole ∙ ap (λ o. in_order o definition difference (nat_lt n (size t))) (sym e)

  module _ (no_cut : None ≡ cut_place) where
    pub at_definition : (p : Placed) → Some p ≡ definition → interpolating t one two n ≡ Err (Defined p.0 p.1)
    at_definition p e = whole ∙ (λ i. in_order (sym no_cut i) (sym e i) difference (nat_lt n (size t)))

    module _ (no_body : None ≡ definition) where
      pub at_difference : (p : Placed) → Some p ≡ difference → interpolating t one two n ≡ Err (Partition p.0 p.1)
      at_difference p e = whole ∙ (λ i. in_order (sym no_cut i) (sym no_body i) (sym e i) (nat_lt n (size t)))

      module _ (same : None ≡ difference) where
        pub at_budget : true ≡ nat_lt n (size t) → interpolating t one two n ≡ Err Budget
        at_budget e = whole ∙ (λ i. in_order (sym no_cut i) (sym no_body i) (sym same i) (sym e i))

        pub within : false ≡ nat_lt n (size t) → interpolating t one two n ≡ Ok (itp t one two)
        within e = whole ∙ (λ i. in_order (sym no_cut i) (sym no_body i) (sym same i) (sym e i))

  -- what isn't refused has no fault
  pub record IsFaultless (i : Interpolation) : Type 0 where
    pub no_cut : cut_place ≡ None
    pub no_body : definition ≡ None
    pub same : difference ≡ None
    pub small : size t ≤ n
    pub is : i ≡ itp t one two

  pub faultless : (i : Interpolation) → interpolating t one two n ≡ Ok i → IsFaultless i
  faultless i e = go cut_place definition difference (nat_lt n (size t)) refl refl refl refl (sym whole ∙ e)
    where
      go : (cut : Option ℕ) (d p : Option Placed) (b : Bool) → cut_place ≡ cut → definition ≡ d → difference ≡ p → nat_lt n (size t) ≡ b → in_order cut d p b ≡ Ok i → IsFaultless i
      go (Some k) d p b c e f g h = absurd (cc)
      go None (Some q) p b c e f g h = absurd (cc)
      go None None (Some q) b c e f g h = absurd (cc)
      go None None None true c e f g h = absurd (cc)
      go None None None false c e f g h = record { no_cut = c; no_body = e; same = f; small = within_budget n (size t) g; is = cc }
