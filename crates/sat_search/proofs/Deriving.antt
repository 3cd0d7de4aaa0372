-- One more step: what was derived before still is, and so is its clause. A step whose clause is empty ends a refutation. A clause may be
-- left out of a table.
use Rattle.std.proofs.Common.{◌≡◌, ℕ, ◌+◌, List, [], ◌∷◌, ◌++◌, length, take, set, Option, None, length-append, add-one, refl, sym, ap, ◌∙◌}
use Rattle.std.proofs.lemmas.List.Elements.{All-set}
use Rattle.std.specs.Prelude.{Some, slice_get, Ok, IfSome}
use Rattle.std.specs.Result.{result_unwrap_or}
use Rattle.lk_rules.specs.declared.sequent.Sequent.{Sequent}
use Rattle.lk_rules.specs.Sequents.{empty}
use Rattle.ground_laws.specs.declared.step.SatStep.{SatStep}
use Rattle.ground_laws.specs.declared.step.SatStep.TheVariants.{Input}
use Rattle.ground_laws.specs.Steps.{derives, derives_all, IsRefutation}
use Rattle.ground_laws.proofs.Derived.{kept_front, at_end, known_step, cut}
use Rattle.sat_search.specs.declared.refuting.Derived.{Derived}
use Rattle.sat_search.specs.Derived.{conclusions, known, IsSound, IsDerived, AreDerived, Derives}

module _ (cs : List Sequent) where
  pub nothing_yet : IsSound cs []
  unfolding conclusions
  nothing_yet = record { known = refl; many = refl }

  -- for example, a step derives the clause that it names
  pub conclusions-input : (c : Sequent) → conclusions (c ∷ []) (Input 0 ∷ []) ≡ c ∷ []
  unfolding conclusions
  conclusions-input c = refl

  conclusions-more : (steps : List SatStep) (step : SatStep) (c : Sequent) → IsSound cs steps → derives cs (conclusions cs steps) step ≡ Ok c
      → derives_all cs [] 0 (steps ++ step ∷ []) ≡ Ok (conclusions cs steps ++ c ∷ [])
  conclusions-more steps step c sound gives = known_step cs (known cs steps) step c sound.known gives

  pub one_more : (steps : List SatStep) (step : SatStep) (d : Derived) → IsSound cs steps → d.step ≡ length steps → derives cs (conclusions cs steps) step ≡ Ok d.clause
      → Derives cs steps (steps ++ step ∷ []) d
  unfolding conclusions
  one_more steps step d sound here gives =
      let more = conclusions-more steps step d.clause sound gives in
      let are : conclusions cs (steps ++ step ∷ []) ≡ conclusions cs steps ++ d.clause ∷ [] = ap (λ r. result_unwrap_or r []) more in
      record {
        sound = record {
          known = more ∙ ap Ok (sym are);
          many = ap length are ∙ length-append (conclusions cs steps) (d.clause ∷ []) ∙ ap (λ n. n + 1) sound.many ∙ sym (length-append steps (step ∷ []));
        };
        keeps = λ e at. ap (λ es. slice_get es e.step) are ∙ kept_front (conclusions cs steps) (d.clause ∷ []) e.step e.clause at;
        is = ap (λ es. slice_get es d.step) are ∙ ap (slice_get (conclusions cs steps ++ d.clause ∷ [])) (here ∙ sym sound.many) ∙ at_end (conclusions cs steps) d.clause [];
      }

  pub last_empty : (steps : List SatStep) (d : Derived) → IsSound cs steps → IsDerived cs steps d → d.clause ≡ empty → IsRefutation cs (take (d.step + 1) steps)
  last_empty steps d sound at is = rw add-one (cut cs (known cs steps) d.step sound.known (at ∙ ap Some is))

  -- the table without a clause
  pub released : (steps : List SatStep) (ds : List (Option Derived)) (i : ℕ) → AreDerived cs steps ds → AreDerived cs steps (set ds i None)
  released steps ds i all = All-set (λ d. IfSome d (IsDerived cs steps)) ds i None tt all
