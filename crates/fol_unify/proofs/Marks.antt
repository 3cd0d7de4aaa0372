-- Marks that are written.
use Rattle.std.proofs.Common.{◌≡◌, ℕ, zero, suc, ◌+◌, ◌<◌, ⊎_elim, List, [], ◌∷◌, length, get_or, refl, sym, ap, ◌∙◌, arith}
use Rattle.std.specs.Prelude.{Some, slice_get, slice_set}
use Rattle.std.proofs.lemmas.Bool.{cases_eq}
use Rattle.std.proofs.lemmas.Option.{slice_get_within, slice_get_read}
use Rattle.fol_unify.specs.declared.values.Mark.{Mark}
use Rattle.fol_unify.specs.declared.values.Mark.TheVariants.{New, Open, Done}
use Rattle.fol_unify.specs.Values.{IsOpen, is_new, news, MarksGrow}

module _ {X : Type 0} where
  pub get_written : (xs : List X) (r : ℕ) (x : X) → r < length xs → slice_get (slice_set xs r x) r ≡ Some x
  get_written [] r x below = absurd (omega arith)
  get_written (y ∷ xs) zero x below = refl
  get_written (y ∷ xs) (suc r) x below = get_written xs r x (omega arith)

  pub get_others : (xs : List X) (r : ℕ) (x : X) (q : ℕ) → (q ≡ r → ⊥) → slice_get (slice_set xs r x) q ≡ slice_get xs q
  get_others [] r x q apart = refl
  get_others (y ∷ xs) zero x zero apart = absurd (apart refl)
  get_others (y ∷ xs) zero x (suc q) apart = refl
  get_others (y ∷ xs) (suc r) x zero apart = refl
  get_others (y ∷ xs) (suc r) x (suc q) apart = get_others xs r x q (λ e. apart (ap suc e))

  -- what stands at a place after a write was written, or stood there
  pub get_after : (C : Type 0) (xs : List X) (r : ℕ) (x : X) (q : ℕ) (y : X) → r < length xs → slice_get (slice_set xs r x) q ≡ Some y → (q ≡ r → Some x ≡ Some y → C) → ((q ≡ r → ⊥) → slice_get xs q ≡ Some y → C) → C
  get_after C xs r x q y below e own others =
      ⊎_elim {C = C}
      (λ same. own same (sym (get_written xs r x below) ∙ ap (slice_get (slice_set xs r x)) (sym same) ∙ e))
      (λ apart. others apart (sym (get_others xs r x q apart) ∙ e))
      (cases_eq q r)

pub news_less : (ms : List Mark) (r : ℕ) → slice_get ms r ≡ Some New → news (slice_set ms r Open) + 1 ≡ news ms
news_less [] r e = absurd cc
news_less (m ∷ ms) zero e = let is : m ≡ New = cc in let one : is_new m ≡ 1 = ap is_new is in omega (arith, one)
news_less (m ∷ ms) (suc r) e = let rest = news_less ms r e in omega (arith, rest)

pub news_done : (ms : List Mark) (r v : ℕ) → slice_get ms r ≡ Some Open → news (slice_set ms r (Done v)) ≡ news ms
news_done [] r v e = absurd cc
news_done (m ∷ ms) zero v e = let is : m ≡ Open = cc in let none : is_new m ≡ 0 = ap is_new is in omega (arith, none)
news_done (m ∷ ms) (suc r) v e = let rest = news_done ms r v e in omega (arith, rest)

pub marks_same : (ms : List Mark) → MarksGrow ms ms
marks_same ms = record { done = λ r v h. h; stay_open = λ r h. h; were_open = λ r h. h; fewer = omega arith }

pub marks_on : (ms ns os : List Mark) → MarksGrow ms ns → MarksGrow ns os → MarksGrow ms os
marks_on ms ns os g h = record {
  done = λ r v d. h.done r v (g.done r v d);
  stay_open = λ r o. h.stay_open r (g.stay_open r o);
  were_open = λ r o. g.were_open r (h.were_open r o);
  fewer = omega (arith, g.fewer, h.fewer);
}

-- a class is opened, marks grow, and its value is noted
pub marks_noted : (ms ns : List Mark) (r v : ℕ) → slice_get ms r ≡ Some New → MarksGrow (slice_set ms r Open) ns → MarksGrow ms (slice_set ns r (Done v))
marks_noted ms ns r v new grown =
    let rb : r < length ms = slice_get_within ms r New new in
    let opened : IsOpen ns r = grown.stay_open r (get_written ms r Open rb) in
    let nb : r < length ns = slice_get_within ns r Open opened in
    let less = news_less ms r new in
    let same = news_done ns r v opened in
    record {
      done = λ q w d.
          let apart : q ≡ r → ⊥ = λ e. let both : Some New ≡ Some (Done w) = sym new ∙ ap (slice_get ms) (sym e) ∙ d in cc in
          get_others ns r (Done v) q apart ∙ grown.done q w (get_others ms r Open q apart ∙ d);
      stay_open = λ q o.
          let apart : q ≡ r → ⊥ = λ e. let both : Some New ≡ Some Open = sym new ∙ ap (slice_get ms) (sym e) ∙ o in cc in
          get_others ns r (Done v) q apart ∙ grown.stay_open q (get_others ms r Open q apart ∙ o);
      were_open = λ q o. get_after (IsOpen ms q) ns r (Done v) q Open nb o (λ _ e. absurd cc)
          (λ apart old. sym (get_others ms r Open q apart) ∙ grown.were_open q old);
      fewer = omega (arith, less, same, grown.fewer);
    }

pub read_mark : (ms : List Mark) (r : ℕ) (m k : Mark) → r < length ms → m ≡ get_or ms r m → m ≡ k → slice_get ms r ≡ Some k
read_mark ms r m k below read is = slice_get_read ms (length ms) r m refl below read ∙ ap Some is
