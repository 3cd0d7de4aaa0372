-- What a text is without a suffix.
use Rattle.std.proofs.Common.{◌≡◌, ℕ, ◌-◌, Bool, true, false, cond, List, ◌++◌, length, take, drop, Bor, refl, sym, ap, ◌∙◌, arith, length-append}
use Rattle.std.specs.Prelude.{Option, Some, None, MatchOption, option_map}
use Rattle.std.specs.Str.{bytes_eq}
use Rattle.std.specs.Str.Pattern.{FindsTextSuffix, StripsSuffix}
use Rattle.std.proofs.lemmas.List.{drop_at, take-append-drop}
use Rattle.std.proofs.lemmas.Slice.Eq.{bytes_eq-Decides}
use Rattle.operation_laws.specs.Given.{without}

module _ (suffix text : List ℕ) where
  abbrev front : List ℕ
  front = take (length text - length suffix) text

  abbrev back : List ℕ
  back = drop (length text - length suffix) text

  ends_so : back ≡ suffix → text ≡ front ++ suffix
  ends_so same = sym (take-append-drop (length text - length suffix) text) ∙ ap (λ (ys : List ℕ). front ++ ys) same

  back_is : (xs : List ℕ) → text ≡ xs ++ suffix → back ≡ suffix
  back_is xs is =
      ap (λ (ys : List ℕ). drop (length text - length suffix) ys) is
      ∙ drop_at xs suffix (length text - length suffix) (omega (arith, ap length is, length-append xs suffix))

  none_by : (b : Bool) → bytes_eq back suffix ≡ b → ((xs : List ℕ) → text ≡ xs ++ suffix → ⊥) → cond b (Some front) None ≡ None
  none_by true same none = absurd (none front (ends_so ((bytes_eq-Decides back suffix).0 same)))
  none_by false differ none = refl

  pub stripped : (r : Option (Bor (List ℕ))) → MatchOption r (FindsTextSuffix suffix text None) (λ x. StripsSuffix (FindsTextSuffix suffix) text x.now)
      → option_map (λ (name : Bor (List ℕ)). name.now) r ≡ without suffix text
  stripped None none = sym (none_by (bytes_eq back suffix) refl none)
  stripped (Some x) strips =
      ap Some (strips.2 ∙ ap (λ (k : ℕ). take (length text - k) text) strips.1.0)
      ∙ sym (ap (λ (b : Bool). cond b (Some front) None) ((bytes_eq-Decides back suffix).1 (back_is (take (length text - strips.0) text) strips.1.1)))
