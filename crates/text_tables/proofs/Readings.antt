-- What is looked up among the texts that were read is the reading, and remains so when one more is kept.
use Rattle.std.proofs.Common.{◌≡◌, ℕ, List, Bool, true, false, cond, Option, Some, None, IfSome, Result, Ok, Err, OnOk, OnErr, Bor, string_bytes, refl, sym, ap, ◌∙◌, subst}
use Rattle.std.specs.Option.{option_copied}
use Rattle.std.specs.HashMap as hash
use Rattle.std.specs.HashMap.{HashMap}
use Rattle.std.specs.Map.{lookup}
use Rattle.std.specs.Str.{bytes_eq}
use Rattle.std.specs.String.{string_eq}
use Rattle.std.specs.declared.string.String.{String}
use Rattle.std.proofs.lemmas.Map.Text.{hash_map_updates_text}
use Rattle.std.proofs.lemmas.Slice.Eq.{bytes_eq-Decides}
use Rattle.fol.specs.Syntax.{Formula}
use Rattle.tptp_tokens.specs.declared.tokens.TextFault.{TextFault}
use Rattle.tptp_read.specs.Texts.{formula_reading}
use Rattle.text_tables.specs.Entries.{AreReadings}

pub one_reading : (r : Result Formula TextFault) (f g : Formula) → r ≡ Ok f → r ≡ Ok g → f ≡ g
one_reading r f g is too = cc

pub one_fault : (r : Result Formula TextFault) (d e : TextFault) → r ≡ Err d → r ≡ Err e → d ≡ e
one_fault r d e is too = cc

module _ {Y S : Type 0} (m : HashMap (String Y) Formula S) (known : AreReadings m) where
  pub found : (text : List ℕ) (r : Option (Bor Formula)) → option_copied r ≡ hash.get_by_text m text → IfSome r (λ f. formula_reading text ≡ Ok f.now)
  found text None is = tt
  found text (Some f) is = known.given text f.now (sym is)

  -- what is found by a text after another was kept: the same formula as before, or the new one
  more : (key : List ℕ) (f : Formula) (text : List ℕ) (g : Formula) (b : Bool) → bytes_eq key text ≡ b → formula_reading key ≡ Ok f
      → cond b (Some f) (hash.get_by_text m text) ≡ Some g → formula_reading text ≡ Ok g
  more key f text g true same reading is =
      let key_is : key ≡ text = (bytes_eq-Decides key text).0 same in
      let f_is : f ≡ g = cc in
      subst (λ (bytes : List ℕ). formula_reading bytes ≡ Ok g) key_is (reading ∙ ap Ok f_is)
  more key f text g false other reading is = known.given text g is

  pub kept : (n : HashMap (String Y) Formula S) {A E : Type 0} (r : Result A E) (key : String Y) (f : Formula) → formula_reading (string_bytes key) ≡ Ok f
      → OnOk r (hash.Updates string_eq m n key (Some f)) → OnErr r (hash.IsUnchanged m n) → AreReadings n
  kept n (Ok old) key f reading updates unchanged = record {
    given = λ text g is. more (string_bytes key) f text g (bytes_eq (string_bytes key) text) refl reading (sym (hash_map_updates_text (string_bytes key) m n (Some f) updates text) ∙ is);
  }
  kept n (Err e) key f reading updates unchanged = record {
    given = λ text g is. known.given text g (ap (λ (entries : List (String Y × Formula)). lookup (λ k. bytes_eq text (string_bytes k)) entries) (sym unchanged) ∙ is);
  }
