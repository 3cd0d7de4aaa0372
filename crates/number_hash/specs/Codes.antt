-- Whether two things are equal, by their codes as trees of numbers. Keys of tables are compared so, and hashed by their fingerprints.
use Rattle.std.specs.Prelude.{◌≡◌, ◌↔◌, ℕ, Bool, true, false, IsTrue, ◌&&◌, nat_eq, refl}
use Rattle.std.specs.Bool.{Decides, one_answer}
use Rattle.std.specs.Hash as fed
use Rattle.std.specs.Cmp.{IsEquivalence, decided, unsigned_Decides}
use Rattle.std.specs.Cmp.Derive.{both_true}
use Rattle.std.specs.Coded.{Coded}
use Rattle.std.proofs.Common.{ap}
use Rattle.std.proofs.lemmas.Bool.{and_parts}
use base.Stored.{Gv, gnil, gnum, gcons}

-- whether two trees of numbers are equal
abbrev pub same_code : Gv → Gv → Bool
same_code gnil gnil = true
same_code (gnum m) (gnum n) = nat_eq m n
same_code (gcons x y) (gcons u v) = same_code x u && same_code y v
same_code x y = false

-- whether two things have the same code
abbrev pub same_by : {A : Type 0} → Coded A → A → A → Bool
same_by c x y = same_code (c.code x) (c.code y)

same_codes : (x y : Gv) → Decides (same_code x y) (x ≡ y)
same_codes gnil gnil = (λ h. refl, λ e. refl)
same_codes gnil (gnum n) = (λ h. cc, λ e. cc)
same_codes gnil (gcons u v) = (λ h. cc, λ e. cc)
same_codes (gnum m) gnil = (λ h. cc, λ e. cc)
same_codes (gnum m) (gnum n) = (λ h. ap gnum ((unsigned_Decides m n).0 h), λ e. (unsigned_Decides m n).1 cc)
same_codes (gnum m) (gcons u v) = (λ h. cc, λ e. cc)
same_codes (gcons x y) gnil = (λ h. cc, λ e. cc)
same_codes (gcons x y) (gnum n) = (λ h. cc, λ e. cc)
same_codes (gcons x y) (gcons u v) = (
  λ h. let both = and_parts (same_code x u) (same_code y v) h in λ i. gcons ((same_codes x u).0 both.0 i) ((same_codes y v).0 both.1 i),
  λ e. let first : x ≡ u = cc in let second : y ≡ v = cc in both_true ((same_codes x u).1 first) ((same_codes y v).1 second),
)

module _ {A : Type 0} (c : Coded A) where
  -- two things have the same code just where they are equal
  pub same_by_decides : (x y : A) → Decides (same_by c x y) (x ≡ y)
  same_by_decides x y = (λ h. c.inj x y ((same_codes (c.code x) (c.code y)).0 h), λ e. (same_codes (c.code x) (c.code y)).1 (ap c.code e))

  pub same_by_equiv : IsEquivalence (same_by c)
  same_by_equiv = decided (same_by c) same_by_decides

  -- so any test of equality is it
  pub test_by : (b : Bool) (x y : A) → (IsTrue b ↔ (x ≡ y)) → b ≡ same_by c x y
  test_by b x y h = one_answer b (same_by c x y) (h.0, h.1) (same_by_decides x y)

  -- and equal things have equal fingerprints
  pub fingerprints_agree : (fingerprint : A → ℕ) (x y : A) → IsTrue (same_by c x y) → fed.u64 (fingerprint x) ≡ fed.u64 (fingerprint y)
  fingerprints_agree fingerprint x y h = ap (λ z. fed.u64 (fingerprint z)) ((same_by_decides x y).0 h)
