-- Distances along links, as they become known.
use Rattle.std.proofs.Common.{◌≡◌, ℕ, zero, suc, ◌+◌, ◌<◌, ◌≤◌, true, false, ◌&&◌, List, [], ◌∷◌, ◌++◌, take, drop, length, get_or, eqb, inl, inr, ⊎_elim, refl, sym, ap, ◌∙◌, subst, arith}
use Rattle.std.specs.Prelude.{if◌then◌else◌, ◌⊎◌}
use Rattle.std.proofs.lemmas.List.{append-nil, take_all, drop_all}
use Rattle.std.proofs.lemmas.Bool.{and_parts}
use Rattle.std.proofs.lemmas.List.Elements.{All-head, All-tail}
use Rattle.lk_rules.proofs.Subsequents.{and_left, and_right, and_both}
use Rattle.proof_trees.proofs.Booleans.{either, or_first, or_second}
use Rattle.search_laws.proofs.Tests.{split, fails, clash}
use Rattle.exp_check.specs.Links.{is_link, has_link, AreWithin}
use Rattle.exp_check.specs.Distances.{leads_to, is_step, reaches, spread_at, AreDistances, AreMeasured}
use Rattle.exp_check.specs.declared.links.Link.{Link}
use Rattle.expansion_laws.proofs.Found.{any_number, number_passes}
use Rattle.exp_check.proofs.RankLaws.{eqb_is, eqb_of}

-- a number is 0 or above one
pub either_number : {P : Type 0} (m : ℕ) → (m ≡ 0 → P) → ((k : ℕ) → m ≡ suc k → P) → P
either_number zero f g = f refl
either_number (suc k) f g = g k refl

one_or_none : {P : Type 0} (m : ℕ) → m ≡ 1 → m ≡ 0 → P
one_or_none m one none = absurd (omega arith)

-- a link that leads from i to a number at the distance
step_link : (ls : List Link) (ds : List ℕ) (n d i : ℕ) → AreWithin n ls → reaches ls ds d i ≡ true → (j : ℕ) × (j < n) × (has_link ls i j ≡ true) × (get_or ds j 0 ≡ d)
step_link [] ds n d i h e = cc
step_link (l ∷ ls) ds n d i h e =
    either (is_step ds d i l) (reaches ls ds d i)
    (λ here.
    let both = and_parts (eqb l.before i) (eqb (get_or ds l.after 0) d) here in (
      l.after,
      (All-head (λ (m : Link). (m.before < n) × (m.after < n)) l ls h).1,
      or_first (is_link i l.after l) (has_link ls i l.after) (and_both (eqb l.before i) (eqb l.after l.after) both.0 (eqb_of l.after l.after refl)),
      eqb_is (get_or ds l.after 0) d both.1,
    ))
    (λ later.
    let r = step_link ls ds n d i (All-tail (λ (m : Link). (m.before < n) × (m.after < n)) l ls h) later in
    (r.0, r.1, or_second (is_link i r.0 l) (has_link ls i r.0) r.2, r.3))
    e

-- and the converse
link_step : (ls : List Link) (ds : List ℕ) (d i j : ℕ) → has_link ls i j ≡ true → get_or ds j 0 ≡ d → reaches ls ds d i ≡ true
link_step [] ds d i j e at = cc
link_step (l ∷ ls) ds d i j e at =
    either (is_link i j l) (has_link ls i j)
    (λ here.
    let both = and_parts (eqb l.before i) (eqb l.after j) here in
    or_first (is_step ds d i l) (reaches ls ds d i)
    (and_both (eqb l.before i) (eqb (get_or ds l.after 0) d) both.0 (eqb_of (get_or ds l.after 0) d (ap (λ k. get_or ds k 0) (eqb_is l.after j both.1) ∙ at))))
    (λ later. or_second (is_step ds d i l) (reaches ls ds d i) (link_step ls ds d i j later at))
    e

module _ (ls : List Link) (n z : ℕ) where
  -- one link in front
  pub longer : (i j k : ℕ) → j < n → has_link ls i j ≡ true → leads_to ls n k j z ≡ true → leads_to ls n (suc k) i z ≡ true
  longer i j k within link e =
      number_passes (λ w. has_link ls i w && leads_to ls n k w z) 0 n j (omega arith) (omega arith) (and_both (has_link ls i j) (leads_to ls n k j z) link e)

  -- the first link
  first_link : (i k : ℕ) → leads_to ls n (suc k) i z ≡ true → (j : ℕ) × (j < n) × (has_link ls i j ≡ true) × (leads_to ls n k j z ≡ true)
  first_link i k e =
      let r = any_number (λ w. has_link ls i w && leads_to ls n k w z) 0 n e in
      (r.0, omega arith, and_left (has_link ls i r.0) (leads_to ls n k r.0 z) r.3, and_right (has_link ls i r.0) (leads_to ls n k r.0 z) r.3)

  -- the distances of those from which a link leads to z
  pub first_known : (ds : List ℕ) → ((i : ℕ) → get_or ds i 0 ≡ (if has_link ls i z then 1 else 0)) → AreDistances ls n z 1 ds
  first_known ds values = record {
    known = λ i m within e.
        elim (has_link ls i z) as (λ b. has_link ls i z ≡ b → (if b then 1 else 0) ≡ suc m → (m < 1) × (leads_to ls n m i z ≡ true) × ((k : ℕ) → k < m → leads_to ls n k i z ≡ false)) [
          | true ↦ λ h (is : 1 ≡ suc m). let none : m ≡ 0 = omega arith in (omega arith, subst (λ k. leads_to ls n k i z ≡ true) (sym none) h, λ k less. absurd (omega arith))
          | false ↦ λ h (is : 0 ≡ suc m). absurd (omega arith)
        ] refl (sym (values i) ∙ e);
    unknown = λ i k within e less.
        split (has_link ls i z)
        (λ link. one_or_none (get_or ds i 0) (values i ∙ ap (λ b. if b then 1 else 0) link) e)
        (λ no_link. let none : k ≡ 0 = omega arith in subst (λ q. leads_to ls n q i z ≡ false) (sym none) no_link);
  }

  module _ (r : ℕ) (ds : List ℕ) (h : AreDistances ls n z r ds) where
    -- where a link leads to a number that leads on, by fewer than are known, the distance is known
    passes_on : (i j k : ℕ) → i < n → j < n → has_link ls i j ≡ true → leads_to ls n k j z ≡ true → suc k < r → get_or ds i 0 ≡ 0 → ⊥
    passes_on i j k in_i in_j link e less none = clash (leads_to ls n (suc k) i z) (longer i j k in_j link e) (h.unknown i (suc k) in_i none less)

    -- what leads by fewer than are known has a distance that is no more
    pub within_known : (i k : ℕ) → i < n → k < r → leads_to ls n k i z ≡ true → (m : ℕ) × (get_or ds i 0 ≡ suc m) × (m ≤ k)
    within_known i k in_i less e =
        either_number (get_or ds i 0)
        (λ none. absurd (clash (leads_to ls n k i z) e (h.unknown i k in_i none less)))
        (λ m is.
        let exact = h.known i m in_i is in
        let not_less : (k < m) → ⊥ = λ lower. clash (leads_to ls n k i z) e (exact.2 k lower) in
        (m, is, omega (arith, not_less)))

    module _ (within : AreWithin n ls) (first : 1 ≤ r) (more : List ℕ) (values : (i : ℕ) → get_or more i 0 ≡ spread_at ls ds r i) where
      -- a number that is reached in the next step
      newly : (i m : ℕ) → i < n → get_or ds i 0 ≡ 0 → reaches ls ds r i ≡ true → suc m ≡ r + 1 → (m < r + 1) × (leads_to ls n m i z ≡ true) × ((k : ℕ) → k < m → leads_to ls n k i z ≡ false)
      newly i m in_i none reached is =
          let to = step_link ls ds n r i within reached in
          either_number r (λ zero. absurd (omega arith))
          (λ q r_is.
          let exact = h.known to.0 q to.1 (to.3 ∙ r_is) in
          let m_is : suc q ≡ m = omega arith in (
            omega arith,
            subst (λ k. leads_to ls n k i z ≡ true) m_is (longer i to.0 q to.1 to.2 exact.1),
            λ k less. h.unknown i k in_i none (omega arith),
          ))

      -- a number that isn't leads by no so few
      unreached : (i k : ℕ) → i < n → get_or ds i 0 ≡ 0 → reaches ls ds r i ≡ false → k ≡ r → leads_to ls n k i z ≡ true → ⊥
      unreached i zero in_i none missed is e = absurd (omega arith)
      unreached i (suc k) in_i none missed is e =
          let to = first_link i k e in
          let own = within_known to.0 k to.1 (omega arith) to.3 in
          let not_less : (own.0 < k) → ⊥ = λ lower. passes_on i to.0 own.0 in_i to.1 to.2 (h.known to.0 own.0 to.1 own.1).1 (omega arith) none in
          let same : suc own.0 ≡ r = omega (arith, not_less) in
          clash (reaches ls ds r i) (link_step ls ds r i to.0 to.2 (own.1 ∙ same)) missed

      unleading : (i k : ℕ) → i < n → get_or ds i 0 ≡ 0 → reaches ls ds r i ≡ false → k < r + 1 → leads_to ls n k i z ≡ true → ⊥
      unleading i k in_i none missed less e =
          let not_less : (k < r) → ⊥ = λ lower. clash (leads_to ls n k i z) e (h.unknown i k in_i none lower) in
          unreached i k in_i none missed (omega (arith, not_less)) e

      abbrev Reached : ℕ → Type 0
      Reached i = (get_or ds i 0 ≡ 0) × (reaches ls ds r i ≡ true) × (get_or more i 0 ≡ r + 1)

      abbrev Kept : ℕ → Type 0
      Kept i = (get_or more i 0 ≡ get_or ds i 0) × (get_or ds i 0 ≡ 0 → reaches ls ds r i ≡ false)

      reached_or_kept : (i : ℕ) → Reached i ⊎ Kept i
      reached_or_kept i =
          split (eqb (get_or ds i 0) 0 && reaches ls ds r i)
          (λ t.
          inl (
            eqb_is (get_or ds i 0) 0 (and_left (eqb (get_or ds i 0) 0) (reaches ls ds r i) t),
            and_right (eqb (get_or ds i 0) 0) (reaches ls ds r i) t,
            values i ∙ ap (λ b. if b then r + 1 else get_or ds i 0) t,
          ))
          (λ f.
          inr (
            values i ∙ ap (λ b. if b then r + 1 else get_or ds i 0) f,
            λ none. sym (ap (λ b. b && reaches ls ds r i) (eqb_of (get_or ds i 0) 0 none)) ∙ f,
          ))

      older : (i m : ℕ) → i < n → get_or ds i 0 ≡ suc m → (m < r + 1) × (leads_to ls n m i z ≡ true) × ((k : ℕ) → k < m → leads_to ls n k i z ≡ false)
      older i m in_i is = let exact = h.known i m in_i is in (omega (arith, exact.0), exact.1, exact.2)

      -- the distances after one more step
      pub more_known : AreDistances ls n z (r + 1) more
      more_known = record {
        known = λ i m in_i e.
            ⊎_elim
            (λ (t : Reached i). newly i m in_i t.0 t.1 (sym e ∙ t.2))
            (λ (s : Kept i). older i m in_i (sym s.0 ∙ e))
            (reached_or_kept i);
        unknown = λ i k in_i e less.
            ⊎_elim
            (λ (t : Reached i). let is : r + 1 ≡ 0 = sym t.2 ∙ e in let no : leads_to ls n k i z ≡ false = absurd (omega arith) in no)
            (λ (s : Kept i). let none : get_or ds i 0 ≡ 0 = sym s.0 ∙ e in fails (leads_to ls n k i z) (λ l. absurd (unleading i k in_i none (s.1 none) less l)))
            (reached_or_kept i);
      }

      -- where that finds none, none leads to z but those that are known
      pub all_known : ((i : ℕ) → get_or more i 0 ≡ get_or ds i 0) → (k i : ℕ) → i < n → get_or ds i 0 ≡ 0 → leads_to ls n k i z ≡ false
      all_known same zero i in_i none = h.unknown i 0 in_i none (omega arith)
      all_known same (suc k) i in_i none =
          fails (leads_to ls n (suc k) i z)
          (λ e.
          let to = first_link i k e in
          either_number (get_or ds to.0 0)
          (λ none_there. absurd (clash (leads_to ls n k to.0 z) to.3 (all_known same k to.0 to.1 none_there)))
          (λ m is.
          let exact = h.known to.0 m to.1 is in
          absurd (clash (leads_to ls n (suc m) i z) (longer i to.0 m to.1 to.2 exact.1) (more_known.unknown i (suc m) in_i (same i ∙ none) (omega (arith, exact.0))))))

    -- where nothing more is found
    pub measured_all : AreWithin n ls → 1 ≤ r → r ≤ n → length ds ≡ n → z < n → (more : List ℕ) → ((i : ℕ) → get_or more i 0 ≡ spread_at ls ds r i) → ((i : ℕ) → get_or more i 0 ≡ get_or ds i 0) → length more ≡ n
        → AreMeasured ls n z more
    measured_all within first few count in_z more values same long = record {
      count = long;
      rounds = r;
      few = few;
      distances = record {
        known = λ i m in_i e. h.known i m in_i (sym (same i) ∙ e);
        unknown = λ i k in_i e. h.unknown i k in_i (sym (same i) ∙ e);
      };
      none = λ e k less. all_known within first more values same k z in_z (sym (same z) ∙ e);
    }

    -- where the distance of z is found
    pub measured_found : r ≤ n → length ds ≡ n → (get_or ds z 0 ≡ 0 → ⊥) → AreMeasured ls n z ds
    measured_found few count found = record { count = count; rounds = r; few = few; distances = h; none = λ e k less. absurd (found e) }

    -- after all steps
    pub measured_last : n ≤ r → r ≤ n → length ds ≡ n → z < n → AreMeasured ls n z ds
    measured_last last few count in_z = record { count = count; rounds = r; few = few; distances = h; none = λ e k less. h.unknown z k in_z e (omega arith) }

-- a slice that is written back whole
pub written_back : (xs ys : List ℕ) (k : ℕ) → length xs ≡ length ys → k ≡ length ys → take k (xs ++ drop (length xs) ys) ≡ xs
written_back xs ys k same is =
    ap (λ e. take k (xs ++ e)) (drop_all (length xs) ys (omega arith)) ∙ ap (take k) (append-nil xs) ∙ take_all k xs (omega arith)
