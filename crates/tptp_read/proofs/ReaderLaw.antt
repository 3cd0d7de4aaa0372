-- The law of readers: a reader that is sound and complete, and can complete what it has begun, refuses a token exactly where no text goes
-- on with it.
use Rattle.std.proofs.Common.{◌≡◌, ℕ, ◌+◌, ◌≤◌, Bool, true, false, leb, if◌then◌else◌, List, [], ◌∷◌, ◌++◌, ◌⊎◌, inl, inr, Option, Some, None, option_and_then, Result, Ok, Err, refl, sym, ◌∙◌, ap, subst, arith}
use Rattle.std.proofs.lemmas.Bool.{leb-true, le-leb}
use Rattle.tptp_tokens.specs.declared.tokens.Token.{Token}
use Rattle.tptp_tokens.specs.declared.tokens.Token.TheVariants.{Comma}
use Rattle.tptp_tokens.specs.declared.tokens.TextKind.{TextKind}
use Rattle.tptp_tokens.specs.declared.tokens.TextKind.TheVariants.{Expected, Deep}
use Rattle.tptp_read.specs.declared.state.Limits.{Limits}
use Rattle.tptp_read.specs.Reader.{Limit, levels, operators, variables, Move, refused, goes, limited, Reader, bound_by, checked, ◌>>=◌, led, IsFrontIn, IsAnyFrontIn, IsCleanIn, IsNoComma, BecauseIn}

-- two steps that both succeed
pub then_ok : {A B E : Type 0} (x : Result A E) (f : A → Result B E) (y : B) → (x >>= f) ≡ Ok y → (z : A) × ((x ≡ Ok z) × (f z ≡ Ok y))
then_ok (Ok z) f y is = (z, (refl, is))
then_ok (Err e) f y is = cc

-- where a move leads, whatever the limits; and whether it is within them
abbrev pub lead : {S : Type 0} → Move S → Option S
lead refused = None
lead (goes s) = Some s
lead (limited x n s) = Some s

abbrev pub Fits : {S : Type 0} → Limits → Move S → Type 0
Fits lim (limited x n s) = n ≤ bound_by lim x
Fits lim m = Unit {0}

pub checked_ok : {S : Type 0} (lim : Limits) (m : Move S) (s : S) → checked lim m ≡ Ok s → (lead m ≡ Some s) × Fits lim m
checked_ok lim refused s e = cc
checked_ok lim (goes r) s e = (cc, tt)
checked_ok lim (limited x n r) s e =
    elim (leb n (bound_by lim x)) as (λ (b : Bool). leb n (bound_by lim x) ≡ b → (if b then Ok r else Err Deep) ≡ Ok s → (Some r ≡ Some s) × (n ≤ bound_by lim x)) [
      | true ↦ λ test made. (cc, leb-true _ _ test)
      | false ↦ λ test made. cc
    ] refl e

pub ok_checked : {S : Type 0} (lim : Limits) (m : Move S) (s : S) → lead m ≡ Some s → Fits lim m → checked lim m ≡ Ok s
ok_checked lim refused s e fits = cc
ok_checked lim (goes r) s e fits = cc
ok_checked {S = S} lim (limited x n r) s e fits = let same : r ≡ s = cc in ap (λ (b : Bool). if b then Ok r else Err Deep) (le-leb n (bound_by lim x) fits) ∙ ap (λ (z : S). Ok z) same

-- wider limits
abbrev pub IsWider : Limits → Limits → Type 0
IsWider lim wide = (x : Limit) → bound_by lim x ≤ bound_by wide x

abbrev pub wider : Limits → ℕ → Limits
wider lim n = record { levels = lim.levels + n; operators = lim.operators + n; variables = lim.variables + n }

wider_by : (lim : Limits) (m n : ℕ) → m ≤ n → IsWider (wider lim m) (wider lim n)
wider_by lim m n le levels = omega arith
wider_by lim m n le operators = omega arith
wider_by lim m n le variables = omega arith

pub is_wider : (lim : Limits) (n : ℕ) → IsWider lim (wider lim n)
is_wider lim n levels = omega arith
is_wider lim n operators = omega arith
is_wider lim n variables = omega arith

fits_wider : {S : Type 0} (lim wide : Limits) (m : Move S) → IsWider lim wide → Fits lim m → Fits wide m
fits_wider lim wide refused h fits = tt
fits_wider lim wide (goes s) h fits = tt
fits_wider lim wide (limited x n s) h fits = let below : n ≤ bound_by lim x = fits in omega (arith, h x)

-- how far limits must be widened for a move
room_for : {S : Type 0} (lim : Limits) (m : Move S) → (n : ℕ) × Fits (wider lim n) m
room_for lim refused = (0, tt)
room_for lim (goes s) = (0, tt)
room_for lim (limited levels n s) = (n, omega arith)
room_for lim (limited operators n s) = (n, omega arith)
room_for lim (limited variables n s) = (n, omega arith)

-- whether a move is within all limits
abbrev pub IsFree : {S : Type 0} → Move S → Type 0
IsFree (limited x n s) = ⊥
IsFree m = Unit {0}

free_fits : {S : Type 0} (lim : Limits) (m : Move S) → IsFree m → Fits lim m
free_fits lim refused h = tt
free_fits lim (goes s) h = tt
free_fits lim (limited x n s) h = absurd h

-- lists by their last member
data Last {A : Type 0} : List A → Type 0 where
  empty : Last []
  last : (xs : List A) (x : A) → Last (xs ++ x ∷ [])

by_last : {A : Type 0} (xs : List A) → Last xs
by_last [] = empty
by_last {A = A} (x ∷ xs) = elim (by_last xs) as (λ (ys : List A) (l : Last ys). Last (x ∷ ys)) [ empty ↦ last [] x | last ys y ↦ last (x ∷ ys) y ]

same_last : {A : Type 0} (xs ys : List A) (x y : A) → xs ++ x ∷ [] ≡ ys ++ y ∷ [] → x ≡ y
same_last [] [] x y is = cc
same_last [] (z ∷ []) x y is = cc
same_last [] (z ∷ w ∷ ys) x y is = cc
same_last (z ∷ []) [] x y is = cc
same_last (z ∷ w ∷ xs) [] x y is = cc
same_last (z ∷ xs) (w ∷ ys) x y is = let rest : xs ++ x ∷ [] ≡ ys ++ y ∷ [] = cc in same_last xs ys x y rest

module _ {S : Type 0} (move : S → Token → Move S) where
  -- in two parts
  pub led_append : (lim : Limits) (s : S) (ts us : List Token) → led move lim s (ts ++ us) ≡ (led move lim s ts >>= λ (z : S). led move lim z us)
  led_append lim s [] us = refl
  led_append lim s (t ∷ ts) us =
      elim (checked lim (move s t)) as (λ (x : Result S TextKind). (x >>= λ (z : S). led move lim z (ts ++ us)) ≡ ((x >>= λ (z : S). led move lim z ts) >>= λ (z : S). led move lim z us)) [
        | Ok z ↦ led_append lim z ts us
        | Err k ↦ refl
      ]

  pub led_front : (lim : Limits) (s z : S) (ts us : List Token) → led move lim s (ts ++ us) ≡ Ok z → (y : S) × ((led move lim s ts ≡ Ok y) × (led move lim y us ≡ Ok z))
  led_front lim s z ts us e = then_ok (led move lim s ts) (λ (y : S). led move lim y us) z (sym (led_append lim s ts us) ∙ e)

  pub led_one : (lim : Limits) (s z : S) (t : Token) → led move lim s (t ∷ []) ≡ Ok z → checked lim (move s t) ≡ Ok z
  led_one lim s z t e = let one = then_ok (checked lim (move s t)) (λ (y : S). Ok y) z e in one.1.0 ∙ one.1.1

  pub led_more : (lim : Limits) (s y z : S) (ts : List Token) (t : Token) → led move lim s ts ≡ Ok y → checked lim (move y t) ≡ Ok z → led move lim s (ts ++ t ∷ []) ≡ Ok z
  led_more lim s y z ts t e made =
      led_append lim s ts (t ∷ []) ∙ (ap (λ (x : Result S TextKind). x >>= λ (r : S). led move lim r (t ∷ [])) e ∙ ap (λ (x : Result S TextKind). x >>= λ (r : S). Ok r) made)

  -- the same tokens lead to one place, whatever the limits
  abbrev pub reach : S → List Token → Option S
  reach s [] = Some s
  reach s (t ∷ ts) = option_and_then (λ (z : S). reach z ts) (lead (move s t))

  pub reached : (lim : Limits) (s z : S) (ts : List Token) → led move lim s ts ≡ Ok z → reach s ts ≡ Some z
  reached lim s z [] e = cc
  reached lim s z (t ∷ ts) e =
      let (y, (made, rest)) = then_ok (checked lim (move s t)) (λ (r : S). led move lim r ts) z e in
      ap (option_and_then (λ (r : S). reach r ts)) (checked_ok lim (move s t) y made).0 ∙ reached lim y z ts rest

  pub led_wider : (lim wide : Limits) → IsWider lim wide → (s z : S) (ts : List Token) → led move lim s ts ≡ Ok z → led move wide s ts ≡ Ok z
  led_wider lim wide h s z [] e = e
  led_wider lim wide h s z (t ∷ ts) e =
      let (y, (made, rest)) = then_ok (checked lim (move s t)) (λ (r : S). led move lim r ts) z e in
      let parts = checked_ok lim (move s t) y made in
      ap (λ (x : Result S TextKind). x >>= λ (r : S). led move wide r ts) (ok_checked wide (move s t) y parts.0 (fits_wider lim wide (move s t) h parts.1)) ∙ led_wider lim wide h y z ts rest

  reach_ok : (lim : Limits) (s z : S) (ts : List Token) → reach s ts ≡ Some z → (n : ℕ) × (led move (wider lim n) s ts ≡ Ok z)
  reach_ok lim s z [] e = (0, cc)
  reach_ok lim s z (t ∷ ts) e =
      elim (lead (move s t)) as (λ (o : Option S). lead (move s t) ≡ o → option_and_then (λ (r : S). reach r ts) o ≡ Some z → (n : ℕ) × (led move (wider lim n) s (t ∷ ts) ≡ Ok z)) [
        | None ↦ λ is rest. cc
        | Some y ↦ λ is rest.
            let (m, more) = reach_ok lim y z ts rest in
            let (n, fits) = room_for lim (move s t) in
            let here = ok_checked (wider lim (m + n)) (move s t) y is (fits_wider (wider lim n) (wider lim (m + n)) (move s t) (wider_by lim n (m + n) (omega arith)) fits) in
            (m + n, ap (λ (x : Result S TextKind). x >>= λ (r : S). led move (wider lim (m + n)) r ts) here ∙ led_wider (wider lim m) (wider lim (m + n)) (wider_by lim m (m + n) (omega arith)) y z ts more)
      ] refl e

  reach_one : (s y : S) (ts : List Token) (t : Token) → reach s ts ≡ Some y → reach s (ts ++ t ∷ []) ≡ lead (move y t)
  reach_one s y [] t e = let same : s ≡ y = cc in and_some (lead (move s t)) ∙ ap (λ (r : S). lead (move r t)) same
    where
      and_some : (o : Option S) → option_and_then (λ (r : S). Some r) o ≡ o
      and_some None = refl
      and_some (Some r) = refl
  reach_one s y (u ∷ ts) t e =
      elim (lead (move s u)) as (λ (o : Option S). option_and_then (λ (r : S). reach r ts) o ≡ Some y → option_and_then (λ (r : S). reach r (ts ++ t ∷ [])) o ≡ lead (move y t)) [
        | None ↦ λ rest. cc
        | Some z ↦ λ rest. reach_one z y ts t rest
      ] e

-- What a reader owes its grammar. There is room where what must follow is within the limits.
pub record IsReaderOf {S W : Type 0} (R : Reader S W) (Means : Limits → List Token → W → Type 0) (HasRoom : Limits → S → Type 0) : Type 0 where
  pub sound : (lim : Limits) (ts : List Token) (s : S) (w : W) → led R.move lim R.start ts ≡ Ok s → R.ending s ≡ Some w → Means lim ts w
  pub complete : (lim : Limits) (ts : List Token) (w : W) → Means lim ts w → (s : S) × ((led R.move lim R.start ts ≡ Ok s) × (R.ending s ≡ Some w))
  pub goes_on : (lim : Limits) (ts : List Token) (s : S) → led R.move lim R.start ts ≡ Ok s → HasRoom lim s → IsFrontIn Means lim ts
  pub widened : (lim : Limits) (s : S) → (n : ℕ) × HasRoom (wider lim n) s
  pub start_room : (lim : Limits) → HasRoom lim R.start
  -- but for the comma behind the last variable that fits
  pub room : (lim : Limits) → 1 ≤ lim.variables → (s z : S) (t : Token) → checked lim (R.move s t) ≡ Ok z → HasRoom lim z ⊎ ((t ≡ Comma) × HasRoom lim s)
  pub comma : (s : S) → IsFree (R.move s Comma)

module _ {S W : Type 0} {R : Reader S W} {Means : Limits → List Token → W → Type 0} {HasRoom : Limits → S → Type 0} (law : IsReaderOf R Means HasRoom) where
  -- tokens begin a text where they lead somewhere
  front_leads : (lim : Limits) (ts : List Token) → IsFrontIn Means lim ts → (s : S) × (led R.move lim R.start ts ≡ Ok s)
  front_leads lim ts (more, (w, d)) = let (z, (e, is)) = law.complete lim (ts ++ more) w d in let (s, (here, rest)) = led_front R.move lim R.start z ts more e in (s, here)

  pub ends_here : (lim : Limits) (ts : List Token) (s : S) (w : W) → led R.move lim R.start ts ≡ Ok s → Means lim ts w → R.ending s ≡ Some w
  ends_here lim ts s w e d = let (z, (leads, is)) = law.complete lim ts w d in let same : z ≡ s = cc in subst (λ (r : S). R.ending r ≡ Some w) same is

  reach_front : (ts : List Token) (s : S) → reach R.move R.start ts ≡ Some s → IsAnyFrontIn Means ts
  reach_front ts s e =
      let none : Limits = record { levels = 0; operators = 0; variables = 0 } in
      let (n, made) = reach_ok R.move none R.start s ts e in
      let (m, room) = law.widened (wider none n) s in
      let lim = wider (wider none n) m in
      (lim, law.goes_on lim ts s (led_wider R.move (wider none n) lim (is_wider (wider none n) m) R.start s ts made) room)

  front_reach : (ts : List Token) → IsAnyFrontIn Means ts → (s : S) × (reach R.move R.start ts ≡ Some s)
  front_reach ts (lim, front) = let (s, e) = front_leads lim ts front in (s, reached R.move lim R.start s ts e)

  pub any_front : (lim : Limits) (ts : List Token) (s : S) → led R.move lim R.start ts ≡ Ok s → IsAnyFrontIn Means ts
  any_front lim ts s e = reach_front ts s (reached R.move lim R.start s ts e)

  module _ (lim : Limits) where
    pub clean : 1 ≤ lim.variables → (ts : List Token) (s : S) → led R.move lim R.start ts ≡ Ok s → IsCleanIn Means lim ts
    clean some ts s e = elim (by_last ts) as (λ (us : List Token) (l : Last us). led R.move lim R.start us ≡ Ok s → IsCleanIn Means lim us) [
      | empty ↦ λ h. inl (law.goes_on lim [] R.start refl (law.start_room lim))
      | last us t ↦ λ h.
          let (y, (before, one)) = led_front R.move lim R.start s us (t ∷ []) h in
          elim (law.room lim some y s t (led_one R.move lim y s t one)) [
            | inl room ↦ inl (law.goes_on lim (us ++ t ∷ []) s h room)
            | inr both ↦ inr (us, ((λ i. us ++ both.0 i ∷ []), law.goes_on lim us y before both.1))
          ]
    ] e

    pub clean_leads : (ts : List Token) → IsAnyFrontIn Means ts → IsCleanIn Means lim ts → (s : S) × (led R.move lim R.start ts ≡ Ok s)
    clean_leads ts any (inl front) = front_leads lim ts front
    clean_leads ts any (inr (us, (is, front))) =
        let (y, before) = front_leads lim us front in
        let (z, whole) = front_reach ts any in
        let here : lead (R.move y Comma) ≡ Some z =
        sym (reach_one R.move R.start y us Comma (reached R.move lim R.start y us before)) ∙ (ap (reach R.move R.start) (sym is) ∙ whole) in
        (z, ap (led R.move lim R.start) is ∙ led_more R.move lim R.start y z us Comma before (ok_checked lim (R.move y Comma) z here (free_fits lim (R.move y Comma) (law.comma y))))

    module _ (ts : List Token) (t : Token) (s : S) (before : led R.move lim R.start ts ≡ Ok s) where
      no_front : (k : TextKind) → checked lim (R.move s t) ≡ Err k → IsFrontIn Means lim (ts ++ t ∷ []) → ⊥
      no_front k stop front =
          let (z, whole) = front_leads lim (ts ++ t ∷ []) front in
          let (y, (start_of, one)) = led_front R.move lim R.start z ts (t ∷ []) whole in
          let same : y ≡ s = cc in
          let made : checked lim (R.move s t) ≡ Ok z = ap (λ (r : S). checked lim (R.move r t)) (sym same) ∙ led_one R.move lim y z t one in
          cc

      step_reach : reach R.move R.start (ts ++ t ∷ []) ≡ lead (R.move s t)
      step_reach = reach_one R.move R.start s ts t (reached R.move lim R.start s ts before)

      no_comma : (u : Token) (x : Limit) (n : ℕ) (z : S) → R.move s u ≡ limited x n z → IsNoComma u
      no_comma Comma x n z is = subst IsFree is (law.comma s)
      no_comma u x n z is = tt

      -- a token that is refused is a fault there
      pub because : (k : TextKind) → checked lim (R.move s t) ≡ Err k → BecauseIn Means lim ts t k
      because k stop =
          elim (R.move s t) as (λ (m : Move S). R.move s t ≡ m → checked lim m ≡ Err k → BecauseIn Means lim ts t k) [
            | refused ↦ λ is made. let kind : Expected ≡ k = cc in
                subst (BecauseIn Means lim ts t) kind (λ any. let (z, e) = front_reach (ts ++ t ∷ []) any in let none : None ≡ Some z = sym (step_reach ∙ ap lead is) ∙ e in cc)
            | goes z ↦ λ is made. cc
            | limited x n z ↦ λ is made. elim (leb n (bound_by lim x)) as (λ (b : Bool). (if b then Ok z else Err Deep) ≡ Err k → BecauseIn Means lim ts t k) [
              | true ↦ λ made'. cc
              | false ↦ λ made'. let kind : Deep ≡ k = cc in
                  subst (BecauseIn Means lim ts t) kind (no_front k stop, (reach_front (ts ++ t ∷ []) z (step_reach ∙ ap lead is), no_comma t x n z is))
            ] made
          ] refl stop

      one_cause : (j k : TextKind) → BecauseIn Means lim ts t j → BecauseIn Means lim ts t k → j ≡ k
      one_cause Expected Expected a b = refl
      one_cause Deep Deep a b = refl
      one_cause Expected Deep a b = absurd (a b.1.0)
      one_cause Deep Expected a b = absurd (b a.1.0)
      one_cause Expected k a b = absurd b
      one_cause Deep k a b = absurd b
      one_cause j k a b = absurd a

      taken : 1 ≤ lim.variables → (z : S) → checked lim (R.move s t) ≡ Ok z → (k : TextKind) → BecauseIn Means lim ts t k → ⊥
      taken some z made Expected none = none (any_front lim (ts ++ t ∷ []) z (led_more R.move lim R.start s z ts t before made))
      taken some z made Deep (none, (any, other)) = elim (clean some (ts ++ t ∷ []) z (led_more R.move lim R.start s z ts t before made)) [
        | inl front ↦ none front
        | inr shorter ↦ subst IsNoComma (same_last ts shorter.0 t Comma shorter.1.0) other
      ]
      taken some z made k b = b

      -- and what is a fault there is refused
      pub stops : 1 ≤ lim.variables → (k : TextKind) → BecauseIn Means lim ts t k → checked lim (R.move s t) ≡ Err k
      stops some k b =
          elim (checked lim (R.move s t)) as (λ (x : Result S TextKind). checked lim (R.move s t) ≡ x → x ≡ Err k) [
            | Ok z ↦ λ made. absurd (taken some z made k b)
            | Err j ↦ λ made. ap (λ (i : TextKind). Err i) (one_cause j k (because j made) b)
          ] refl
