-- What stands at the front of bytes, behind white space and comments.
use Rattle.std.proofs.Common.{◌≡◌, ℕ, zero, suc, ◌-◌, ◌≤◌, List, [], ◌∷◌, length, drop, length-drop, refl, sym, ◌∙◌, ap, subst, arith}
use Rattle.tptp_tokens.specs.declared.tokens.Token.{Token}
use Rattle.tptp_tokens.specs.declared.tokens.TextKind.{TextKind}
use Rattle.tptp_tokens.specs.declared.tokens.Scan.{Scan}
use Rattle.tptp_tokens.specs.declared.tokens.Scan.TheVariants.{End, Blank, Found, Wrong}
use Rattle.tptp_tokens.specs.Lexer.{scanned, IsSized}
use Rattle.tptp_read.specs.Turns.{Look, token, ends, bad, Passes}
use Rattle.tptp_read.specs.Turns as turns
use Rattle.tptp_problem.specs.Readers.{passed, look_from, look}
use Rattle.tptp_problem.specs.Tokens.{Blanks, no_blank, blank, Takes, TakesAll, no_token, more_tokens}
use Rattle.tptp_problem.proofs.Sizes.{scanned_sized}

passed_behind : (k : ℕ) (bs : List ℕ) → k ≤ length bs → passed k bs ≡ passed 0 (drop k bs)
passed_behind zero bs fits = refl
passed_behind (suc k) [] fits = absurd (omega arith)
passed_behind (suc k) (b ∷ bs) fits = passed_behind k bs (omega arith)

-- a blank is passed
pub passed_blank : (n : ℕ) (bs : List ℕ) → scanned bs ≡ Blank n → 1 ≤ n → n ≤ length bs → passed 0 bs ≡ passed 0 (drop n bs)
passed_blank zero bs is some fits = absurd (omega arith)
passed_blank (suc n) [] is some fits = absurd (omega arith)
passed_blank (suc n) (b ∷ bs) is some fits =
    let count : suc n - 1 ≡ n = omega arith in
    rw (is, passed) (ap (λ (k : ℕ). passed k bs) count ∙ passed_behind n bs (omega arith))

-- what is no blank isn't passed
abbrev pub IsNoBlank : Scan → Type 0
IsNoBlank (Blank n) = ⊥
IsNoBlank s = Unit {0}

pub passed_stop : (s : Scan) (bs : List ℕ) → s ≡ scanned bs → IsNoBlank s → passed 0 bs ≡ bs
passed_stop (Blank n) bs is other = absurd other
passed_stop End [] is other = refl
passed_stop End (b ∷ bs) is other = rw (sym is, passed) refl
passed_stop (Found t n) [] is other = refl
passed_stop (Found t n) (b ∷ bs) is other = rw (sym is, passed) refl
passed_stop (Wrong n e) [] is other = refl
passed_stop (Wrong n e) (b ∷ bs) is other = rw (sym is, passed) refl

-- what is passed is white space and comments, all of it
blank_some : (n : ℕ) (bs : List ℕ) → scanned bs ≡ Blank n → (1 ≤ n) × (n ≤ length bs)
blank_some n bs is = subst (λ (s : Scan). IsSized s (length bs)) is (scanned_sized bs)

drop_more : (n b : ℕ) (bs : List ℕ) → 1 ≤ n → drop (n - 1) bs ≡ drop n (b ∷ bs)
drop_more zero b bs some = absurd (omega arith)
drop_more (suc n) b bs some = let count : suc n - 1 ≡ n = omega arith in ap (λ (k : ℕ). drop k bs) count

pub end_scanned : scanned [] ≡ End
unfolding scanned
end_scanned = refl

abbrev Stands : List ℕ → List ℕ → Type 0
Stands bs front = Blanks bs front × IsNoBlank (scanned front)

stands_still : (bs : List ℕ) (s : Scan) → scanned bs ≡ s → IsNoBlank s → Stands bs bs
stands_still bs s is other = (no_blank bs, subst IsNoBlank (sym is) other)

passed_stands : (bs : List ℕ) (k : ℕ) → Stands (drop k bs) (passed k bs)
passed_stands [] zero = stands_still [] End end_scanned tt
passed_stands [] (suc k) = stands_still [] End end_scanned tt
passed_stands (b ∷ bs) (suc k) = passed_stands bs k
passed_stands (b ∷ bs) zero =
    elim (scanned (b ∷ bs)) as (λ (s : Scan). scanned (b ∷ bs) ≡ s → Stands (b ∷ bs) (elim s [ End ↦ b ∷ bs | Blank n ↦ passed (n - 1) bs | Found t n ↦ b ∷ bs | Wrong n e ↦ b ∷ bs ])) [
      | End ↦ λ is. stands_still (b ∷ bs) End is tt
      | Blank n ↦ λ is. let (blanks, other) = passed_stands bs (n - 1) in (blank n (b ∷ bs) (passed (n - 1) bs) is (subst (λ (cs : List ℕ). Blanks cs (passed (n - 1) bs)) (drop_more n b bs (blank_some n (b ∷ bs) is).0) blanks), other)
      | Found t n ↦ λ is. stands_still (b ∷ bs) (Found t n) is tt
      | Wrong n e ↦ λ is. stands_still (b ∷ bs) (Wrong n e) is tt
    ] refl

pub passed_blanks : (bs : List ℕ) → Blanks bs (passed 0 bs)
passed_blanks bs = (passed_stands bs 0).0

blanks_passed : (bs front : List ℕ) → Blanks bs front → IsNoBlank (scanned front) → passed 0 bs ≡ front
blanks_passed bs front (no_blank cs) other = passed_stop (scanned cs) cs refl other
blanks_passed bs front (blank n cs ds is rest) other =
    let size = blank_some n cs is in passed_blank n cs is size.0 size.1 ∙ blanks_passed (drop n cs) ds rest other

-- nothing is passed at what has been passed
pub passed_again : (bs : List ℕ) → passed 0 (passed 0 bs) ≡ passed 0 bs
passed_again bs = passed_stop (scanned (passed 0 bs)) (passed 0 bs) refl (passed_stands bs 0).1

pub passed_end : (bs : List ℕ) → Blanks bs [] → passed 0 bs ≡ []
passed_end bs blanks = blanks_passed bs [] blanks (subst IsNoBlank (sym end_scanned) tt)

pub passed_found : (bs front : List ℕ) (t : Token) (rest : List ℕ) → Takes bs front t rest → passed 0 bs ≡ front
passed_found bs front t rest one = blanks_passed bs front one.blanks (subst IsNoBlank (sym one.found) tt)

pub passed_wrong : (bs front : List ℕ) (n : ℕ) (e : TextKind) → Blanks bs front → scanned front ≡ Wrong n e → passed 0 bs ≡ front
passed_wrong bs front n e blanks is = blanks_passed bs front blanks (subst IsNoBlank (sym is) tt)

-- what stands at the front
pub data Looks (bs : List ℕ) : Look (List ℕ) → Type 0 where
  at_token : (front rest : List ℕ) (t : Token) → Takes bs front t rest → Looks bs (token (length front) t rest)
  at_end : Blanks bs [] → Looks bs (ends 0)
  at_bytes : (front : List ℕ) (n : ℕ) (e : TextKind) → Blanks bs front → scanned front ≡ Wrong n e → Looks bs (bad (length front - n) e)

pub nothing_left : (cs : List ℕ) → length cs ≡ 0 → cs ≡ []
nothing_left [] is = refl
nothing_left (c ∷ cs) is = absurd (omega arith)

pub looks_from : (bs : List ℕ) (s : Scan) → scanned (passed 0 bs) ≡ s → Looks bs (look_from (passed 0 bs) s)
looks_from bs End is =
    let size : IsSized End (length (passed 0 bs)) = subst (λ (s : Scan). IsSized s (length (passed 0 bs))) is (scanned_sized (passed 0 bs)) in
    let none : passed 0 bs ≡ [] = nothing_left (passed 0 bs) size in
    subst (λ (cs : List ℕ). Looks bs (ends (length cs))) (sym none) (at_end (subst (Blanks bs) none (passed_blanks bs)))
looks_from bs (Blank n) is = absurd (subst IsNoBlank is (passed_stands bs 0).1)
looks_from bs (Found t n) is = at_token (passed 0 bs) (drop n (passed 0 bs)) t (record { length = n; blanks = passed_blanks bs; found = is; behind = refl })
looks_from bs (Wrong n e) is = at_bytes (passed 0 bs) n e (passed_blanks bs) is

pub looks : (bs : List ℕ) → Looks bs (look bs)
looks bs = looks_from bs (scanned (passed 0 bs)) refl

look_at : (bs front : List ℕ) (s : Scan) → passed 0 bs ≡ front → scanned front ≡ s → look bs ≡ look_from front s
look_at bs front s same is = ap (λ (cs : List ℕ). look_from cs (scanned cs)) same ∙ ap (look_from front) is

pub looked : (bs : List ℕ) (l : Look (List ℕ)) → Looks bs l → look bs ≡ l
looked bs l (at_token front rest t one) =
    look_at bs front (Found t one.length) (passed_found bs front t rest one) one.found ∙ ap (token (length front) t) (sym one.behind)
looked bs l (at_end blanks) = look_at bs [] End (passed_end bs blanks) end_scanned
looked bs l (at_bytes front n e blanks is) = look_at bs front (Wrong n e) (passed_wrong bs front n e blanks is) is

-- sizes
pub blanks_bound : (bs front : List ℕ) → Blanks bs front → length front ≤ length bs
blanks_bound bs front (no_blank cs) = omega arith
blanks_bound bs front (blank n cs ds is rest) = omega (arith, length-drop n cs, blanks_bound (drop n cs) ds rest)

abbrev pub IsSizedLook : Look (List ℕ) → ℕ → Type 0
IsSizedLook (token n t rest) m = (n ≤ m) × (suc (length rest) ≤ n)
IsSizedLook (ends n) m = n ≤ m
IsSizedLook (bad n e) m = n ≤ m

sized_from : (front : List ℕ) (s : Scan) (m : ℕ) → IsSized s (length front) → length front ≤ m → IsSizedLook (look_from front s) m
sized_from front End m size fits = fits
sized_from front (Blank n) m size fits = fits
sized_from front (Found t n) m size fits = (fits, omega (arith, size.0, size.1, length-drop n front))
sized_from front (Wrong n e) m size fits = omega arith

pub look_sized : (bs : List ℕ) → IsSizedLook (look bs) (length bs)
look_sized bs = sized_from (passed 0 bs) (scanned (passed 0 bs)) (length bs) (scanned_sized (passed 0 bs)) (blanks_bound bs (passed 0 bs) (passed_blanks bs))

-- tokens one by one
pub took : (bs rest : List ℕ) (n : ℕ) (t : Token) → Looks bs (token n t rest) → (front : List ℕ) × Takes bs front t rest
took bs rest n t (at_token front rest' t' one) = (front, one)

pub taken : (bs rest : List ℕ) (ts : List Token) → Passes look bs ts rest → TakesAll bs ts rest
taken bs rest ts (turns.no_token cs) = no_token cs
taken bs rest ts (turns.more_tokens cs ds es n t us is more) = let (front, one) = took cs ds n t (subst (Looks cs) is (looks cs)) in more_tokens cs front ds es t us one (taken ds es us more)

pub passing : (bs rest : List ℕ) (ts : List Token) → TakesAll bs ts rest → Passes look bs ts rest
passing bs rest ts (no_token cs) = turns.no_token cs
passing bs rest ts (more_tokens cs front ds es t us one more) = turns.more_tokens cs ds es (length front) t us (looked cs (token (length front) t ds) (at_token front ds t one)) (passing ds es us more)
