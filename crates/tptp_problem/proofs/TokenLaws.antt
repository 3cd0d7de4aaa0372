-- What the readers of single tokens answer: marks, the language, the name and the role of an entry.
use Rattle.std.proofs.Common.{◌≡◌, ℕ, suc, ◌-◌, ◌≤◌, ◌==◌, Bool, true, false, if◌then◌else◌, List, [], ◌∷◌, length, take, drop, ◌⊎◌, inl, inr, nat_le, Result, Ok, Err, refl, sym, ◌∙◌, ap, subst, arith}
use Rattle.std.specs.Char.{is_ascii_uppercase, is_ascii_lowercase, is_ascii_digit}
use Rattle.std.proofs.lemmas.Bool.{leb-true, le-leb}
use Rattle.std.proofs.lemmas.Bool.Decides.{nat_tests}
use Rattle.tptp_tokens.specs.declared.tokens.Token.{Token}
use Rattle.tptp_tokens.specs.declared.tokens.Token.TheVariants.{Name}
use Rattle.tptp_tokens.specs.declared.tokens.TextKind.{TextKind}
use Rattle.tptp_tokens.specs.declared.tokens.TextKind.TheVariants.{Expected, Deep, Number}
use Rattle.tptp_tokens.specs.declared.tokens.Scan.{Scan}
use Rattle.tptp_tokens.specs.declared.tokens.Scan.TheVariants.{End, Found, Wrong}
use Rattle.tptp_tokens.specs.Lexer.{is_blank, scanned}
use Rattle.tptp_read.specs.Reader.{◌>>=◌}
use Rattle.tptp_read.specs.Turns.{Look, token, ends, bad}
use Rattle.tptp_problem.specs.declared.errors.Fault.{Fault}
use Rattle.tptp_problem.specs.declared.errors.ProblemKind.{ProblemKind}
use Rattle.tptp_problem.specs.declared.errors.ProblemKind.TheVariants.{Text, NameTwice}
use Rattle.tptp_problem.specs.declared.problems.Role.{Role}
use Rattle.tptp_problem.specs.declared.problems.Role.TheVariants.{Conjecture}
use Rattle.tptp_problem.specs.declared.tokens.Mark.{Mark}
use Rattle.tptp_problem.specs.declared.roles.TheConstants.{MOST_CONJECTURES}
use Rattle.tptp_problem.specs.Tokens.{Blanks, Takes}
use Rattle.tptp_problem.specs.Words.{is_mark, digits, is_name_token}
use Rattle.tptp_problem.specs.Readers.{fault, placed, passed, look_from, look, unwanted, by_look, token_at, mark_token, mark_at, name_token, name_from, new_name, name_at, within_conjectures}
use Rattle.tptp_problem.specs.Closures.{is_conjecture}
use Rattle.tptp_problem.specs.EntryTexts.{Lacks, other_token, end_of_text, no_token, TakesName, name, number, LacksName, no_name_token, no_name_left, no_name_bytes}
use Rattle.tptp_problem.proofs.Passing.{passed_blanks, passed_end, passed_found, passed_wrong, end_scanned, Looks, at_token, at_end, at_bytes, looks, looked, took}

-- a token that gives nothing, or none at all
pub data Refuses {A : Type 0} (gives : Token → Result A ProblemKind) (bs : List ℕ) : ℕ → ProblemKind → Type 0 where
  refused : (front rest : List ℕ) (t : Token) (k : ProblemKind) → Takes bs front t rest → gives t ≡ Err k → Refuses gives bs (length front) k
  no_more : Blanks bs [] → Refuses gives bs 0 (Text Expected)
  no_good : (front : List ℕ) (n : ℕ) (e : TextKind) → Blanks bs front → scanned front ≡ Wrong n e → Refuses gives bs (length front - n) (Text e)

module _ {A : Type 0} (gives : Token → Result A ProblemKind) (bs : List ℕ) where
  abbrev pub SaysToken : Result (A × ℕ × List ℕ) Fault → Type 0
  SaysToken (Ok x) = (front : List ℕ) × ((t : Token) × (Takes bs front t x.2 × ((gives t ≡ Ok x.0) × (x.1 ≡ length front))))
  SaysToken (Err f) = Refuses gives bs f.left f.kind

  says_placed : (front rest : List ℕ) (t : Token) → Takes bs front t rest → (x : Result A ProblemKind) → gives t ≡ x → SaysToken (placed (length front) x >>= λ (a : A). Ok (a, length front, rest))
  says_placed front rest t one (Ok a) is = (front, (t, (one, (is, refl))))
  says_placed front rest t one (Err k) is = refused front rest t k one is

  says_look : (l : Look (List ℕ)) → Looks bs l → SaysToken (by_look gives l)
  says_look l (at_token front rest t one) = says_placed front rest t one (gives t) refl
  says_look l (at_end blanks) = no_more blanks
  says_look l (at_bytes front n e blanks is) = no_good front n e blanks is

  pub token_says : SaysToken (token_at gives bs)
  token_says = says_look (look bs) (looks bs)

  token_stands : (front rest : List ℕ) (t : Token) (x : Result A ProblemKind) → Takes bs front t rest → gives t ≡ x → token_at gives bs ≡ (placed (length front) x >>= λ (a : A). Ok (a, length front, rest))
  token_stands front rest t x one is =
      ap (by_look gives) (looked bs (token (length front) t rest) (at_token front rest t one)) ∙ ap (λ (y : Result A ProblemKind). placed (length front) y >>= λ (a : A). Ok (a, length front, rest)) is

  pub token_taken : (front rest : List ℕ) (t : Token) (a : A) → Takes bs front t rest → gives t ≡ Ok a → token_at gives bs ≡ Ok (a, length front, rest)
  token_taken front rest t a one is = token_stands front rest t (Ok a) one is

  pub token_refused : (n : ℕ) (k : ProblemKind) → Refuses gives bs n k → token_at gives bs ≡ Err (fault n k)
  token_refused n k (refused front rest t j one is) = token_stands front rest t (Err j) one is
  token_refused n k (no_more blanks) = ap (by_look gives) (looked bs (ends 0) (at_end blanks))
  token_refused n k (no_good front m e blanks is) = ap (by_look gives) (looked bs (bad (length front - m) e) (at_bytes front m e blanks is))

  -- where nothing else than what is wanted gives something
  pub lacks_refuses : (wanted : Token → Bool) → ((t : Token) → wanted t ≡ false → gives t ≡ Err (Text Expected)) → (n : ℕ) (k : ProblemKind) → Lacks wanted bs n k → Refuses gives bs n k
  lacks_refuses wanted none n k (other_token front rest t one is) = refused front rest t (Text Expected) one (none t is)
  lacks_refuses wanted none n k (end_of_text blanks) = no_more blanks
  lacks_refuses wanted none n k (no_token front m e blanks is) = no_good front m e blanks is

-- names
module _ {A : Type 0} (named : List ℕ → Result A ProblemKind) (bs : List ℕ) where
  named_ok : (t : Token) (a : A) → name_token named t ≡ Ok a → (x : List ℕ) × ((t ≡ Name x) × (named x ≡ Ok a))
  named_ok (Name x) a is = (x, (refl, is))
  named_ok t a is = cc

  no_name_gives : (t : Token) → is_name_token t ≡ false → name_token named t ≡ Err (Text Expected)
  no_name_gives (Name x) other = cc
  no_name_gives t other = refl

  abbrev pub RefusesName : ℕ → ProblemKind → Type 0
  RefusesName n k = Lacks is_name_token bs n k ⊎ ((x : List ℕ) × ((front : List ℕ) × ((rest : List ℕ) × (Takes bs front (Name x) rest × ((named x ≡ Err k) × (n ≡ length front))))))

  refuses_token : (front rest : List ℕ) (t : Token) (k : ProblemKind) → Takes bs front t rest → name_token named t ≡ Err k → RefusesName (length front) k
  refuses_token front rest (Name x) k one is = inr (x, (front, (rest, (one, (is, refl)))))
  refuses_token front rest t k one is = let kind : Text Expected ≡ k = cc in subst (RefusesName (length front)) kind (inl (other_token front rest t one refl))

  refuses_name : (n : ℕ) (k : ProblemKind) → Refuses (name_token named) bs n k → RefusesName n k
  refuses_name n k (refused front rest t j one is) = refuses_token front rest t j one is
  refuses_name n k (no_more blanks) = inl (end_of_text blanks)
  refuses_name n k (no_good front m e blanks is) = inl (no_token front m e blanks is)

  abbrev pub SaysNamed : Result (A × ℕ × List ℕ) Fault → Type 0
  SaysNamed (Ok a) = (x : List ℕ) × ((front : List ℕ) × (Takes bs front (Name x) a.2 × ((named x ≡ Ok a.0) × (a.1 ≡ length front))))
  SaysNamed (Err e) = RefusesName e.left e.kind

  named_token : (x : Result (A × ℕ × List ℕ) Fault) → SaysToken (name_token named) bs x → SaysNamed x
  named_token (Ok a) (front, (t, (one, (is, at)))) = let (x, (same, named_so)) = named_ok t a.0 is in (x, (front, (subst (λ (u : Token). Takes bs front u a.2) same one, (named_so, at))))
  named_token (Err e) refuses = refuses_name e.left e.kind refuses

  pub named_says : SaysNamed (token_at (name_token named) bs)
  named_says = named_token (token_at (name_token named) bs) (token_says (name_token named) bs)

  pub named_taken : (x front rest : List ℕ) (a : A) → Takes bs front (Name x) rest → named x ≡ Ok a → token_at (name_token named) bs ≡ Ok (a, length front, rest)
  named_taken x front rest a one is = token_taken (name_token named) bs front rest (Name x) a one is

  pub named_blamed : (x front rest : List ℕ) (k : ProblemKind) → Takes bs front (Name x) rest → named x ≡ Err k → token_at (name_token named) bs ≡ Err (fault (length front) k)
  named_blamed x front rest k one is = token_refused (name_token named) bs (length front) k (refused front rest (Name x) k one is)

  pub named_lacks : (n : ℕ) (k : ProblemKind) → Lacks is_name_token bs n k → token_at (name_token named) bs ≡ Err (fault n k)
  named_lacks n k lacks = token_refused (name_token named) bs n k (lacks_refuses (name_token named) bs is_name_token no_name_gives n k lacks)

-- marks
module _ (m : Mark) (bs : List ℕ) where
  marked : (b : Bool) (t u : Token) → (if b then Ok t else Err (Text Expected)) ≡ Ok u → (b ≡ true) × (t ≡ u)
  marked true t u is = (refl, cc)
  marked false t u is = cc

  unmarked : (b : Bool) (t : Token) (k : ProblemKind) → (if b then Ok t else Err (Text Expected)) ≡ Err k → (b ≡ false) × (Text Expected ≡ k)
  unmarked true t k is = cc
  unmarked false t k is = (refl, cc)

  refuses_lacks : (n : ℕ) (k : ProblemKind) → Refuses (mark_token m) bs n k → Lacks (is_mark m) bs n k
  refuses_lacks n k (refused front rest t j one is) = let (other, kind) = unmarked (is_mark m t) t j is in subst (Lacks (is_mark m) bs (length front)) kind (other_token front rest t one other)
  refuses_lacks n k (no_more blanks) = end_of_text blanks
  refuses_lacks n k (no_good front i e blanks is) = no_token front i e blanks is

  abbrev pub SaysMark : Result (List ℕ) Fault → Type 0
  SaysMark (Ok rest) = (front : List ℕ) × ((t : Token) × (Takes bs front t rest × (is_mark m t ≡ true)))
  SaysMark (Err f) = Lacks (is_mark m) bs f.left f.kind

  says_mark : (x : Result (Token × ℕ × List ℕ) Fault) → SaysToken (mark_token m) bs x → SaysMark (x >>= λ (y : Token × ℕ × List ℕ). Ok y.2)
  says_mark (Ok x) (front, (t, (one, (is, at)))) = (front, (t, (one, (marked (is_mark m t) t x.0 is).0)))
  says_mark (Err f) refuses = refuses_lacks f.left f.kind refuses

  pub mark_says : SaysMark (mark_at m bs)
  unfolding mark_at
  mark_says = says_mark (token_at (mark_token m) bs) (token_says (mark_token m) bs)

  pub mark_complete : (front rest : List ℕ) (t : Token) → Takes bs front t rest → is_mark m t ≡ true → mark_at m bs ≡ Ok rest
  unfolding mark_at
  mark_complete front rest t one is =
      ap (λ (x : Result (Token × ℕ × List ℕ) Fault). x >>= λ (y : Token × ℕ × List ℕ). Ok y.2) (token_taken (mark_token m) bs front rest t t one (ap (λ (b : Bool). if b then Ok t else Err (Text Expected)) is))

  pub mark_blamed : (n : ℕ) (k : ProblemKind) → Lacks (is_mark m) bs n k → mark_at m bs ≡ Err (fault n k)
  unfolding mark_at
  mark_blamed n k lacks =
      ap (λ (x : Result (Token × ℕ × List ℕ) Fault). x >>= λ (y : Token × ℕ × List ℕ). Ok y.2)
      (token_refused (mark_token m) bs n k (lacks_refuses (mark_token m) bs (is_mark m) (λ t off. ap (λ (b : Bool). if b then Ok t else Err (Text Expected)) off) n k lacks))

-- the limit of conjectures
abbrev pub IsWithin : ℕ → Role → Type 0
IsWithin n r = is_conjecture r ≡ true → suc n ≤ MOST_CONJECTURES

below : (m n : ℕ) → nat_le m n ≡ false → suc n ≤ m
below m n is = grind (arith, nat_tests)

not_above : (m n : ℕ) → suc n ≤ m → nat_le m n ≡ false
not_above m n fits = grind (arith, nat_tests)

abbrev pub Limited : ℕ → ℕ → Role → Result Role Fault → Type 0
Limited n w r (Ok q) = (r ≡ q) × IsWithin n r
Limited n w r (Err f) = (r ≡ Conjecture) × ((MOST_CONJECTURES ≤ n) × (f ≡ fault w (Text Deep)))

pub limited : (n w : ℕ) (r : Role) → Limited n w r (within_conjectures n w r)
limited n w Conjecture =
    elim (nat_le MOST_CONJECTURES n) as (λ (b : Bool). nat_le MOST_CONJECTURES n ≡ b → Limited n w Conjecture (if b then Err (fault w (Text Deep)) else Ok Conjecture)) [
      | true ↦ λ test. (refl, (leb-true _ _ test, refl))
      | false ↦ λ test. (refl, λ is. below MOST_CONJECTURES n test)
    ] refl
limited n w r = (refl, λ is. cc)

pub within_kept : (n w : ℕ) (r : Role) → IsWithin n r → within_conjectures n w r ≡ Ok r
within_kept n w Conjecture fits = ap (λ (b : Bool). if b then Err (fault w (Text Deep)) else Ok Conjecture) (not_above MOST_CONJECTURES n (fits refl))
within_kept n w r fits = refl

pub within_passed : (n w : ℕ) → MOST_CONJECTURES ≤ n → within_conjectures n w Conjecture ≡ Err (fault w (Text Deep))
within_passed n w over = ap (λ (b : Bool). if b then Err (fault w (Text Deep)) else Ok Conjecture) (le-leb MOST_CONJECTURES n over)

-- digits begin no token
pub some_number : (n : ℕ) → (n == 0) ≡ false → 1 ≤ n
some_number n is = grind (arith, nat_tests)

pub no_number : (n : ℕ) → (n == 0) ≡ true → n ≡ 0
no_number n is = grind (arith, nat_tests)

is_some_number : (n : ℕ) → 1 ≤ n → (n == 0) ≡ false
is_some_number n is = grind (arith, nat_tests)

digit_kind : (b : ℕ) → is_ascii_digit b ≡ true → (is_blank b ≡ false) × ((is_ascii_lowercase b ≡ false) × (is_ascii_uppercase b ≡ false))
digit_kind b is = (grind (arith, nat_tests), (grind (arith, nat_tests), grind (arith, nat_tests)))

first_digit : (b : ℕ) (bs : List ℕ) → 1 ≤ digits (b ∷ bs) → is_ascii_digit b ≡ true
first_digit b bs some = elim (is_ascii_digit b) as (λ (t : Bool). 1 ≤ (if t then suc (digits bs) else 0) → t ≡ true) [ true ↦ λ h. refl | false ↦ λ h. absurd (omega arith) ] some

digit_scanned : (front : List ℕ) → 1 ≤ digits front → scanned front ≡ Wrong 0 Number
unfolding scanned
digit_scanned [] some = absurd (omega arith)
digit_scanned (b ∷ bs) some = let digit : is_ascii_digit b ≡ true = first_digit b bs some in let (blank, (lower, upper)) = digit_kind b digit in rw (blank, lower, upper, digit) refl

-- what an answer says of the name; `has` says which names are taken
module _ (has : List ℕ → Bool) (bs : List ℕ) where
  abbrev pub SaysName : Result (List ℕ × List ℕ) Fault → Type 0
  SaysName (Ok x) = (front : List ℕ) × (TakesName bs front x.0 x.1 × (has x.0 ≡ false))
  SaysName (Err e) = LacksName bs e.left e.kind ⊎ ((x : List ℕ) × ((front : List ℕ) × ((rest : List ℕ) × (TakesName bs front x rest × ((has x ≡ true) × (e ≡ fault (length front) NameTwice))))))

  ends_lack : (n : ℕ) → Looks bs (ends n) → LacksName bs n (Text Expected)
  ends_lack n (at_end blanks) = no_name_left blanks

  new_says : (front x : List ℕ) (n : ℕ) → TakesName bs front x (drop n front) → SaysName (new_name has front (x, n))
  new_says front x n takes =
      elim (has x) as (λ (b : Bool). has x ≡ b → SaysName (if b then Err (fault (length front) NameTwice) else Ok (x, drop n front))) [
        | true ↦ λ is. inr (x, (front, (drop n front, (takes, (is, refl)))))
        | false ↦ λ is. (front, (takes, is))
      ] refl

  says_name : (front : List ℕ) (s : Scan) → passed 0 bs ≡ front → scanned front ≡ s → Looks bs (look_from front s) → SaysName (name_from front s >>= new_name has front)
  says_name front (Found (Name x) n) same is l = let (f, one) = took bs (drop n front) (length front) (Name x) l in
      new_says front x n (name x (drop n front) (subst (λ (cs : List ℕ). Takes bs cs (Name x) (drop n front)) (sym (passed_found bs f (Name x) (drop n front) one) ∙ same) one))
  says_name front (Found t n) same is l = let (f, one) = took bs (drop n front) (length front) t l in
      inl (no_name_token front (drop n front) t (subst (λ (cs : List ℕ). Takes bs cs t (drop n front)) (sym (passed_found bs f t (drop n front) one) ∙ same) one) refl)
  says_name front (Wrong k e) same is l =
      elim (digits front == 0) as (λ (b : Bool). (digits front == 0) ≡ b → SaysName ((if b then Err (unwanted (Wrong k e) (length front)) else Ok (take (digits front) front, digits front)) >>= new_name has front)) [
        | true ↦ λ none. inl (no_name_bytes front k e (subst (Blanks bs) same (passed_blanks bs)) is (no_number (digits front) none))
        | false ↦ λ some. new_says front (take (digits front) front) (digits front) (number (subst (Blanks bs) same (passed_blanks bs)) (some_number (digits front) some))
      ] refl
  says_name front s same is l = inl (ends_lack (length front) l)

  pub name_says : SaysName (name_at has bs)
  unfolding name_at
  name_says = says_name (passed 0 bs) (scanned (passed 0 bs)) refl refl (looks bs)

  -- what a name that stands there gives
  name_from_scan : (front : List ℕ) (s : Scan) → passed 0 bs ≡ front → scanned front ≡ s → name_at has bs ≡ (name_from front s >>= new_name has front)
  unfolding name_at
  name_from_scan front s same is = ap (λ (cs : List ℕ). name_from cs (scanned cs) >>= new_name has cs) same ∙ ap (λ (z : Scan). name_from front z >>= new_name has front) is

  name_stands : (front x rest : List ℕ) → TakesName bs front x rest → name_at has bs ≡ (if has x then Err (fault (length front) NameTwice) else Ok (x, rest))
  name_stands front x rest (name y rest' one) =
      name_from_scan front (Found (Name y) one.length) (passed_found bs front (Name y) rest' one) one.found
      ∙ ap (λ (cs : List ℕ). if has y then Err (fault (length front) NameTwice) else Ok (y, cs)) (sym one.behind)
  name_stands front x rest (number blanks some) =
      let wrong : scanned front ≡ Wrong 0 Number = digit_scanned front some in
      name_from_scan front (Wrong 0 Number) (passed_wrong bs front 0 Number blanks wrong) wrong
      ∙ ap (λ (b : Bool). (if b then Err (unwanted (Wrong 0 Number) (length front)) else Ok (take (digits front) front, digits front)) >>= new_name has front) (is_some_number (digits front) some)

  pub name_complete : (front x rest : List ℕ) → TakesName bs front x rest → has x ≡ false → name_at has bs ≡ Ok (x, rest)
  name_complete front x rest takes new = name_stands front x rest takes ∙ ap (λ (b : Bool). if b then Err (fault (length front) NameTwice) else Ok (x, rest)) new

  pub name_twice_blamed : (front x rest : List ℕ) → TakesName bs front x rest → has x ≡ true → name_at has bs ≡ Err (fault (length front) NameTwice)
  name_twice_blamed front x rest takes old = name_stands front x rest takes ∙ ap (λ (b : Bool). if b then Err (fault (length front) NameTwice) else Ok (x, rest)) old

  no_name_from : (front : List ℕ) (t : Token) (n : ℕ) → is_name_token t ≡ false → name_from front (Found t n) ≡ Err (fault (length front) (Text Expected))
  no_name_from front (Name x) n other = cc
  no_name_from front t n other = refl

  pub name_lacks : (n : ℕ) (k : ProblemKind) → LacksName bs n k → name_at has bs ≡ Err (fault n k)
  name_lacks n k (no_name_token front rest t one other) =
      name_from_scan front (Found t one.length) (passed_found bs front t rest one) one.found ∙ ap (λ (x : Result (List ℕ × ℕ) Fault). x >>= new_name has front) (no_name_from front t one.length other)
  name_lacks n k (no_name_left blanks) = name_from_scan [] End (passed_end bs blanks) end_scanned
  name_lacks n k (no_name_bytes front m e blanks is none) =
      name_from_scan front (Wrong m e) (passed_wrong bs front m e blanks is) is
      ∙ ap (λ (d : ℕ). (if d == 0 then Err (unwanted (Wrong m e) (length front)) else Ok (take (digits front) front, digits front)) >>= new_name has front) none
