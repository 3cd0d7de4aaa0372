-- What the code computes at the front of the bytes that are left of a text: each reader answers a value and the bytes behind it, or the
-- first fault.
use Rattle.std.specs.Prelude.{◌≡◌, ℕ, zero, suc, ◌-◌, Bool, true, ◌==◌, if◌then◌else◌, nat_le, List, [], ◌∷◌, length, take, drop, Result, Ok, Err}
use Rattle.std.specs.Ordering.{eq_by_cmp}
use Rattle.std.specs.BTreeSet.{BTreeSet, contains}
use Rattle.fol.specs.Order.{text_cmp}
use Rattle.tptp_tokens.specs.declared.tokens.Token.{Token}
use Rattle.tptp_tokens.specs.declared.tokens.Token.TheVariants.{Name}
use Rattle.tptp_tokens.specs.declared.tokens.TextKind.TheVariants.{Expected, Deep}
use Rattle.tptp_tokens.specs.declared.tokens.Scan.{Scan}
use Rattle.tptp_tokens.specs.declared.tokens.Scan.TheVariants.{End, Blank, Found, Wrong}
use Rattle.tptp_tokens.specs.Lexer.{scanned}
use Rattle.tptp_read.specs.Reader.{◌>>=◌}
use Rattle.tptp_read.specs.Turns.{Look, token, ends, bad}
use Rattle.tptp_problem.specs.declared.errors.Fault.{Fault}
use Rattle.tptp_problem.specs.declared.errors.ReadError.{ReadError}
use Rattle.tptp_problem.specs.declared.errors.ReadError.TheVariants.{Memory as ReadMemory, Fault as ReadFault}
use Rattle.tptp_problem.specs.declared.errors.ProblemKind.{ProblemKind}
use Rattle.tptp_problem.specs.declared.errors.ProblemKind.TheVariants.{Text, NameTwice}
use Rattle.tptp_problem.specs.declared.problems.Language.{Language}
use Rattle.tptp_problem.specs.declared.problems.Role.{Role}
use Rattle.tptp_problem.specs.declared.problems.Role.TheVariants.{Conjecture}
use Rattle.tptp_problem.specs.declared.tokens.Mark.{Mark}
use Rattle.tptp_problem.specs.declared.roles.TheConstants.{MOST_CONJECTURES}
use Rattle.tptp_problem.specs.Words.{is_mark, language_named, digits, role_named, has_role}

-- what a function answers, seen by view, is what is computed, unless memory runs out
abbrev pub Gives : {X Y : Type 0} → (X → Y) → Result X ReadError → Result Y Fault → Type 0
Gives view (Ok x) computed = computed ≡ Ok (view x)
Gives view (Err ReadMemory) computed = Unit {0}
Gives view (Err (ReadFault e)) computed = computed ≡ Err e

-- a fault with so many bytes left
abbrev pub fault : ℕ → ProblemKind → Fault
fault n k = record { left = n; kind = k }

abbrev pub placed : {A : Type 0} → ℕ → Result A ProblemKind → Result A Fault
placed n (Ok x) = Ok x
placed n (Err k) = Err (fault n k)

-- the bytes behind k bytes and the white space and comments behind these
abbrev pub passed : ℕ → List ℕ → List ℕ
passed k [] = []
passed (suc k) (b ∷ bs) = passed k bs
passed zero (b ∷ bs) =
    elim (scanned (b ∷ bs)) [
      | End ↦ b ∷ bs
      | Blank n ↦ passed (n - 1) bs
      | Found t n ↦ b ∷ bs
      | Wrong n e ↦ b ∷ bs
    ]

-- what stands at the front, behind white space and comments; a place is the number of bytes from there on
abbrev pub look_from : List ℕ → Scan → Look (List ℕ)
look_from front (Found t n) = token (length front) t (drop n front)
look_from front (Wrong n e) = bad (length front - n) e
look_from front s = ends (length front)

abbrev pub look : List ℕ → Look (List ℕ)
look bs = look_from (passed 0 bs) (scanned (passed 0 bs))

-- where another token is wanted than what stands at the front of n bytes
abbrev pub unwanted : Scan → ℕ → Fault
unwanted (Wrong k e) n = fault (n - k) (Text e)
unwanted s n = fault n (Text Expected)

-- what a token gives, how many bytes were left before it, and the bytes behind it
abbrev pub by_look : {A : Type 0} → (Token → Result A ProblemKind) → Look (List ℕ) → Result (A × ℕ × List ℕ) Fault
by_look gives (token n t rest) = placed n (gives t) >>= λ a. Ok (a, n, rest)
by_look gives (ends n) = Err (fault n (Text Expected))
by_look gives (bad n e) = Err (fault n (Text e))

abbrev pub token_at : {A : Type 0} → (Token → Result A ProblemKind) → List ℕ → Result (A × ℕ × List ℕ) Fault
token_at gives bs = by_look gives (look bs)

-- a mark
abbrev pub mark_token : Mark → Token → Result Token ProblemKind
mark_token m t = if is_mark m t then Ok t else Err (Text Expected)

unfoldable pub mark_at : Mark → List ℕ → Result (List ℕ) Fault
mark_at m bs = token_at (mark_token m) bs >>= λ x. Ok x.2

-- the word at the front of an entry: its language
abbrev pub name_token : {A : Type 0} → (List ℕ → Result A ProblemKind) → Token → Result A ProblemKind
name_token named (Name x) = named x
name_token named t = Err (Text Expected)

unfoldable pub word_at : List ℕ → Result (Language × ℕ × List ℕ) Fault
word_at bs = token_at (name_token language_named) bs

-- the name of an entry: a name or digits, and its length
abbrev pub name_from : List ℕ → Scan → Result (List ℕ × ℕ) Fault
name_from front (Found (Name x) n) = Ok (x, n)
name_from front (Wrong k e) = if digits front == 0 then Err (unwanted (Wrong k e) (length front)) else Ok (take (digits front) front, digits front)
name_from front s = Err (unwanted s (length front))

-- a name that no earlier entry has; `has` says which they have
abbrev pub new_name : (List ℕ → Bool) → List ℕ → List ℕ × ℕ → Result (List ℕ × List ℕ) Fault
new_name has front (x, n) = if has x then Err (fault (length front) NameTwice) else Ok (x, drop n front)

unfoldable pub name_at : (List ℕ → Bool) → List ℕ → Result (List ℕ × List ℕ) Fault
name_at has bs = name_from (passed 0 bs) (scanned (passed 0 bs)) >>= new_name has (passed 0 bs)

-- the role, where n conjectures stand before; `word` bytes were left before the entry's word
abbrev pub role_of_name : Language → List ℕ → Result Role ProblemKind
role_of_name l x = has_role l (role_named x)

abbrev pub within_conjectures : ℕ → ℕ → Role → Result Role Fault
within_conjectures n word Conjecture = if nat_le MOST_CONJECTURES n then Err (fault word (Text Deep)) else Ok Conjecture
within_conjectures n word r = Ok r

unfoldable pub role_at : Language → ℕ → ℕ → List ℕ → Result (Role × List ℕ) Fault
role_at l n word bs = token_at (name_token (role_of_name l)) bs >>= λ x. within_conjectures n word x.0 >>= λ r. Ok (r, x.2)

-- the names with one more
abbrev pub IsWith : BTreeSet (List ℕ) → BTreeSet (List ℕ) → List ℕ → Type 0
IsWith old new name = (x : List ℕ) → contains text_cmp new x ≡ (if eq_by_cmp text_cmp name x then true else contains text_cmp old x)
