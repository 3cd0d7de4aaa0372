-- The words and marks of an entry.
use Rattle.std.specs.Prelude.{ℕ, Bool, true, false, if◌then◌else◌, List, Option, Some, None, Result, Ok, Err, codes}
use Rattle.std.specs.Char.{is_ascii_digit}
use Rattle.std.specs.List.{list_any}
use Rattle.std.specs.Ordering.{eq_by_cmp}
use Rattle.std.specs.Str.{bytes_eq}
use Rattle.fol.specs.Order.{text_cmp}
use Rattle.tptp_tokens.specs.declared.tokens.Token.{Token}
use Rattle.tptp_tokens.specs.declared.tokens.Token.TheVariants.{Name, Open, Comma, Dot}
use Rattle.tptp_tokens.specs.Lexer.{front_length}
use Rattle.tptp_problem.specs.declared.errors.ProblemKind.{ProblemKind}
use Rattle.tptp_problem.specs.declared.errors.ProblemKind.TheVariants.{Include, Language as NoLanguage, Role as NoRole}
use Rattle.tptp_problem.specs.declared.problems.Language.{Language}
use Rattle.tptp_problem.specs.declared.problems.Language.TheVariants.{Fof, Cnf}
use Rattle.tptp_problem.specs.declared.problems.Role.{Role}
use Rattle.tptp_problem.specs.declared.problems.Role.TheVariants.{Axiom, Hypothesis, Definition, Assumption, Lemma, Theorem, Corollary, Conjecture, NegatedConjecture, Plain}
use Rattle.tptp_problem.specs.declared.problems.Entry.{Entry}
use Rattle.tptp_problem.specs.declared.tokens.Mark.{Mark}
use Rattle.tptp_problem.specs.declared.tokens.Mark.TheVariants.{Open as OpenMark, Comma as CommaMark, Dot as DotMark}

-- whether a token is a name
abbrev pub is_name_token : Token → Bool
is_name_token (Name x) = true
is_name_token t = false

-- whether a token is this mark
abbrev pub is_mark : Mark → Token → Bool
is_mark OpenMark Open = true
is_mark CommaMark Comma = true
is_mark DotMark Dot = true
is_mark m t = false

-- the language that a word at the front of an entry names
abbrev pub language_named : List ℕ → Result Language ProblemKind
language_named x =
    if bytes_eq x (codes "fof") then Ok Fof
    else (if bytes_eq x (codes "cnf") then Ok Cnf
    else (if bytes_eq x (codes "include") then Err Include else Err NoLanguage))

-- how many digits stand at the front
abbrev pub digits : List ℕ → ℕ
digits bs = front_length is_ascii_digit bs

-- the role that a word names
abbrev pub later_role : List ℕ → Option Role
later_role x =
    if bytes_eq x (codes "theorem") then Some Theorem
    else (if bytes_eq x (codes "corollary") then Some Corollary
    else (if bytes_eq x (codes "conjecture") then Some Conjecture
    else (if bytes_eq x (codes "negated_conjecture") then Some NegatedConjecture
    else (if bytes_eq x (codes "plain") then Some Plain else None))))

abbrev pub role_named : List ℕ → Option Role
role_named x =
    if bytes_eq x (codes "axiom") then Some Axiom
    else (if bytes_eq x (codes "hypothesis") then Some Hypothesis
    else (if bytes_eq x (codes "definition") then Some Definition
    else (if bytes_eq x (codes "assumption") then Some Assumption
    else (if bytes_eq x (codes "lemma") then Some Lemma else later_role x))))

-- a clause is no conjecture
abbrev pub has_role : Language → Option Role → Result Role ProblemKind
has_role l None = Err NoRole
has_role Cnf (Some Conjecture) = Err NoRole
has_role l (Some r) = Ok r

-- whether an entry has this name
abbrev pub is_named : List Entry → List ℕ → Bool
is_named es x = list_any (λ e. eq_by_cmp text_cmp e.name x) es
