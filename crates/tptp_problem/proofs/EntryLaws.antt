-- What the reading of an entry gives is what the grammar says of it.
use Rattle.std.proofs.Common.{◌≡◌, ℕ, suc, ◌≤◌, Bool, true, false, List, length, inl, inr, Result, Ok, Err, refl, sym, ◌∙◌, ap, subst, arith}
use Rattle.fol.specs.Syntax.{Formula}
use Rattle.tptp_tokens.specs.declared.tokens.Token.{Token}
use Rattle.tptp_tokens.specs.declared.tokens.Token.TheVariants.{Name, Open, Comma, Dot}
use Rattle.tptp_tokens.specs.declared.tokens.TextKind.TheVariants.{Deep}
use Rattle.tptp_tokens.specs.Lexer.{scanned}
use Rattle.tptp_read.specs.Reader.{◌>>=◌}
use Rattle.tptp_problem.specs.declared.errors.Fault.{Fault}
use Rattle.tptp_problem.specs.declared.errors.ProblemKind.{ProblemKind}
use Rattle.tptp_problem.specs.declared.errors.ProblemKind.TheVariants.{Text, NameTwice}
use Rattle.tptp_problem.specs.declared.problems.Language.{Language}
use Rattle.tptp_problem.specs.declared.problems.Role.{Role}
use Rattle.tptp_problem.specs.declared.problems.Role.TheVariants.{Conjecture}
use Rattle.tptp_problem.specs.declared.problems.Entry.{Entry}
use Rattle.tptp_problem.specs.declared.tokens.Mark.{Mark}
use Rattle.tptp_problem.specs.declared.tokens.Mark.TheVariants.{Open as OpenMark, Comma as CommaMark, Dot as DotMark}
use Rattle.tptp_problem.specs.Tokens.{Takes}
use Rattle.tptp_problem.specs.Words.{is_mark, is_name_token, language_named, role_named, has_role, is_named}
use Rattle.tptp_problem.specs.Readers.{fault, passed, look_from, by_look, mark_at, name_token, word_at, name_at, role_of_name, within_conjectures, role_at, token_at}
use Rattle.tptp_problem.specs.BodyReader.{body_at}
use Rattle.tptp_problem.specs.AnnotationReader.{annotation_at}
use Rattle.tptp_problem.specs.Closures.{conjectures}
use Rattle.tptp_problem.specs.EntryReader.{rest_at, entry_at, entry_behind}
use Rattle.tptp_problem.specs.EntryTexts.{Lacks, Place, at_word, behind_word, at_name, behind_name, at_role, behind_role, at_body, at_annotation, at_dot, behind_entry, Reaches, start, language, open_mark, named, name_mark, role_word, role_mark, plain_body, annotated_body, annotation, dot_mark, Fails, no_word, no_language, no_open_mark, no_name, name_twice, no_name_mark, no_role_word, no_role, conjecture_too_many, no_role_mark, no_body, no_annotation, no_dot_mark, IsEntry}
use Rattle.tptp_problem.proofs.Passing.{passed_again}
use Rattle.tptp_problem.proofs.Bounds.{takes_bound, lacks_bound, name_bound, lacks_name_bound, body_bound, body_fault_bound, annotation_bound, annotation_fault_bound}
use Rattle.tptp_problem.proofs.TokenLaws.{RefusesName, SaysNamed, named_says, named_taken, named_blamed, named_lacks, SaysMark, mark_says, mark_complete, mark_blamed, IsWithin, Limited, limited, within_kept, within_passed, SaysName, name_says, name_complete, name_twice_blamed, name_lacks}
use Rattle.tptp_problem.proofs.BodyTexts.{SaysBody, body_says, body_complete, body_blamed}
use Rattle.tptp_problem.proofs.AnnotationLaws.{SaysAnnotation, annotation_says, annotation_complete, annotation_blamed}

abbrev pub EntryResult : Type 0
EntryResult = Result (Entry × List ℕ) Fault

-- two steps of a reader
pub then_says : {A B : Type 0} (P : Result B Fault → Type 0) (Q : Result A Fault → Type 0) (x : Result A Fault) (f : A → Result B Fault) → Q x → ((a : A) → Q (Ok a) → P (f a)) → ((e : Fault) → Q (Err e) → P (Err e)) → P (x >>= f)
then_says P Q (Ok a) f q ok err = ok a q
then_says P Q (Err e) f q ok err = err e q

pub and_then : {A B : Type 0} (x : Result A Fault) (a : A) (f : A → Result B Fault) → x ≡ Ok a → (x >>= f) ≡ f a
and_then {A = A} x a f is = ap (λ (y : Result A Fault). y >>= f) is

pub and_stop : {A B : Type 0} (x : Result A Fault) (e : Fault) (f : A → Result B Fault) → x ≡ Err e → (x >>= f) ≡ Err e
and_stop {A = A} x e f is = ap (λ (y : Result A Fault). y >>= f) is

-- the marks
open_mark_is : (t : Token) → is_mark OpenMark t ≡ true → t ≡ Open
open_mark_is Open is = refl
open_mark_is t is = cc

comma_mark_is : (t : Token) → is_mark CommaMark t ≡ true → t ≡ Comma
comma_mark_is Comma is = refl
comma_mark_is t is = cc

dot_mark_is : (t : Token) → is_mark DotMark t ≡ true → t ≡ Dot
dot_mark_is Dot is = refl
dot_mark_is t is = cc

-- the reader from each place on
abbrev made : Language → List ℕ → Role → Formula → Entry
made l x r f = record { name = x; language = l; role = r; formula = f }

abbrev from_dot : Entry → List ℕ → EntryResult
from_dot e bs = mark_at DotMark bs >>= λ (rest : List ℕ). Ok (e, rest)

abbrev from_body_end : Bool → Entry → List ℕ → EntryResult
from_body_end c e bs = rest_at c bs >>= from_dot e

abbrev from_body : Language → List ℕ → Role → List ℕ → EntryResult
from_body l x r bs = body_at l bs >>= λ (body : Formula × Bool × List ℕ). from_body_end body.1 (made l x r body.0) body.2

abbrev from_role_mark : Language → List ℕ → Role → List ℕ → EntryResult
from_role_mark l x r bs = mark_at CommaMark bs >>= from_body l x r

module _ (earlier : List Entry) where
  abbrev conjectured : ℕ
  conjectured = length (conjectures earlier)

  abbrev from_role : Language → ℕ → List ℕ → List ℕ → EntryResult
  from_role l w x bs = role_at l conjectured w bs >>= λ (role : Role × List ℕ). from_role_mark l x role.0 role.1

  abbrev from_name_mark : Language → ℕ → List ℕ → List ℕ → EntryResult
  from_name_mark l w x bs = mark_at CommaMark bs >>= from_role l w x

  abbrev from_name : Language → ℕ → List ℕ → EntryResult
  from_name l w bs = name_at (is_named earlier) bs >>= λ (name : List ℕ × List ℕ). from_name_mark l w name.0 name.1

  abbrev from_word : Language → ℕ → List ℕ → EntryResult
  from_word l w bs = mark_at OpenMark bs >>= from_name l w

  abbrev from : Place → List ℕ → EntryResult
  from at_word bs = word_at bs >>= λ (word : Language × ℕ × List ℕ). from_word word.0 word.1 word.2
  from (behind_word l w) bs = from_word l w bs
  from (at_name l w) bs = from_name l w bs
  from (behind_name l w x) bs = from_name_mark l w x bs
  from (at_role l w x) bs = from_role l w x bs
  from (behind_role l x r) bs = from_role_mark l x r bs
  from (at_body l x r) bs = from_body l x r bs
  from (at_annotation e) bs = from_body_end true e bs
  from (at_dot e) bs = from_dot e bs
  from (behind_entry e) bs = Ok (e, bs)

  entry_from : (bs : List ℕ) → entry_behind earlier bs ≡ from at_word bs
  unfolding entry_at
  entry_from bs = refl

  -- white space and comments before an entry
  word_passed : (bs : List ℕ) → word_at (passed 0 bs) ≡ word_at bs
  unfolding word_at
  word_passed bs = ap (λ (cs : List ℕ). by_look (name_token language_named) (look_from cs (scanned cs))) (passed_again bs)

  pub entry_passed : (bs : List ℕ) → entry_behind earlier (passed 0 bs) ≡ entry_behind earlier bs
  entry_passed bs = entry_from (passed 0 bs) ∙ (ap (λ (x : Result (Language × ℕ × List ℕ) Fault). x >>= λ (word : Language × ℕ × List ℕ). from_word word.0 word.1 word.2) (word_passed bs) ∙ sym (entry_from bs))

  module _ (bs : List ℕ) where
    -- what an answer says of the entry, with no more bytes left than there were
    pub record Stops (e : Fault) : Type 0 where
      pub place : Place
      pub bytes : List ℕ
      pub reaches : Reaches earlier bs place bytes
      pub fails : Fails earlier place bytes e.left e.kind
      pub bound : e.left ≤ length bs

    abbrev pub SaysEntry : EntryResult → Type 0
    SaysEntry (Ok x) = IsEntry earlier bs x.0 x.1 × (suc (length x.1) ≤ length bs)
    SaysEntry (Err e) = Stops e

    record At (p : Place) (cs : List ℕ) : Type 0 where
      there : Reaches earlier bs p cs
      within : length cs ≤ length bs

    stop : (p : Place) (cs : List ℕ) (e : Fault) → At p cs → Fails earlier p cs e.left e.kind → e.left ≤ length cs → Stops e
    stop p cs e at fails bound = let within : length cs ≤ length bs = at.within in record { place = p; bytes = cs; reaches = at.there; fails = fails; bound = omega arith }

    reached : (p : Place) (cs rest : List ℕ) → length cs ≤ length bs → length rest ≤ length cs → Reaches earlier bs p rest → At p rest
    reached p cs rest within less there = record { there = there; within = omega arith }

    says_mark : (m : Mark) (u : Token) → ((t : Token) → is_mark m t ≡ true → t ≡ u) → (p q : Place) (cs : List ℕ) (f : List ℕ → EntryResult) → At p cs → ((front rest : List ℕ) → Takes cs front u rest → Reaches earlier bs q rest) → ((n : ℕ) (k : ProblemKind) → Lacks (is_mark m) cs n k → Fails earlier p cs n k) → ((rest : List ℕ) → suc (length rest) ≤ length bs → At q rest → SaysEntry (f rest)) → SaysEntry (mark_at m cs >>= f)
    says_mark m u one_is p q cs f at reaches fails next =
        then_says SaysEntry (SaysMark m cs) (mark_at m cs) f (mark_says m cs)
        (λ rest (front, (t, (one, is))).
        let (less, shorter) = takes_bound cs front t rest one in
        let within : length cs ≤ length bs = at.within in
        next rest (omega arith) (reached q cs rest within (omega arith) (reaches front rest (subst (λ (v : Token). Takes cs front v rest) (one_is t is) one))))
        (λ e lacks. stop p cs e at (fails e.left e.kind lacks) (lacks_bound (is_mark m) cs e.left e.kind lacks))

    says_dot : (e : Entry) (cs : List ℕ) → At (at_dot e) cs → SaysEntry (from_dot e cs)
    says_dot e cs at = says_mark DotMark Dot dot_mark_is (at_dot e) (behind_entry e) cs (λ rest. Ok (e, rest)) at (λ front rest one. dot_mark e cs front rest at.there one) (no_dot_mark e cs) (λ rest shorter there. (there.there, shorter))

    says_annotation : (e : Entry) (cs : List ℕ) → At (at_annotation e) cs → SaysEntry (from_body_end true e cs)
    says_annotation e cs at =
        then_says SaysEntry (SaysAnnotation cs) (annotation_at cs) (from_dot e) (annotation_says cs)
        (λ rest is. says_dot e rest (reached (at_dot e) cs rest at.within (annotation_bound cs rest is) (annotation e cs rest at.there is)))
        (λ f is. stop (at_annotation e) cs f at (no_annotation e cs f.left f.kind is) (annotation_fault_bound cs f.left f.kind is))

    says_body_end : (l : Language) (x cs : List ℕ) (r : Role) (f : Formula) (c : Bool) (rest : List ℕ) → At (at_body l x r) cs → SaysBody l cs (Ok (f, c, rest)) → SaysEntry (from_body_end c (made l x r f) rest)
    says_body_end l x cs r f true rest at body =
        says_annotation (made l x r f) rest (reached (at_annotation (made l x r f)) cs rest at.within (body_bound cs rest _ body.takes) (annotated_body l x cs rest r body.tokens f at.there body.takes body.is))
    says_body_end l x cs r f false rest at body = says_dot (made l x r f) rest (reached (at_dot (made l x r f)) cs rest at.within (body_bound cs rest _ body.takes) (plain_body l x cs rest r body.tokens f at.there body.takes body.is))

    says_body : (l : Language) (x cs : List ℕ) (r : Role) → At (at_body l x r) cs → SaysEntry (from_body l x r cs)
    says_body l x cs r at =
        then_says SaysEntry (SaysBody l cs) (body_at l cs) (λ body. from_body_end body.1 (made l x r body.0) body.2) (body_says l cs)
        (λ body is. says_body_end l x cs r body.0 body.1 body.2 at is) (λ f is. stop (at_body l x r) cs f at (no_body l x cs r f.left f.kind is) (body_fault_bound l cs f.left f.kind is))

    says_role_mark : (l : Language) (x cs : List ℕ) (r : Role) → At (behind_role l x r) cs → SaysEntry (from_role_mark l x r cs)
    says_role_mark l x cs r at =
        says_mark CommaMark Comma comma_mark_is (behind_role l x r) (at_body l x r) cs (from_body l x r) at (λ front rest one. role_mark l x cs front rest r at.there one) (no_role_mark l x cs r) (λ rest shorter there. says_body l x rest r there)

    -- the role; a fault may be at the entry's first word
    abbrev SaysRole : Language → ℕ → List ℕ → List ℕ → Result (Role × List ℕ) Fault → Type 0
    SaysRole l w x cs (Ok r) = (y : List ℕ) × ((front : List ℕ) × (Takes cs front (Name y) r.1 × ((has_role l (role_named y) ≡ Ok r.0) × IsWithin conjectured r.0)))
    SaysRole l w x cs (Err e) = Fails earlier (at_role l w x) cs e.left e.kind × (e.left ≤ length bs)

    role_fails : (l : Language) (w : ℕ) (x cs : List ℕ) (n : ℕ) (k : ProblemKind) → length cs ≤ length bs → RefusesName (role_of_name l) cs n k → Fails earlier (at_role l w x) cs n k × (n ≤ length bs)
    role_fails l w x cs n k within (inl lacks) = (no_role_word l w x cs n k lacks, omega (arith, lacks_bound is_name_token cs n k lacks))
    role_fails l w x cs n k within (inr (y, (front, (rest, (one, (has, at)))))) =
        let (less, shorter) = takes_bound cs front (Name y) rest one in (subst (λ (m : ℕ). Fails earlier (at_role l w x) cs m k) (sym at) (no_role l w x cs y front rest k one has), omega arith)

    limited_says : (l : Language) (w : ℕ) (x cs y front rest : List ℕ) (r : Role) → w ≤ length bs → Takes cs front (Name y) rest → has_role l (role_named y) ≡ Ok r → SaysRole l w x cs (within_conjectures conjectured w r >>= λ (q : Role). Ok (q, rest))
    limited_says l w x cs y front rest r before one has =
        then_says (SaysRole l w x cs) (Limited conjectured w r) (within_conjectures conjectured w r) (λ q. Ok (q, rest)) (limited conjectured w r)
        (λ q (same, fits). subst (λ (z : Role). SaysRole l w x cs (Ok (z, rest))) same (y, (front, (one, (has, fits)))))
        (λ f (same, (over, at)). subst (λ (g : Fault). SaysRole l w x cs (Err g)) (sym at) (conjecture_too_many l w x cs y front rest one (has ∙ ap Ok same) over, before))

    role_says : (l : Language) (w : ℕ) (x cs : List ℕ) → w ≤ length bs → length cs ≤ length bs → SaysRole l w x cs (role_at l conjectured w cs)
    unfolding role_at
    role_says l w x cs before within =
        then_says (SaysRole l w x cs) (SaysNamed (role_of_name l) cs) (token_at (name_token (role_of_name l)) cs) (λ z. within_conjectures conjectured w z.0 >>= λ q. Ok (q, z.2)) (named_says (role_of_name l) cs)
        (λ z (y, (front, (one, (has, at)))). limited_says l w x cs y front z.2 z.0 before one has) (λ f refuses. role_fails l w x cs f.left f.kind within refuses)

    says_role : (l : Language) (w : ℕ) (x cs : List ℕ) → w ≤ length bs → At (at_role l w x) cs → SaysEntry (from_role l w x cs)
    says_role l w x cs before at =
        then_says SaysEntry (SaysRole l w x cs) (role_at l conjectured w cs) (λ role. from_role_mark l x role.0 role.1) (role_says l w x cs before at.within)
        (λ role (y, (front, (one, (has, fits)))).
        let (less, shorter) = takes_bound cs front (Name y) role.1 one in
        says_role_mark l x role.1 role.0 (reached (behind_role l x role.0) cs role.1 at.within (omega arith) (role_word l w x y cs front role.1 role.0 at.there one has fits)))
        (λ f (fails, bound). record { place = at_role l w x; bytes = cs; reaches = at.there; fails = fails; bound = bound })

    says_name_mark : (l : Language) (w : ℕ) (x cs : List ℕ) → w ≤ length bs → At (behind_name l w x) cs → SaysEntry (from_name_mark l w x cs)
    says_name_mark l w x cs before at =
        says_mark CommaMark Comma comma_mark_is (behind_name l w x) (at_role l w x) cs (from_role l w x) at (λ front rest one. name_mark l w x cs front rest at.there one) (no_name_mark l w x cs) (λ rest shorter there. says_role l w x rest before there)

    name_stops : (l : Language) (w : ℕ) (cs : List ℕ) (e : Fault) → At (at_name l w) cs → SaysName (is_named earlier) cs (Err e) → Stops e
    name_stops l w cs e at (inl lacks) = stop (at_name l w) cs e at (no_name l w cs e.left e.kind lacks) (lacks_name_bound cs e.left e.kind lacks)
    name_stops l w cs e at (inr (x, (front, (rest, (takes, (old, is)))))) = subst Stops (sym is) (stop (at_name l w) cs (fault (length front) NameTwice) at (name_twice l w cs x front rest takes old) (name_bound cs front x rest takes).0)

    says_name : (l : Language) (w : ℕ) (cs : List ℕ) → w ≤ length bs → At (at_name l w) cs → SaysEntry (from_name l w cs)
    says_name l w cs before at =
        then_says SaysEntry (SaysName (is_named earlier) cs) (name_at (is_named earlier) cs) (λ name. from_name_mark l w name.0 name.1) (name_says (is_named earlier) cs)
        (λ name (front, (takes, new)). says_name_mark l w name.0 name.1 before (reached (behind_name l w name.0) cs name.1 at.within (name_bound cs front name.0 name.1 takes).1 (named l w name.0 cs front name.1 at.there takes new)))
        (λ f says. name_stops l w cs f at says)

    says_word : (l : Language) (w : ℕ) (cs : List ℕ) → w ≤ length bs → At (behind_word l w) cs → SaysEntry (from_word l w cs)
    says_word l w cs before at =
        says_mark OpenMark Open open_mark_is (behind_word l w) (at_name l w) cs (from_name l w) at (λ front rest one. open_mark l w cs front rest at.there one) (no_open_mark l w cs) (λ rest shorter there. says_name l w rest before there)

    begins : At at_word bs
    begins = record { there = start; within = omega arith }

    word_stops : (e : Fault) → RefusesName language_named bs e.left e.kind → Stops e
    word_stops e (inl lacks) = stop at_word bs e begins (no_word bs e.left e.kind lacks) (lacks_bound is_name_token bs e.left e.kind lacks)
    word_stops e (inr (x, (front, (rest, (one, (is, at)))))) =
        let (less, shorter) = takes_bound bs front (Name x) rest one in stop at_word bs e begins (subst (λ (m : ℕ). Fails earlier at_word bs m e.kind) (sym at) (no_language bs x front rest e.kind one is)) (omega arith)

    word_says : SaysNamed language_named bs (word_at bs)
    unfolding word_at
    word_says = named_says language_named bs

    pub entry_says : SaysEntry (entry_behind earlier bs)
    entry_says = subst SaysEntry (sym (entry_from bs)) (
        then_says SaysEntry (SaysNamed language_named bs) (word_at bs) (λ word. from_word word.0 word.1 word.2) word_says
        (λ word (x, (front, (one, (is, at)))).
        let (less, shorter) = takes_bound bs front (Name x) word.2 one in
        says_word word.0 word.1 word.2 (omega arith) (reached (behind_word word.0 word.1) bs word.2 (omega arith) (omega arith) (subst (λ (w : ℕ). Reaches earlier bs (behind_word word.0 w) word.2) (sym at) (language x bs front word.2 word.0 start one is))))
        (λ f refuses. word_stops f refuses))

  -- what reaches a place is read up to there
  word_there : (bs x front rest : List ℕ) (l : Language) → Takes bs front (Name x) rest → language_named x ≡ Ok l → word_at bs ≡ Ok (l, length front, rest)
  unfolding word_at
  word_there bs x front rest l one is = named_taken language_named bs x front rest l one is

  role_there : (l : Language) (w : ℕ) (cs y front rest : List ℕ) (r : Role) → Takes cs front (Name y) rest → has_role l (role_named y) ≡ Ok r → role_at l conjectured w cs ≡ (within_conjectures conjectured w r >>= λ (q : Role). Ok (q, rest))
  unfolding role_at
  role_there l w cs y front rest r one has = and_then (token_at (name_token (role_of_name l)) cs) (r, length front, rest) (λ z. within_conjectures conjectured w z.0 >>= λ q. Ok (q, z.2)) (named_taken (role_of_name l) cs y front rest r one has)

  reaches_from : (bs : List ℕ) (p : Place) (cs : List ℕ) → Reaches earlier bs p cs → from at_word bs ≡ from p cs
  reaches_from bs p cs start = refl
  reaches_from bs p cs (language x cs' front ds l there one is) = reaches_from bs at_word cs' there ∙ and_then (word_at cs') (l, length front, ds) (λ word. from_word word.0 word.1 word.2) (word_there cs' x front ds l one is)
  reaches_from bs p cs (open_mark l w cs' front ds there one) = reaches_from bs (behind_word l w) cs' there ∙ and_then (mark_at OpenMark cs') ds (from_name l w) (mark_complete OpenMark cs' front ds Open one refl)
  reaches_from bs p cs (named l w x cs' front ds there takes new) =
      reaches_from bs (at_name l w) cs' there ∙ and_then (name_at (is_named earlier) cs') (x, ds) (λ name. from_name_mark l w name.0 name.1) (name_complete (is_named earlier) cs' front x ds takes new)
  reaches_from bs p cs (name_mark l w x cs' front ds there one) = reaches_from bs (behind_name l w x) cs' there ∙ and_then (mark_at CommaMark cs') ds (from_role l w x) (mark_complete CommaMark cs' front ds Comma one refl)
  reaches_from bs p cs (role_word l w x y cs' front ds r there one has fits) =
      reaches_from bs (at_role l w x) cs' there
      ∙ and_then (role_at l conjectured w cs') (r, ds) (λ role. from_role_mark l x role.0 role.1) (role_there l w cs' y front ds r one has ∙ and_then (within_conjectures conjectured w r) r (λ q. Ok (q, ds)) (within_kept conjectured w r fits))
  reaches_from bs p cs (role_mark l x cs' front ds r there one) = reaches_from bs (behind_role l x r) cs' there ∙ and_then (mark_at CommaMark cs') ds (from_body l x r) (mark_complete CommaMark cs' front ds Comma one refl)
  reaches_from bs p cs (plain_body l x cs' ds r ts f there takes is) =
      reaches_from bs (at_body l x r) cs' there ∙ and_then (body_at l cs') (f, false, ds) (λ body. from_body_end body.1 (made l x r body.0) body.2) (body_complete l cs' ts f false ds takes is)
  reaches_from bs p cs (annotated_body l x cs' ds r ts f there takes is) =
      reaches_from bs (at_body l x r) cs' there ∙ and_then (body_at l cs') (f, true, ds) (λ body. from_body_end body.1 (made l x r body.0) body.2) (body_complete l cs' ts f true ds takes is)
  reaches_from bs p cs (annotation e cs' ds there is) = reaches_from bs (at_annotation e) cs' there ∙ and_then (annotation_at cs') ds (from_dot e) (annotation_complete cs' ds is)
  reaches_from bs p cs (dot_mark e cs' front ds there one) = reaches_from bs (at_dot e) cs' there ∙ and_then (mark_at DotMark cs') ds (λ rest. Ok (e, rest)) (mark_complete DotMark cs' front ds Dot one refl)

  word_refused : (bs : List ℕ) (n : ℕ) (k : ProblemKind) → Fails earlier at_word bs n k → word_at bs ≡ Err (fault n k)
  unfolding word_at
  word_refused bs n k (no_word cs m j lacks) = named_lacks language_named cs m j lacks
  word_refused bs n k (no_language cs x front rest j one is) = named_blamed language_named cs x front rest j one is

  name_refused : (l : Language) (w : ℕ) (bs : List ℕ) (n : ℕ) (k : ProblemKind) → Fails earlier (at_name l w) bs n k → name_at (is_named earlier) bs ≡ Err (fault n k)
  name_refused l w bs n k (no_name l' w' cs m j lacks) = name_lacks (is_named earlier) cs m j lacks
  name_refused l w bs n k (name_twice l' w' cs x front rest takes old) = name_twice_blamed (is_named earlier) cs front x rest takes old

  role_refused : (l : Language) (w : ℕ) (x bs : List ℕ) (n : ℕ) (k : ProblemKind) → Fails earlier (at_role l w x) bs n k → role_at l conjectured w bs ≡ Err (fault n k)
  unfolding role_at
  role_refused l w x bs n k (no_role_word l' w' x' cs m j lacks) = and_stop (token_at (name_token (role_of_name l')) cs) (fault m j) (λ z. within_conjectures conjectured w' z.0 >>= λ q. Ok (q, z.2)) (named_lacks (role_of_name l') cs m j lacks)
  role_refused l w x bs n k (no_role l' w' x' cs y front rest j one has) =
      and_stop (token_at (name_token (role_of_name l')) cs) (fault (length front) j) (λ z. within_conjectures conjectured w' z.0 >>= λ q. Ok (q, z.2)) (named_blamed (role_of_name l') cs y front rest j one has)
  role_refused l w x bs n k (conjecture_too_many l' w' x' cs y front rest one has over) =
      role_there l' w' cs y front rest Conjecture one has ∙ and_stop (within_conjectures conjectured w' Conjecture) (fault w' (Text Deep)) (λ q. Ok (q, rest)) (within_passed conjectured w' over)

  -- and what else stands there is its fault
  fails_from : (p : Place) (bs : List ℕ) (n : ℕ) (k : ProblemKind) → Fails earlier p bs n k → from p bs ≡ Err (fault n k)
  fails_from at_word bs n k fails = and_stop (word_at bs) (fault n k) (λ word. from_word word.0 word.1 word.2) (word_refused bs n k fails)
  fails_from (behind_word l w) bs n k (no_open_mark l' w' cs m j lacks) = and_stop (mark_at OpenMark cs) (fault m j) (from_name l' w') (mark_blamed OpenMark cs m j lacks)
  fails_from (at_name l w) bs n k fails = and_stop (name_at (is_named earlier) bs) (fault n k) (λ name. from_name_mark l w name.0 name.1) (name_refused l w bs n k fails)
  fails_from (behind_name l w x) bs n k (no_name_mark l' w' x' cs m j lacks) = and_stop (mark_at CommaMark cs) (fault m j) (from_role l' w' x') (mark_blamed CommaMark cs m j lacks)
  fails_from (at_role l w x) bs n k fails = and_stop (role_at l conjectured w bs) (fault n k) (λ role. from_role_mark l x role.0 role.1) (role_refused l w x bs n k fails)
  fails_from (behind_role l x r) bs n k (no_role_mark l' x' cs r' m j lacks) = and_stop (mark_at CommaMark cs) (fault m j) (from_body l' x' r') (mark_blamed CommaMark cs m j lacks)
  fails_from (at_body l x r) bs n k (no_body l' x' cs r' m j is) = and_stop (body_at l' cs) (fault m j) (λ body. from_body_end body.1 (made l' x' r' body.0) body.2) (body_blamed l' cs m j is)
  fails_from (at_annotation e) bs n k (no_annotation e' cs m j is) = and_stop (annotation_at cs) (fault m j) (from_dot e') (annotation_blamed cs m j is)
  fails_from (at_dot e) bs n k (no_dot_mark e' cs m j lacks) = and_stop (mark_at DotMark cs) (fault m j) (λ rest. Ok (e', rest)) (mark_blamed DotMark cs m j lacks)
  fails_from (behind_entry e) bs n k fails = elim fails [ ]

  pub entry_complete : (bs : List ℕ) (e : Entry) (rest : List ℕ) → IsEntry earlier bs e rest → entry_behind earlier bs ≡ Ok (e, rest)
  entry_complete bs e rest there = entry_from bs ∙ reaches_from bs (behind_entry e) rest there

  pub entry_blamed : (bs : List ℕ) (p : Place) (cs : List ℕ) (n : ℕ) (k : ProblemKind) → Reaches earlier bs p cs → Fails earlier p cs n k → entry_behind earlier bs ≡ Err (fault n k)
  entry_blamed bs p cs n k there fails = entry_from bs ∙ (reaches_from bs p cs there ∙ fails_from p cs n k fails)
