-- Entries, as a table of their places: what stands at each place, and what else is which fault there.
use Rattle.std.specs.Prelude.{◌≡◌, ℕ, suc, ◌-◌, ◌≤◌, Bool, true, false, List, [], ◌∷◌, ◌++◌, length, take, drop, Ok, Err}
use Rattle.fol.specs.Syntax.{Formula}
use Rattle.tptp_tokens.specs.declared.tokens.Token.{Token}
use Rattle.tptp_tokens.specs.declared.tokens.Token.TheVariants.{Name, Open, Close, Comma, Dot}
use Rattle.tptp_tokens.specs.declared.tokens.TextKind.{TextKind}
use Rattle.tptp_tokens.specs.declared.tokens.TextKind.TheVariants.{Expected, Deep}
use Rattle.tptp_tokens.specs.declared.tokens.Scan.TheVariants.{Wrong}
use Rattle.tptp_tokens.specs.Lexer.{scanned}
use Rattle.tptp_problem.specs.declared.errors.ProblemKind.{ProblemKind}
use Rattle.tptp_problem.specs.declared.errors.ProblemKind.TheVariants.{Text, NameTwice}
use Rattle.tptp_problem.specs.declared.problems.Language.{Language}
use Rattle.tptp_problem.specs.declared.problems.Role.{Role}
use Rattle.tptp_problem.specs.declared.problems.Role.TheVariants.{Conjecture}
use Rattle.tptp_problem.specs.declared.problems.Entry.{Entry}
use Rattle.tptp_problem.specs.declared.tokens.Mark.TheVariants.{Open as OpenMark, Comma as CommaMark, Dot as DotMark}
use Rattle.tptp_problem.specs.Tokens.{Blanks, Takes, TakesAll}
use Rattle.tptp_problem.specs.BodyTexts.{entry_limits, IsBody, IsBodyFault}
use Rattle.tptp_problem.specs.AnnotationTexts.{IsAnnotation, IsAnnotationFault}
use Rattle.tptp_problem.specs.Closures.{is_conjecture, conjectures}
use Rattle.tptp_problem.specs.Words.{is_mark, language_named, digits, role_named, has_role, is_named, is_name_token}

-- None of the wanted tokens stands there, with so many bytes left: another one, the end of the text, or bytes that are no token.
pub data Lacks (wanted : Token → Bool) (bs : List ℕ) : ℕ → ProblemKind → Type 0 where
  other_token : (front rest : List ℕ) (t : Token) → Takes bs front t rest → wanted t ≡ false → Lacks wanted bs (length front) (Text Expected)
  end_of_text : Blanks bs [] → Lacks wanted bs 0 (Text Expected)
  no_token : (front : List ℕ) (n : ℕ) (e : TextKind) → Blanks bs front → scanned front ≡ Wrong n e → Lacks wanted bs (length front - n) (Text e)

-- the name of an entry: a name, or all digits that stand there
pub data TakesName (bs front : List ℕ) : List ℕ → List ℕ → Type 0 where
  name : (x rest : List ℕ) → Takes bs front (Name x) rest → TakesName bs front x rest
  number : Blanks bs front → 1 ≤ digits front → TakesName bs front (take (digits front) front) (drop (digits front) front)

-- neither stands there
pub data LacksName (bs : List ℕ) : ℕ → ProblemKind → Type 0 where
  no_name_token : (front rest : List ℕ) (t : Token) → Takes bs front t rest → is_name_token t ≡ false → LacksName bs (length front) (Text Expected)
  no_name_left : Blanks bs [] → LacksName bs 0 (Text Expected)
  no_name_bytes : (front : List ℕ) (n : ℕ) (e : TextKind) → Blanks bs front → scanned front ≡ Wrong n e → digits front ≡ 0 → LacksName bs (length front - n) (Text e)

-- The places of an entry, with what has been read of it. `word` says how many bytes are left from its first word on.
pub data Place : Type 0 where
  at_word : Place
  behind_word : (l : Language) (word : ℕ) → Place
  at_name : (l : Language) (word : ℕ) → Place
  behind_name : (l : Language) (word : ℕ) (x : List ℕ) → Place
  at_role : (l : Language) (word : ℕ) (x : List ℕ) → Place
  behind_role : (l : Language) (x : List ℕ) (r : Role) → Place
  at_body : (l : Language) (x : List ℕ) (r : Role) → Place
  at_annotation : Entry → Place
  at_dot : Entry → Place
  behind_entry : Entry → Place

-- an entry behind these other ones begins with what stands before the place, and the second bytes are left there
pub data Reaches (earlier : List Entry) (bs : List ℕ) : Place → List ℕ → Type 0 where
  start : Reaches earlier bs at_word bs
  language : (x cs front ds : List ℕ) (l : Language) → Reaches earlier bs at_word cs → Takes cs front (Name x) ds → language_named x ≡ Ok l → Reaches earlier bs (behind_word l (length front)) ds
  open_mark : (l : Language) (w : ℕ) (cs front ds : List ℕ) → Reaches earlier bs (behind_word l w) cs → Takes cs front Open ds → Reaches earlier bs (at_name l w) ds
  named : (l : Language) (w : ℕ) (x cs front ds : List ℕ) → Reaches earlier bs (at_name l w) cs → TakesName cs front x ds → is_named earlier x ≡ false → Reaches earlier bs (behind_name l w x) ds
  name_mark : (l : Language) (w : ℕ) (x cs front ds : List ℕ) → Reaches earlier bs (behind_name l w x) cs → Takes cs front Comma ds → Reaches earlier bs (at_role l w x) ds
  role_word : (l : Language) (w : ℕ) (x y cs front ds : List ℕ) (r : Role) → Reaches earlier bs (at_role l w x) cs → Takes cs front (Name y) ds → has_role l (role_named y) ≡ Ok r → (is_conjecture r ≡ true → suc (length (conjectures earlier)) ≤ 1000) → Reaches earlier bs (behind_role l x r) ds
  role_mark : (l : Language) (x cs front ds : List ℕ) (r : Role) → Reaches earlier bs (behind_role l x r) cs → Takes cs front Comma ds → Reaches earlier bs (at_body l x r) ds
  plain_body : (l : Language) (x cs ds : List ℕ) (r : Role) (ts : List Token) (f : Formula) → Reaches earlier bs (at_body l x r) cs → TakesAll cs (ts ++ Close ∷ []) ds → IsBody l entry_limits ts f → Reaches earlier bs (at_dot (record { name = x; language = l; role = r; formula = f })) ds
  annotated_body : (l : Language) (x cs ds : List ℕ) (r : Role) (ts : List Token) (f : Formula) → Reaches earlier bs (at_body l x r) cs → TakesAll cs (ts ++ Comma ∷ []) ds → IsBody l entry_limits ts f → Reaches earlier bs (at_annotation (record { name = x; language = l; role = r; formula = f })) ds
  annotation : (e : Entry) (cs ds : List ℕ) → Reaches earlier bs (at_annotation e) cs → IsAnnotation cs ds → Reaches earlier bs (at_dot e) ds
  dot_mark : (e : Entry) (cs front ds : List ℕ) → Reaches earlier bs (at_dot e) cs → Takes cs front Dot ds → Reaches earlier bs (behind_entry e) ds

-- what else stands at a place is a fault, with so many bytes left
pub data Fails (earlier : List Entry) : Place → List ℕ → ℕ → ProblemKind → Type 0 where
  no_word : (bs : List ℕ) (n : ℕ) (k : ProblemKind) → Lacks is_name_token bs n k → Fails earlier at_word bs n k
  no_language : (bs x front rest : List ℕ) (k : ProblemKind) → Takes bs front (Name x) rest → language_named x ≡ Err k → Fails earlier at_word bs (length front) k
  no_open_mark : (l : Language) (w : ℕ) (bs : List ℕ) (n : ℕ) (k : ProblemKind) → Lacks (is_mark OpenMark) bs n k → Fails earlier (behind_word l w) bs n k
  no_name : (l : Language) (w : ℕ) (bs : List ℕ) (n : ℕ) (k : ProblemKind) → LacksName bs n k → Fails earlier (at_name l w) bs n k
  name_twice : (l : Language) (w : ℕ) (bs x front rest : List ℕ) → TakesName bs front x rest → is_named earlier x ≡ true → Fails earlier (at_name l w) bs (length front) NameTwice
  no_name_mark : (l : Language) (w : ℕ) (x bs : List ℕ) (n : ℕ) (k : ProblemKind) → Lacks (is_mark CommaMark) bs n k → Fails earlier (behind_name l w x) bs n k
  no_role_word : (l : Language) (w : ℕ) (x bs : List ℕ) (n : ℕ) (k : ProblemKind) → Lacks is_name_token bs n k → Fails earlier (at_role l w x) bs n k
  no_role : (l : Language) (w : ℕ) (x bs y front rest : List ℕ) (k : ProblemKind) → Takes bs front (Name y) rest → has_role l (role_named y) ≡ Err k → Fails earlier (at_role l w x) bs (length front) k
  -- at the entry's first word
  conjecture_too_many : (l : Language) (w : ℕ) (x bs y front rest : List ℕ) → Takes bs front (Name y) rest → has_role l (role_named y) ≡ Ok Conjecture → 1000 ≤ length (conjectures earlier) → Fails earlier (at_role l w x) bs w (Text Deep)
  no_role_mark : (l : Language) (x bs : List ℕ) (r : Role) (n : ℕ) (k : ProblemKind) → Lacks (is_mark CommaMark) bs n k → Fails earlier (behind_role l x r) bs n k
  no_body : (l : Language) (x bs : List ℕ) (r : Role) (n : ℕ) (k : ProblemKind) → IsBodyFault l bs n k → Fails earlier (at_body l x r) bs n k
  no_annotation : (e : Entry) (bs : List ℕ) (n : ℕ) (k : ProblemKind) → IsAnnotationFault bs n k → Fails earlier (at_annotation e) bs n k
  no_dot_mark : (e : Entry) (bs : List ℕ) (n : ℕ) (k : ProblemKind) → Lacks (is_mark DotMark) bs n k → Fails earlier (at_dot e) bs n k

-- an entry behind these other ones
abbrev pub IsEntry : List Entry → List ℕ → Entry → List ℕ → Type 0
IsEntry earlier bs e rest = Reaches earlier bs (behind_entry e) rest
