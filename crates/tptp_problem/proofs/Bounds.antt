-- What a reader leaves, and the place of a fault, is within its bytes.
use Rattle.std.proofs.Common.{◌≡◌, ℕ, suc, ◌≤◌, Bool, List, length, drop, length-drop, ap, subst, arith}
use Rattle.tptp_tokens.specs.declared.tokens.Token.{Token}
use Rattle.tptp_tokens.specs.declared.tokens.Token.TheVariants.{Name}
use Rattle.tptp_read.specs.Turns.{Look, token}
use Rattle.tptp_problem.specs.declared.errors.ProblemKind.{ProblemKind}
use Rattle.tptp_problem.specs.declared.annotations.Bracket.{Bracket}
use Rattle.tptp_problem.specs.declared.problems.Language.{Language}
use Rattle.tptp_problem.specs.Tokens.{Takes, TakesAll, no_token, more_tokens}
use Rattle.tptp_problem.specs.Words.{digits}
use Rattle.tptp_problem.specs.AnnotationTexts.{ArePieces, no_piece, separator, plain, group, IsAnnotation, IsAnnotationFront, outside, opened, IsAnnotationFault}
use Rattle.tptp_problem.specs.AnnotationTexts as annotations
use Rattle.tptp_problem.specs.BodyTexts.{Blames, at_token, at_end, at_bytes, IsBodyFault}
use Rattle.tptp_problem.specs.EntryTexts.{Lacks, other_token, end_of_text, TakesName, name, number, LacksName, no_name_token, no_name_left, no_name_bytes}
use Rattle.tptp_problem.specs.EntryTexts as entries
use Rattle.tptp_problem.proofs.Passing.{blanks_bound, IsSizedLook, look_sized, looked}
use Rattle.tptp_problem.proofs.Passing as looking

pub takes_bound : (bs front : List ℕ) (t : Token) (rest : List ℕ) → Takes bs front t rest → (length front ≤ length bs) × (suc (length rest) ≤ length front)
takes_bound bs front t rest one = subst (λ (l : Look (List ℕ)). IsSizedLook l (length bs)) (looked bs (token (length front) t rest) (looking.at_token front rest t one)) (look_sized bs)

all_bound : (bs : List ℕ) (ts : List Token) (rest : List ℕ) → TakesAll bs ts rest → length rest ≤ length bs
all_bound bs ts rest (no_token cs) = omega arith
all_bound bs ts rest (more_tokens cs front ds es t us first more) = let (p, q) = takes_bound cs front t ds first in omega (arith, all_bound ds us es more)

pub lacks_bound : (wanted : Token → Bool) (bs : List ℕ) (n : ℕ) (k : ProblemKind) → Lacks wanted bs n k → n ≤ length bs
lacks_bound wanted bs n k (other_token front rest t one other) = (takes_bound bs front t rest one).0
lacks_bound wanted bs n k (end_of_text blanks) = omega arith
lacks_bound wanted bs n k (entries.no_token front m e blanks is) = omega (arith, blanks_bound bs front blanks)

pub name_bound : (bs front x rest : List ℕ) → TakesName bs front x rest → (length front ≤ length bs) × (length rest ≤ length bs)
name_bound bs front x rest (name y rest' one) = let (p, q) = takes_bound bs front (Name y) rest' one in (p, omega arith)
name_bound bs front x rest (number blanks some) = (blanks_bound bs front blanks, omega (arith, length-drop (digits front) front, blanks_bound bs front blanks))

pub lacks_name_bound : (bs : List ℕ) (n : ℕ) (k : ProblemKind) → LacksName bs n k → n ≤ length bs
lacks_name_bound bs n k (no_name_token front rest t one other) = (takes_bound bs front t rest one).0
lacks_name_bound bs n k (no_name_left blanks) = omega arith
lacks_name_bound bs n k (no_name_bytes front m e blanks is none) = omega (arith, blanks_bound bs front blanks)

blames_bound : (l : Language) (before : List Token) (bs : List ℕ) (n : ℕ) (k : ProblemKind) → Blames l before bs n k → n ≤ length bs
blames_bound l before bs n k (at_token front rest t e one cause) = (takes_bound bs front t rest one).0
blames_bound l before bs n k (at_end blanks) = omega arith
blames_bound l before bs n k (at_bytes front m e blanks wrong) = omega (arith, blanks_bound bs front blanks)

pub body_bound : (bs rest : List ℕ) (ts : List Token) → TakesAll bs ts rest → length rest ≤ length bs
body_bound bs rest ts all = all_bound bs ts rest all

pub body_fault_bound : (l : Language) (bs : List ℕ) (n : ℕ) (k : ProblemKind) → IsBodyFault l bs n k → n ≤ length bs
body_fault_bound l bs n k is = omega (arith, all_bound bs is.before is.rest is.takes, blames_bound l is.before is.rest n k is.blames)

pieces_bound : (bs : List ℕ) (some : Bool) (cs : List ℕ) → ArePieces bs some cs → length cs ≤ length bs
pieces_bound bs some cs (no_piece ds) = omega arith
pieces_bound bs some cs (separator ds es more is rest) = omega (arith, length-drop 1 ds, pieces_bound (drop 1 ds) more es rest)
pieces_bound bs some cs (plain n ds es more is rest) = omega (arith, length-drop n ds, pieces_bound (drop n ds) more es rest)
pieces_bound bs some cs (group o ds es zs more last is within shut rest) =
    omega (arith, length-drop 1 ds, pieces_bound (drop 1 ds) more es within, length-drop 1 es, pieces_bound (drop 1 es) last zs rest)

pub annotation_bound : (bs rest : List ℕ) → IsAnnotation bs rest → length rest ≤ length bs
annotation_bound bs rest is = let same : length rest ≡ length (drop 1 is.closing) = ap length is.behind in omega (arith, length-drop 1 is.closing, pieces_bound bs _ is.closing is.pieces)

front_bound : (bs : List ℕ) (inner : List Bracket) (some : Bool) (cs : List ℕ) → IsAnnotationFront bs inner some cs → length cs ≤ length bs
front_bound bs inner some cs (outside more ds pieces) = pieces_bound bs more ds pieces
front_bound bs inner some cs (opened o outer before more ds es front is pieces) = omega (arith, front_bound bs outer before ds front, length-drop 1 ds, pieces_bound (drop 1 ds) more es pieces)

pub annotation_fault_bound : (bs : List ℕ) (n : ℕ) (k : ProblemKind) → IsAnnotationFault bs n k → n ≤ length bs
annotation_fault_bound bs n k (annotations.at_end inner some front) = omega arith
annotation_fault_bound bs n k (annotations.at_bracket inner some cs o front is apart) = front_bound bs inner some cs front
annotation_fault_bound bs n k (annotations.at_bytes inner some cs m e front is) = omega (arith, front_bound bs inner some cs front)
