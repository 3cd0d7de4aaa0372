-- The formulas of entries: well formed, and in `cnf` disjunctions of literals.
use Rattle.std.proofs.Common.{◌≡◌, ℕ, suc, true, List, [], ◌∷◌, ◌++◌, refl, ◌∙◌, ap, subst, arith}
use Rattle.std.specs.List.{All}
use Rattle.std.proofs.lemmas.Bool.{and_from}
use Rattle.std.proofs.lemmas.List.Elements.{All-push, All-head, All-tail}
use Rattle.fol.specs.Syntax as syntax
use Rattle.fol.specs.Syntax.{Formula}
use Rattle.tptp_tokens.specs.declared.tokens.Token.{Token}
use Rattle.tptp_tokens.specs.declared.tokens.Scan.TheVariants.{Found}
use Rattle.tptp_tokens.specs.Formed.{IsFormedScan, AreFormedTokens}
use Rattle.tptp_tokens.proofs.FormedTokens.{scanned_formed}
use Rattle.tptp_read.specs.declared.state.Limits.{Limits}
use Rattle.tptp_read.proofs.Formed.{formula_formed}
use Rattle.proof_trees.specs.FormulaSets.{is_atom}
use Rattle.refutations.specs.Clauses.{is_clause}
use Rattle.tptp_problem.specs.declared.problems.Language.{Language}
use Rattle.tptp_problem.specs.declared.problems.Language.TheVariants.{Fof, Cnf}
use Rattle.tptp_problem.specs.declared.problems.Role.{Role}
use Rattle.tptp_problem.specs.declared.problems.Entry.{Entry}
use Rattle.tptp_problem.specs.Tokens.{TakesAll, no_token, more_tokens}
use Rattle.tptp_problem.specs.Clauses.{IsAtom, predicate, equality, IsLiteral, falsity, positive, negative, negative_group, inequality, IsLiterals, last_literal, literal, IsClause, group, alone, chain}
use Rattle.tptp_problem.specs.BodyTexts.{entry_limits, IsBody}
use Rattle.tptp_problem.specs.EntryTexts.{Reaches, at_annotation, at_dot, plain_body, annotated_body, annotation, dot_mark, IsEntry}
use Rattle.tptp_problem.specs.Problems.{BeginsWith, nothing, entry}
use Rattle.tptp_problem.specs.ProblemClauses.{IsReadEntry}
use Rattle.tptp_problem.specs.Closures.{AreFormedEntries}
use Rattle.tptp_problem.proofs.BodyLaws.{to_formula}

-- what the grammar of clauses means is a disjunction of literals
atom_of : (lim : Limits) (l : ℕ) (ts us : List Token) (f : Formula) → IsAtom lim l ts f us → is_atom f ≡ true
atom_of lim l ts us f (predicate k xs ys s zs is) = refl
atom_of lim l ts us f (equality k xs ys zs s t first second) = refl

atom_clause : (f : Formula) → is_atom f ≡ true → is_clause f ≡ true
atom_clause (syntax.atom s ts) h = refl
atom_clause f h = cc

literal_of : (lim : Limits) (l : ℕ) (ts us : List Token) (f : Formula) → IsLiteral lim l ts f us → is_clause f ≡ true
literal_of lim l ts us f (falsity k xs) = refl
literal_of lim l ts us f (positive k xs ys g is) = atom_clause g (atom_of lim k xs ys g is)
literal_of lim l ts us f (negative k xs ys g is) = atom_of lim k xs ys g is
literal_of lim l ts us f (negative_group k xs ys g is) = atom_of lim k xs _ g is
literal_of lim l ts us f (inequality k xs ys zs s t first second) = refl

literals_of : (lim : Limits) (l n : ℕ) (f : Formula) (ts us : List Token) (g : Formula) → is_clause f ≡ true → IsLiterals lim l n f ts g us → is_clause g ≡ true
literals_of lim l n f ts us g before (last_literal k m d e xs ys fits is) = and_from (is_clause d) (is_clause e) before (literal_of lim k xs ys e is)
literals_of lim l n f ts us g before (literal k m d e h xs ys zs fits is rest) =
    literals_of lim k (suc m) (syntax.or d e) ys zs h (and_from (is_clause d) (is_clause e) before (literal_of lim k xs _ e is)) rest

clause_of : (lim : Limits) (l : ℕ) (ts us : List Token) (f : Formula) → IsClause lim l ts f us → is_clause f ≡ true
clause_of lim l ts us f (group k xs ys g is) = clause_of lim k xs _ g is
clause_of lim l ts us f (alone k xs ys g is) = literal_of lim k xs ys g is
clause_of lim l ts us f (chain k xs ys zs g h first rest) = literals_of lim k 1 g ys zs h (literal_of lim k xs _ g first) rest

-- tokens of a text are well formed
taken_formed : (bs cs : List ℕ) (ts us : List Token) → TakesAll bs us cs → (t : Token) → us ≡ ts ++ t ∷ [] → AreFormedTokens ts
taken_formed bs cs [] us all t is = tt
taken_formed bs cs (u ∷ ts) us (no_token ds) t is = cc
taken_formed bs cs (u ∷ ts) us (more_tokens ds front es zs v vs first more) t is =
    let same : v ≡ u = cc in
    let others : vs ≡ ts ++ t ∷ [] = cc in
    (subst IsFormedScan (first.found ∙ ap (λ (w : Token). Found w first.length) same) (scanned_formed front), taken_formed es zs ts vs more t others)

read_entry : (l : Language) (x : List ℕ) (r : Role) (bs rest : List ℕ) (ts : List Token) (t : Token) (f : Formula) → TakesAll bs (ts ++ t ∷ []) rest → IsBody l entry_limits ts f → IsReadEntry (record { name = x; language = l; role = r; formula = f })
read_entry l x r bs rest ts t f takes is = record {
  formed = (formula_formed entry_limits entry_limits.levels ts [] f (to_formula l entry_limits ts f is).0 (omega arith) (taken_formed bs rest ts (ts ++ t ∷ []) takes t refl)).0.formed;
  clause = in_cnf l is;
}
  where
    in_cnf : (k : Language) → IsBody k entry_limits ts f → k ≡ Cnf → is_clause f ≡ true
    in_cnf Fof d same = cc
    in_cnf Cnf d same = clause_of entry_limits entry_limits.levels ts [] f d

at_end_of_body : (es : List Entry) (bs : List ℕ) (e : Entry) (cs : List ℕ) → Reaches es bs (at_annotation e) cs → IsReadEntry e
at_end_of_body es bs e cs (annotated_body l x ds cs' r ts f there takes is) = read_entry l x r ds cs' ts _ f takes is

at_end : (es : List Entry) (bs : List ℕ) (e : Entry) (cs : List ℕ) → Reaches es bs (at_dot e) cs → IsReadEntry e
at_end es bs e cs (plain_body l x ds cs' r ts f there takes is) = read_entry l x r ds cs' ts _ f takes is
at_end es bs e cs (annotation e' ds cs' there is) = at_end_of_body es bs e' ds there

entry_read : (es : List Entry) (bs : List ℕ) (e : Entry) (rest : List ℕ) → IsEntry es bs e rest → IsReadEntry e
entry_read es bs e rest (dot_mark e' cs front ds there one) = at_end es bs e' cs there

pub begins_read : (text rest : List ℕ) (es : List Entry) → BeginsWith text es rest → All IsReadEntry es
begins_read text rest es nothing = λ k d l. absurd (omega arith)
begins_read text rest es (entry ds e bs cs before is) = All-push IsReadEntry ds e (begins_read text bs ds before) (entry_read ds bs e cs is)

pub read_formed : (es : List Entry) → All IsReadEntry es → AreFormedEntries es
read_formed [] h = tt
read_formed (e ∷ es) h = ((All-head IsReadEntry e es h).formed, read_formed es (All-tail IsReadEntry e es h))
