-- The clauses of a problem that was read are disjunctions of literals.
use Rattle.std.proofs.Common.{◌≡◌, ℕ, ◌≤◌, if◌then◌else◌, List, [], ◌∷◌, ◌++◌, length, drop, drop_of_length-le, append-nil, refl, sym, ap, subst, ◌∙◌, arith}
use Rattle.std.specs.List.{All}
use Rattle.std.proofs.lemmas.List.Elements.{All-cons, All-head, All-tail}
use Rattle.refutations.specs.declared.clause.Clause.{Clause}
use Rattle.refutations.specs.Clauses.{IsClauseOf, clause_of}
use Rattle.tptp_problem.specs.declared.problems.Language.{Language}
use Rattle.tptp_problem.specs.declared.problems.Language.TheVariants.{Fof, Cnf}
use Rattle.tptp_problem.specs.declared.problems.Entry.{Entry}
use Rattle.tptp_problem.specs.ProblemClauses.{is_cnf, clauses_of, IsReadEntry}

one_more : (l : Language) (e : Entry) (cs : List Clause) → e.language ≡ l → IsReadEntry e → All IsClauseOf cs → All IsClauseOf (if is_cnf l then clause_of e.formula ∷ cs else cs)
one_more Fof e cs at h rest = rest
one_more Cnf e cs at h rest = All-cons IsClauseOf (clause_of e.formula) cs (record { shape = h.clause at; formed = h.formed; vars = refl }) rest

clauses_are : (es : List Entry) → All IsReadEntry es → All IsClauseOf (clauses_of es)
clauses_are [] h = λ k d l. absurd (omega arith)
clauses_are (e ∷ es) h = one_more e.language e (clauses_of es) refl (All-head IsReadEntry e es h) (clauses_are es (All-tail IsReadEntry e es h))

-- where no entry is left, the clauses are those of all entries
pub all_clauses : (rest es : List Entry) (cs : List Clause) (i : ℕ) → rest ≡ es → length rest ≤ i → cs ++ clauses_of (drop i rest) ≡ clauses_of es → All IsReadEntry es → All IsClauseOf cs
all_clauses rest es cs i whole over so_far h =
    let none : drop i rest ≡ [] = drop_of_length-le rest {i = i} over in
    let same : cs ≡ clauses_of es = sym (append-nil cs) ∙ ap (λ (ds : List Entry). cs ++ clauses_of ds) (sym none) ∙ so_far in
    subst (All IsClauseOf) (sym same) (clauses_are es h)
