-- What the steps of a refutation derive, and the proofs in LK that they stand for: each has the closures of all clauses on the left, and
-- beside them the literals of the clause that is derived.
--     over_literals, over_instances      the proof of an input clause
--     derives      what a step derives from clauses and earlier steps
--     refutation      the proof of a whole refutation, or its first faulty step
use Rattle.std.specs.Prelude.{ℕ, suc, ◌-◌, ◌&&◌, if◌then◌else◌, List, [], ◌∷◌, ◌++◌, length, slice_get, Option, Some, None, Result, Ok, Err}
use Rattle.std.specs.FinMap as fin
use Rattle.fol.specs.declared.symbols.Var.{Var}
use Rattle.fol.specs.Syntax.{Formula, free, bot, not, or, all}
use Rattle.finite.specs.Finite as set
use Rattle.fol.specs.Formed.{IsFormed}
use Rattle.std.specs.List.{All}
use Rattle.substitution.specs.Image.{IsFormedMap}
use Rattle.substitution.specs.Instance.{inst}
use Rattle.lk_rules.specs.declared.sequent.Sequent.{Sequent}
use Rattle.lk_rules.specs.declared.sequent.Side.TheVariants.{Left, Right}
use Rattle.lk_rules.specs.declared.rule.Rule.TheVariants.{Ax, BotL, NegL, OrL, AllL, Cut}
use Rattle.lk_rules.specs.Sequents.{empty, adds_to, same_sequents, union_sequent, image_sequent}
use Rattle.proof_trees.specs.Trees.{Tree, node, none, more}
use Rattle.proof_trees.specs.FormulaSets.{without}
use Rattle.proof_trees.specs.Substitution.{sub}
use Rattle.refutations.specs.declared.clause.Clause.{Clause}
use Rattle.refutations.specs.declared.step.ResStep.{ResStep}
use Rattle.refutations.specs.declared.step.ResStep.TheVariants.{Input, Subst, Resolve}
use Rattle.refutations.specs.declared.step.ResCause.{ResCause}
use Rattle.refutations.specs.declared.step.ResCause.TheVariants.{Reference, AtomMissing, NotEmpty}
use Rattle.refutations.specs.Clauses.{literals_of, closure_of, closures}

-- a disjunction of literals on the left of s, and its literals in s: down to the leaves
abbrev pub over_literals : Sequent → Formula → Tree
over_literals s (or f g) = node (OrL (or f g)) s (more (over_literals (adds_to s Left f) f) (more (over_literals (adds_to s Left g) g) none))
over_literals s (not f) = node (NegL (not f)) s (more (node (Ax f) (adds_to s Right f) none) none)
over_literals s bot = node BotL s none
over_literals s f = node (Ax f) s none

-- the body of a universal formula
abbrev pub body_of : Formula → Formula
body_of (all b) = b
body_of f = f

-- a universal closure on the left of s: each variable for itself, the outermost first, and then the literals
abbrev pub over_instances : Sequent → List Var → Formula → Tree
over_instances s [] f = over_literals s f
over_instances s (x ∷ xs) f =
    node (AllL f (free x)) s (more (over_instances (adds_to s Left (inst (body_of f) (free x))) xs (inst (body_of f) (free x))) none)

-- a clause that was derived, as a sequent, with the proof that it stands for
pub record Derived : Type 0 where
  pub clause : Sequent
  pub tree : Tree

-- a clause itself
abbrev pub of_input : Sequent → Clause → Derived
of_input g c = record {
  clause = literals_of c.matrix;
  tree = over_instances (union_sequent g (literals_of c.matrix)) c.vars (closure_of c);
}

-- what is left of two clauses when an atom goes from the right of the first and the left of the second
abbrev pub resolvent : Sequent → Sequent → Formula → Sequent
resolvent p n a = union_sequent (record { left = p.left; right = without p.right a }) (record { left = without n.left a; right = n.right })

-- their resolvent, by a cut on the atom
abbrev pub of_resolution : Sequent → Derived → Derived → Formula → Result Derived ResCause
of_resolution g p n a =
    if set.has p.clause.right a && set.has n.clause.left a
    then Ok (record {
      clause = resolvent p.clause n.clause a;
      tree = node (Cut a) (union_sequent g (resolvent p.clause n.clause a)) (more p.tree (more n.tree none));
    })
    else Err AtomMissing

abbrev pub referred : {A : Type 0} → Option A → (A → Result Derived ResCause) → Result Derived ResCause
referred None use_it = Err Reference
referred (Some a) use_it = use_it a

-- what a step derives from clauses, after steps that derive these; g has the closures of the clauses
abbrev pub derives : List Clause → Sequent → List Derived → ResStep → Result Derived ResCause
derives cs g ds (Input i) = referred (slice_get cs i) (λ c. Ok (of_input g c))
derives cs g ds (Subst k m) = referred (slice_get ds k) (λ d. Ok (record { clause = image_sequent (fin.get m) d.clause; tree = sub d.tree m }))
derives cs g ds (Resolve p n a) = referred (slice_get ds p) (λ d. referred (slice_get ds n) (λ e. of_resolution g d e a))

-- what a step's outcome does to the steps behind it
abbrev pub and_on : ℕ → Result Derived ResCause → (Derived → Result (List Derived) (ℕ × ResCause)) → Result (List Derived) (ℕ × ResCause)
and_on i (Ok d) go_on = go_on d
and_on i (Err cause) go_on = Err (i, cause)

-- what the steps from number i on derive, after steps that derive these, or the first faulty one
abbrev pub derives_all : List Clause → Sequent → List Derived → ℕ → List ResStep → Result (List Derived) (ℕ × ResCause)
derives_all cs g ds i [] = Ok ds
derives_all cs g ds i (step ∷ rest) = and_on i (derives cs g ds step) (λ d. derives_all cs g (ds ++ d ∷ []) (suc i) rest)

-- the proof of the last step, whose clause is empty
abbrev pub concluded : ℕ → Option Derived → Result Tree (ℕ × ResCause)
concluded n None = Err (0, NotEmpty)
concluded n (Some d) = if same_sequents d.clause empty then Ok d.tree else Err (n - 1, NotEmpty)

abbrev pub last_of : ℕ → Result (List Derived) (ℕ × ResCause) → Result Tree (ℕ × ResCause)
last_of n (Err fault) = Err fault
last_of n (Ok ds) = concluded n (slice_get ds (n - 1))

-- the proof that a refutation of clauses stands for, or its first faulty step
unfoldable pub refutation : List Clause → List ResStep → Result Tree (ℕ × ResCause)
refutation cs steps = last_of (length steps) (derives_all cs (closures cs) [] 0 steps)

-- the maps and the atoms that a step names are well formed
abbrev pub IsFormedStep : ResStep → Type 0
IsFormedStep (Input i) = Unit {0}
IsFormedStep (Subst k m) = IsFormedMap (fin.get m)
IsFormedStep (Resolve p n a) = IsFormed a

abbrev pub AreFormedSteps : List ResStep → Type 0
AreFormedSteps steps = All IsFormedStep steps
