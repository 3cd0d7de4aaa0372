-- Generated jobs: eight kinds by turns, each job a line. Lines count from 0.
use Rattle.std.specs.Prelude.{ℕ, ◌+◌, ◌-◌, ◌/◌, ◌%◌, ◌==◌, if◌then◌else◌, List, [], ◌∷◌, ◌++◌, codes}
use Rattle.std.specs.List.{range_with_len, flat_map}
use Rattle.serde_json.specs.Data.{Data, string, object, member, no_members}
use Rattle.serde_json.specs.Written.{compact_text}
use Rattle.job_gen.specs.Values.{list_data, numbers_data, name_text}
use Rattle.job_gen.specs.Derivations.{derivation_steps}
use Rattle.job_gen.specs.Chains.{chain_nodes, left_roots, right_roots}

-- how many further cuts the derivation of line i has
abbrev pub cuts_of : ℕ → ℕ
cuts_of i = i / 8 % 16

-- how many implications the chain of line i has
abbrev pub implications_of : ℕ → ℕ
implications_of i = 2 + i / 8 % 7

-- the derivation with m further cuts
abbrev pub derivation_job : ℕ → ℕ → Data
derivation_job i m = object (member (codes "job") (string (name_text i)) (member (codes "op") (string (codes "lk"))
    (member (codes "steps") (list_data (derivation_steps m)) no_members)))

-- the chain of k implications
abbrev pub chain_job : ℕ → ℕ → Data
chain_job i k = object (member (codes "job") (string (name_text i)) (member (codes "left") (numbers_data (left_roots k))
    (member (codes "nodes") (list_data (chain_nodes k)) (member (codes "op") (string (codes "expansion"))
    (member (codes "right") (numbers_data (right_roots k)) no_members)))))

-- an operation on the proof of line j
abbrev pub proof_job : List ℕ → ℕ → ℕ → Data
proof_job op i j = object (member (codes "job") (string (name_text i)) (member (codes "op") (string op)
    (member (codes "proof") (string (name_text j)) no_members)))

-- the proof that is built from the expansion proof of line j
abbrev pub building_job : ℕ → ℕ → Data
building_job i j = object (member (codes "expansion") (string (name_text j)) (member (codes "job") (string (name_text i))
    (member (codes "op") (string (codes "fromexp")) no_members)))

-- The job of line i, by the rest of i by 8: a derivation, the elimination of its cuts, the expansion proof of the result and a proof from
-- that; a chain, a proof from it, the introduction of a cut into that proof, and that proof's Herbrand sequent.
abbrev pub job_by : ℕ → ℕ → Data
job_by rest i =
    if rest == 0 then derivation_job i (cuts_of i)
    else (if rest == 1 then proof_job (codes "cutelim") i (i - 1)
    else (if rest == 2 then proof_job (codes "expand") i (i - 1)
    else (if rest == 3 then building_job i (i - 1)
    else (if rest == 4 then chain_job i (implications_of i)
    else (if rest == 5 then building_job i (i - 1)
    else (if rest == 6 then proof_job (codes "cutintro") i (i - 1)
    else proof_job (codes "herbrand") i (i - 2)))))))

unfoldable pub job_data : ℕ → Data
job_data i = job_by (i % 8) i

-- the line of job i: compact JSON, and a newline
unfoldable pub generated_line : ℕ → List ℕ
generated_line i = compact_text (job_data i) ++ 10 ∷ []

-- the lines of the first n jobs
unfoldable pub generated : ℕ → List ℕ
generated n = flat_map generated_line (range_with_len 0 n)
