-- No generated job asks for what has several answers.
use Rattle.std.proofs.Common.{◌≡◌, ℕ, zero, suc, ◌+◌, ◌-◌, ◌%◌, ◌==◌, Bool, true, false, cond, List, [], ◌∷◌, ◌++◌, codes, refl, sym, subst, arith, Ok, Err}
use Rattle.std.specs.List.{All}
use Rattle.std.proofs.lemmas.List.Elements.{All-nil, All-cons, All-append, All-filter}
use Rattle.serde_json.specs.Data.{Data}
use Rattle.serde_json.specs.Written.{compact_text}
use Rattle.edge_io.specs.Lines.{AreLines, lines_of}
use Rattle.edge_io.proofs.LinesLemmas.{lines_of_at}
use Rattle.job_lang.specs.declared.places.Place.TheVariants.{Top}
use Rattle.job_lang.specs.declared.jobs.Op.{Op}
use Rattle.job_lang.specs.Fields.{Reading, ◌>>=◌, text_at}
use Rattle.job_lang.specs.Budgets.{budget_at}
use Rattle.job_lang.specs.Definitions.{using_at}
use Rattle.job_lang.specs.Expansions.{flat_at}
use Rattle.job_lang.specs.Steps.{steps_at}
use Rattle.job_lang.specs.Widths.{width_at}
use Rattle.job_lang.specs.Jobs.{value_of, name_of, lk_of, cutelim_of, expansion_of, expand_of, fromexp_of, herbrand_of, cutintro_of, op_of, reads_named, reads_value, reads_job}
use Rattle.job_gen.specs.Generated.{derivation_job, chain_job, proof_job, building_job, cuts_of, implications_of, job_by, job_data, generated_line, generated}
use Rattle.job_gen.proofs.LineLaws.{job_printable}
use Rattle.job_gen.proofs.ReadJobs.{read_job, utf8_job}
use Rattle.operation_laws.specs.Running.{HasOneAnswer}
use Rattle.session_laws.specs.Jobs.{is_job, jobs}
use Rattle.session_laws.specs.Answers.{AsksOne}
use Rattle.proof_server.proofs.GeneratedLines.{printable_is_one_line, one_more_line, no_line}

-- what is read is a fault, or an operation that has one answer
abbrev ReadsSingle : Reading Op → Type 0
ReadsSingle (Ok op) = HasOneAnswer op
ReadsSingle (Err c) = Unit {0}

behind : {A : Type 0} (r : Reading A) (f : A → Reading Op) → ((a : A) → ReadsSingle (f a)) → ReadsSingle (r >>= f)
behind (Ok a) f each = each a
behind (Err c) f each = tt

-- the operations of generated jobs

single_lk : (d : Data) → ReadsSingle (lk_of d)
single_lk d = behind (steps_at d) _ (λ steps. behind (using_at d) _ (λ using. tt))

single_cutelim : (d : Data) → ReadsSingle (cutelim_of d)
single_cutelim d = behind (text_at Top (codes "proof") d) _ (λ proof. behind (budget_at d) _ (λ budget. tt))

single_expand : (d : Data) → ReadsSingle (expand_of d)
single_expand d = behind (text_at Top (codes "proof") d) _ (λ proof. behind (budget_at d) _ (λ budget. tt))

single_fromexp : (d : Data) → ReadsSingle (fromexp_of d)
single_fromexp d = behind (text_at Top (codes "expansion") d) _ (λ expansion. behind (budget_at d) _ (λ budget. tt))

single_expansion : (d : Data) → ReadsSingle (expansion_of d)
single_expansion d = behind (flat_at d) _ (λ flat. behind (budget_at d) _ (λ budget. tt))

single_cutintro : (d : Data) → ReadsSingle (cutintro_of d)
single_cutintro d = behind (text_at Top (codes "proof") d) _ (λ proof. behind (width_at d) _ (λ width. behind (budget_at d) _ (λ budget. tt)))

single_herbrand : (d : Data) → ReadsSingle (herbrand_of d)
single_herbrand d = behind (text_at Top (codes "proof") d) _ (λ proof. behind (budget_at d) _ (λ budget. tt))

-- generated jobs

either : (b : Bool) (x y : Data) → ReadsSingle (op_of x) → ReadsSingle (op_of y) → ReadsSingle (op_of (cond b x y))
either true x y first second = first
either false x y first second = second

single_by : (rest i : ℕ) → ReadsSingle (op_of (job_by rest i))
single_by rest i =
    either (rest == 0) (derivation_job i (cuts_of i)) _ (single_lk (derivation_job i (cuts_of i)))
    (either (rest == 1) (proof_job (codes "cutelim") i (i - 1)) _ (single_cutelim (proof_job (codes "cutelim") i (i - 1)))
    (either (rest == 2) (proof_job (codes "expand") i (i - 1)) _ (single_expand (proof_job (codes "expand") i (i - 1)))
    (either (rest == 3) (building_job i (i - 1)) _ (single_fromexp (building_job i (i - 1)))
    (either (rest == 4) (chain_job i (implications_of i)) _ (single_expansion (chain_job i (implications_of i)))
    (either (rest == 5) (building_job i (i - 1)) _ (single_fromexp (building_job i (i - 1)))
    (either (rest == 6) (proof_job (codes "cutintro") i (i - 1)) (proof_job (codes "herbrand") i (i - 2))
    (single_cutintro (proof_job (codes "cutintro") i (i - 1))) (single_herbrand (proof_job (codes "herbrand") i (i - 2)))))))))

single_data : (i : ℕ) → ReadsSingle (op_of (job_data i))
unfolding job_data
single_data i = single_by (i % 8) i

single_named : (name : Reading (List ℕ)) (d : Data) → ReadsSingle (op_of d) → ReadsSingle (reads_named name d).op
single_named (Ok name) d single = single
single_named (Err c) d single = tt

-- the value of a generated line is its job
value_of_job : (i : ℕ) → value_of (compact_text (job_data i)) ≡ Ok (job_data i)
value_of_job i = rw (utf8_job i, read_job i) refl

single_job : (i : ℕ) → ReadsSingle (reads_job (compact_text (job_data i))).op
unfolding reads_job
single_job i =
    subst (λ (r : Reading Data). ReadsSingle (reads_value r).op) (sym (value_of_job i))
    (single_named (name_of (job_data i)) (job_data i) (single_data i))

-- what the line of job i asks for has one answer
pub asks_single : (i : ℕ) (op : Op) → (reads_job (compact_text (job_data i))).op ≡ Ok op → HasOneAnswer op
asks_single i op is = subst (λ (r : Reading Op). ReadsSingle r) is (single_job i)

-- the lines of the first n jobs
record SingleLines (n : ℕ) : Type 0 where
  lines : List (List ℕ)
  are : AreLines (generated n) lines
  each : All AsksOne lines

single_lines : (n : ℕ) → SingleLines n
unfolding generated_line
single_lines zero = record { lines = []; are = no_line; each = All-nil AsksOne }
single_lines (suc n) =
    let before = single_lines n in
    let text = compact_text (job_data n) in
    let next : n + 1 ≡ suc n = omega arith in
    let one_more = one_more_line n text before.lines refl (printable_is_one_line text (job_printable n)) before.are in
    let last = All-cons AsksOne text [] (asks_single n) (All-nil AsksOne) in
    record {
      lines = before.lines ++ text ∷ [];
      are = subst (λ (m : ℕ). AreLines (generated m) (before.lines ++ text ∷ [])) next one_more;
      each = All-append AsksOne before.lines (text ∷ []) before.each last;
    }

-- each job of a run over generated jobs asks for what has one answer
pub lines_single : (n : ℕ) → All AsksOne (jobs (lines_of (generated n)))
lines_single n =
    let split = single_lines n in
    subst (λ (lines : List (List ℕ)). All AsksOne (jobs lines)) (sym (lines_of_at (generated n) split.lines split.are))
    (All-filter is_job AsksOne split.lines split.each)
