-- The job of a line by the rest of its number, and its text.
use Rattle.std.proofs.Common.{◌≡◌, ℕ, ◌+◌, ◌%◌, ◌++◌, arith, sym, subst}
use Rattle.json_text.specs.Tokens.{data_tokens, Written, Adds}
use Rattle.job_gen.specs.Generated.{job_by, job_data, generated_line, generated}
use Rattle.job_gen.proofs.Adding.{flat_map-range_with_len_more}

-- the job of a line whose number has this rest by 8
pub adds_job : {old new : Written} (i rest : ℕ) → i % 8 ≡ rest → Adds old new (data_tokens (job_by rest i)) → Adds old new (data_tokens (job_data i))
unfolding job_data
adds_job {old = old} {new = new} i rest is added = subst (λ r. Adds old new (data_tokens (job_by r i))) (sym is) added

-- the lines of one more job
pub generated-more : (n : ℕ) → generated (n + 1) ≡ generated n ++ generated_line n
unfolding generated
generated-more n = flat_map-range_with_len_more generated_line 0 n n (omega arith)
