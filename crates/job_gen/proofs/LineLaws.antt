-- Generated lines are printable and short.
use Rattle.std.proofs.Common.{ℕ, zero, suc, ◌+◌, ◌*◌, ◌≤◌, [], ◌∷◌, length, refl, arith, length-append}
use Rattle.std.specs.List.{All, flat_map, range_with_len}
use Rattle.serde_json.specs.Written.{compact_text}
use Rattle.job_gen.specs.Generated.{job_data, generated_line, generated}
use Rattle.job_gen.specs.PrintableLine.{IsPrintableLine}
use Rattle.job_gen.proofs.PlainTexts.{IsShort, room, text_short}
use Rattle.job_gen.proofs.ShortJobs.{small_job}

job_short : (i : ℕ) → IsShort (compact_text (job_data i)) (room (job_data i))
job_short i = text_short (job_data i) (small_job i).plain

pub job_printable : (i : ℕ) → All (λ b. (32 ≤ b) × (b ≤ 126)) (compact_text (job_data i))
job_printable i = (job_short i).printable

pub line_printable : (i : ℕ) → IsPrintableLine (generated_line i)
unfolding generated_line
line_printable i = record { text = compact_text (job_data i); ends = refl; printable = job_printable i }

pub length-generated_line : (i : ℕ) → length (generated_line i) ≤ 4096
unfolding generated_line
length-generated_line i = omega (arith, length-append (compact_text (job_data i)) (10 ∷ []), (job_short i).size, (small_job i).size)

lines_length : (n a : ℕ) → length (flat_map generated_line (range_with_len a n)) ≤ 4096 * n
lines_length zero a = omega arith
lines_length (suc n) a =
    omega (arith, length-append (generated_line a) (flat_map generated_line (range_with_len (a + 1) n)), length-generated_line a, lines_length n (a + 1))

pub length-generated : (n : ℕ) → length (generated n) ≤ 4096 * n
unfolding generated
length-generated n = lines_length n 0
