-- What is counted of the replies to jobs, and the line that tells of it.
--     counts_of      the counts of the replies to jobs
--     counts_line      the line that tells of counts
use Rattle.std.specs.Prelude.{ℕ, ◌+◌, List, [], ◌∷◌, ◌++◌, length, codes, if◌then◌else◌}
use Rattle.exp_tree.specs.Sizes.{capped}
use Rattle.serde_json.specs.Data.{Data, object, member, no_members}
use Rattle.serde_json.specs.Written.{compact_text}
use Rattle.reply_lines.specs.Replies.{count_data}
use Rattle.session_laws.specs.Answers.{Past}
use Rattle.session_laws.specs.Replying.{is_ok_reply, reductions_shown}
use Rattle.session_laws.specs.Session.{out}
use Rattle.proof_server.specs.declared.counts.Counts.{Counts}

-- how many of the replies are no error
abbrev pub ok_count : List Past → ℕ
ok_count [] = 0
ok_count (job ∷ earlier) = ok_count earlier + (if is_ok_reply job then 1 else 0)

-- how many of the replies are errors
abbrev pub error_count : List Past → ℕ
error_count [] = 0
error_count (job ∷ earlier) = error_count earlier + (if is_ok_reply job then 0 else 1)

-- how many reductions the replies tell of, all together
abbrev pub reduction_count : List Past → ℕ
reduction_count [] = 0
reduction_count (job ∷ earlier) = reduction_count earlier + reductions_shown job

-- what is counted of the replies to these jobs, each number cut off at 2^64 - 1
abbrev pub counts_of : List Past → Counts
counts_of done = record {
  bytes = capped (length (out done));
  jobs = capped (length done);
  ok = capped (ok_count done);
  reductions = capped (reduction_count done);
  refused = capped (error_count done);
}

abbrev pub counts_data : Counts → Data
counts_data counts = object (member (codes "bytes") (count_data counts.bytes) (member (codes "jobs") (count_data counts.jobs)
    (member (codes "ok") (count_data counts.ok) (member (codes "reductions") (count_data counts.reductions)
    (member (codes "refused") (count_data counts.refused) no_members)))))

-- the line of counts: compact JSON and a newline
unfoldable pub counts_line : Counts → List ℕ
counts_line counts = compact_text (counts_data counts) ++ 10 ∷ []
