use Rattle.std.proofs.Common.{◌≡◌, string_bytes}
use Rattle.job_gen.specs.Values.{iterate_text}
use Rattle.job_gen.proofs.texts.iterate.Given as goal

abbrev pub invariant-loop-i : goal.invariant-loop-i
invariant-loop-i l = string_bytes l.term ≡ iterate_text l.i
