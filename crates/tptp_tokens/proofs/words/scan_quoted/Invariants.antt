use Rattle.std.proofs.Common.{◌≡◌, ◌+◌, [], false, drop}
use Rattle.tptp_tokens.specs.Lexer.{quoted}
use Rattle.tptp_tokens.proofs.words.scan_quoted.Given as goal

-- what is left of the quotes says what all of them say
abbrev pub invariant-loop-passed : goal.invariant-loop-passed
invariant-loop-passed l = quoted l.name.items l.escaping (l.passed + 1) (drop l.passed l.rest) ≡ quoted [] false 1 l.rest
