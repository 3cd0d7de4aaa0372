use Rattle.std.proofs.Common.{◌≡◌, ◌+◌, false, drop}
use Rattle.tptp_tokens.specs.Lexer.{comment}
use Rattle.tptp_tokens.proofs.symbols.scan_comment.Given as goal

-- what is left of the comment says what all of it says
abbrev pub invariant-loop-passed : goal.invariant-loop-passed
invariant-loop-passed l = comment l.behind_star (l.passed + 2) (drop l.passed l.inside) ≡ comment false 2 l.inside
