use Rattle.std.proofs.Common.{◌≡◌, ◌+◌, suc, drop}
use Rattle.tptp_tokens.specs.Lexer.{front_length, is_in_line}
use Rattle.tptp_tokens.proofs.words.line_length.Given as goal

-- the bytes that are passed are all of the line
abbrev pub invariant-loop-byte : goal.invariant-loop-byte
invariant-loop-byte l =
    (l.count ≡ suc l.byte-index) × (l.count + front_length is_in_line (drop l.byte-index l.rest) ≡ suc (front_length is_in_line l.rest))
