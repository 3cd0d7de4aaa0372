use Rattle.std.proofs.Common.{◌≡◌, ◌+◌, drop}
use Rattle.fol.specs.Formed.{is_word_byte}
use Rattle.tptp_tokens.specs.Lexer.{front_length}
use Rattle.tptp_tokens.proofs.words.word_bytes.Given as goal

-- the bytes that are passed all pass the test
abbrev pub invariant-loop-byte : goal.invariant-loop-byte
invariant-loop-byte l =
    (l.count ≡ l.byte-index) × (l.count + front_length is_word_byte (drop l.byte-index l.bytes) ≡ front_length is_word_byte l.bytes)
