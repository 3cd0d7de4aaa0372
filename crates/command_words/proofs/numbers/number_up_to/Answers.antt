use Rattle.std.proofs.Common.{sym, rules}
use Rattle.command_words.proofs.NumberLemmas.{no_number, number_within, parse_unsigned}
use Rattle.command_words.proofs.numbers.number_up_to.Goals as goal

pub returns-in_default : goal.returns-in_default
returns-in_default c =
    let parsed = parse_unsigned c.args.text.now c.parse.result (sym c.if-not-is_led.ensures) c.parse.ensures.value.0 in
    no_number c.args.most c.args.text.now (search rules) (rw c.in_default.is at parsed)

pub returns-then-number-most : goal.returns-then-number-most
returns-then-number-most c =
    let parsed = parse_unsigned c.args.text.now c.parse.result (sym c.if-not-is_led.ensures) c.parse.ensures.value.0 in
    let read = rw c.in-Ok.is at parsed in
    number_within c.args.most c.args.text.now c.in-Ok.number (sym c.if-not-is_led.ensures) read.0 read.1 c.if-number-most.true
