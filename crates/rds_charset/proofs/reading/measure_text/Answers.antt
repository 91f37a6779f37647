use Rattle.std.proofs.Common.{◌<◌, ◌∙◌, ◌-◌, length, arith, chars}
use Rattle.rds_charset.proofs.Symbols.{before_and_after, some_bytes, some_character, IsReadUpTo-drop, StopsAt-rest}
use Rattle.rds_charset.proofs.reading.measure_text.Goals as goal

pub overflow_sub-place : goal.overflow_sub-place
overflow_sub-place c = grind (arith, before_and_after)

pub overflow_add-place : goal.overflow_add-place
overflow_add-place c = grind (arith, before_and_after, some_character)

pub returns-clause-err : goal.returns-clause-err
returns-clause-err c =
    let text = c.args.text.now in
    let rest = c.count_symbols-count.result.1.now in
    let (bytes, read, count) = c.count_symbols-count.ensures.read in
    let parts = before_and_after text bytes rest c.utf8.text (search (arith)) read in
    let some : 0 < length (chars rest) = search (arith, some_character) in
    let left : 0 < length rest = some_bytes rest (search (arith)) some in
    record {
      at = length text - length rest;
      stops = StopsAt-rest text bytes rest read c.count_symbols-count.ensures.none left;
      rest = c.in-Some.field-0-1.now;
      character = IsReadUpTo-drop text bytes rest read ∙ c.in-Some.ensures.some;
      place = omega (arith, c.count_characters.ensures, c.count_characters-2.ensures);
    }
