use Rattle.std.proofs.Common.{rules}
use Rattle.std.proofs.lemmas.Simd.{dot4_Fits}
use Rattle.rds_io.proofs.DigitLanes.{has_four, word_fits}
use Rattle.rds_io.proofs.hexadecimal.four_words.Goals as goal

pub dot4-high : goal.dot4-high
dot4-high c = search (rules, dot4_Fits)

pub dot4-low : goal.dot4-low
dot4-low c = search (rules, dot4_Fits)

pub overflow_cast-result : goal.overflow_cast-result
overflow_cast-result c = record {
  fits = word_fits c.args.text.now 0 (has_four c.args.text.now c.type_inv.text
      c.if-not-is_digit-is_letter.false).0;
}

pub overflow_cast-result-2 : goal.overflow_cast-result-2
overflow_cast-result-2 c = record {
  fits = word_fits c.args.text.now 5 (has_four c.args.text.now c.type_inv.text
      c.if-not-is_digit-is_letter.false).1;
}

pub overflow_cast-result-3 : goal.overflow_cast-result-3
overflow_cast-result-3 c = record {
  fits = word_fits c.args.text.now 10 (has_four c.args.text.now c.type_inv.text
      c.if-not-is_digit-is_letter.false).2;
}

pub overflow_cast-result-4 : goal.overflow_cast-result-4
overflow_cast-result-4 c = record {
  fits = word_fits c.args.text.now 15 (has_four c.args.text.now c.type_inv.text
      c.if-not-is_digit-is_letter.false).3;
}

pub returns-clause-first : goal.returns-clause-first
returns-clause-first c = (has_four c.args.text.now c.type_inv.text c.if-not-is_digit-is_letter.false).0

pub returns-clause-second : goal.returns-clause-second
returns-clause-second c = (has_four c.args.text.now c.type_inv.text c.if-not-is_digit-is_letter.false).1

pub returns-clause-third : goal.returns-clause-third
returns-clause-third c = (has_four c.args.text.now c.type_inv.text c.if-not-is_digit-is_letter.false).2

pub returns-clause-fourth : goal.returns-clause-fourth
returns-clause-fourth c = (has_four c.args.text.now c.type_inv.text c.if-not-is_digit-is_letter.false).3
