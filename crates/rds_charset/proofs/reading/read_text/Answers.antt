use Rattle.std.proofs.Common.{Ok, Err, length, rules}
use Rattle.rds_charset.proofs.Symbols.{Outcome-bad_escape, Outcome-filled, Outcome-no_room, Outcome-no_such_character}
use Rattle.rds_charset.proofs.Symbols.{Outcome-read, Outcome-short, Outcome-stopped}
use Rattle.rds_charset.specs.declared.reading.TextFault.TheVariants.{NoRoom}
use Rattle.rds_charset.proofs.reading.read_text.Goals as goal

pub returns-in_err-count : goal.returns-in_err-count
returns-in_err-count c =
    let text = c.args.text.now in
    let room = length c.args.into.now in
    let outcome = Outcome-stopped text room c.from_residual.result c.in_err-count.field-0.0 (search rules)
    c.in_err-count.ensures.err in
    record {
      read = Outcome-read text room c.from_residual.result outcome;
      count = search rules;
      bytes = search rules;
      rest = search rules;
      bad_escape = Outcome-bad_escape text room c.from_residual.result outcome;
      no_such_character = Outcome-no_such_character text room c.from_residual.result outcome;
      no_room = Outcome-no_room text room c.from_residual.result outcome;
      err = search rules;
    }

pub returns-then-into-count : goal.returns-then-into-count
returns-then-into-count c =
    let outcome = Outcome-short c.args.text.now c.in_ok-count.ensures.ok.0 (length c.args.into.now) c.in_ok-count.count
    c.in_ok-count.ensures.ok.1 c.in_ok-count.ensures.ok.2 c.if-into-count.true in
    record {
      read = Outcome-read c.args.text.now (length c.args.into.now) (Err NoRoom) outcome;
      count = search rules;
      bytes = search rules;
      rest = search rules;
      bad_escape = Outcome-bad_escape c.args.text.now (length c.args.into.now) (Err NoRoom) outcome;
      no_such_character = Outcome-no_such_character c.args.text.now (length c.args.into.now) (Err NoRoom) outcome;
      no_room = Outcome-no_room c.args.text.now (length c.args.into.now) (Err NoRoom) outcome;
      err = search rules;
    }

pub returns : goal.returns
returns c =
    let outcome = Outcome-filled c.args.text.now c.fill.new.into (length c.args.into.now) c.fill.result
    c.fill.ensures.bytes c.fill.ensures.count c.fill.auto.into in
    record {
      read = Outcome-read c.args.text.now (length c.args.into.now) (Ok c.fill.result) outcome;
      count = search rules;
      bytes = search rules;
      rest = search rules;
      bad_escape = Outcome-bad_escape c.args.text.now (length c.args.into.now) (Ok c.fill.result) outcome;
      no_such_character = Outcome-no_such_character c.args.text.now (length c.args.into.now) (Ok c.fill.result) outcome;
      no_room = Outcome-no_room c.args.text.now (length c.args.into.now) (Ok c.fill.result) outcome;
      err = search rules;
    }
