use Rattle.std.proofs.Common.{◌∙◌, ◌∷◌, ◌+◌, Ok, ap, arith, refl, rules}
use Rattle.std.proofs.lemmas.Result.{err_from_is_err_and}
use Rattle.csv.specs.Records.{fields_of}
use Rattle.rds_io.specs.ReadFailed.{SomeReadFailed}
use Rattle.rds_script.proofs.PlayedRows.{ends_all, ends_by_fault, ends_by_write, ends_too_long, not_more, played_on}
use Rattle.rds_script.proofs.PlayedRows.{waits_now, where_next}
use Rattle.rds_script.proofs.play.play_rows.Goals as goal
use Rattle.rds_script.proofs.play.play_rows.Goals.{then-not-has_next+in_ok-write, else-not-has_next+else-not-has_room}

pub returns-in_err-write-in-Ok-false : goal.returns-in_err-write-in-Ok-false
returns-in_err-write-in-Ok-false g c how known begun fresh =
    let (records, stands, count, played) = c.loop-turn.invariant.played how known begun fresh in
    let none = c.in-Ok-false.ensures.no_lines (not_more _ _ refl c.in-Ok-false.field-0-test) in
    let p = err_from_is_err_and c.from_residual.result c.from_residual.ensures.1 in
    rw (p.1, p.2) (ends_by_write _ how c.args.records
    (record { known = known; Failed = SomeReadFailed g.R.TellingRead.failures }) _ _ _ _ _ records stands
    (omega arith) played
    (c.in_err-write-in-Ok-false.ensures.waits c.args.writer.now played.total (rw none played.waits)))

pub returns-in-Ok-false : goal.returns-in-Ok-false
returns-in-Ok-false g c how known begun fresh =
    let (records, stands, count, played) = c.loop-turn.invariant.played how known begun fresh in
    let none = c.in-Ok-false.ensures.no_lines (not_more _ _ refl c.in-Ok-false.field-0-test) in
    let wrote = waits_now how _ records _ _ _ c.write.new.self played
    (c.in_ok-write-in-Ok-false.ensures.waits c.args.writer.now played.total (rw none played.waits)) in
    ends_all _ how c.args.records (record { known = known; Failed = SomeReadFailed g.R.TellingRead.failures }) _ _ _ _
    records stands wrote c.in_ok-write-in-Ok-false.ensures.empty (omega arith)
    (rw c.in-Ok-false.field-0-test at (c.in-Ok-false.ensures.plays known (where_next how _ records _ _ played) stands
    played.player))

pub returns-in_err-write-in-Err : goal.returns-in_err-write-in-Err
returns-in_err-write-in-Err g c how known begun fresh =
    let (records, stands, count, played) = c.loop-turn.invariant.played how known begun fresh in
    let none = c.in-Err.ensures.no_lines (λ e. (cc)) in
    let p = err_from_is_err_and c.from_residual-in_err-write-in-Err.result c.from_residual-in_err-write-in-Err.ensures.1
    in
    rw (p.1, p.2) (ends_by_write _ how c.args.records
    (record { known = known; Failed = SomeReadFailed g.R.TellingRead.failures }) _ _ _ _ _ records stands
    (omega arith) played
    (c.in_err-write-in-Err.ensures.waits c.args.writer.now played.total (rw none played.waits)))

pub returns-in-Err : goal.returns-in-Err
returns-in-Err g c how known begun fresh =
    let (records, stands, count, played) = c.loop-turn.invariant.played how known begun fresh in
    let none = c.in-Err.ensures.no_lines (λ e. (cc)) in
    let wrote = waits_now how _ records _ _ _ c.write-in-Err.new.self played
    (c.in_ok-write-in-Err.ensures.waits c.args.writer.now played.total (rw none played.waits)) in
    ends_by_fault g.R.Read.remaining how c.args.records
    (record { known = known; Failed = SomeReadFailed g.R.TellingRead.failures }) _ _ _ _
    c.play_next.new.script _ c.play_next.new.player (fields_of c.play_next.new.row)
    records c.loop-turn.lines c.play_next.new.lines c.loop-turn.turn c.in-Err.fault stands wrote
    c.in_ok-write-in-Err.ensures.empty count c.loop-turn-test.true played
    (c.in-Err.ensures.plays known (where_next how _ records _ _ played) stands played.player)

pub returns-in_err-write : goal.returns-in_err-write
returns-in_err-write g c how known begun fresh =
    let (records, stands, count, played) = c.loop-turn.invariant.played how known begun fresh in
    let (further, now) = played_on g.R.Read.remaining (SomeReadFailed g.R.TellingRead.failures) how known
    c.play_next.new.script _ c.play_next.new.player (fields_of c.play_next.new.row)
    (c.loop-turn.turn + 1) records _ _ c.play_next.new.lines c.play_next.result played
    (c.play_next.ensures.plays known (where_next how _ records _ _ played) stands played.player)
    (c.in-Ok-true.is ∙ ap Ok c.in-Ok-true.field-0-test) in
    let p = err_from_is_err_and c.from_residual-in_err-write.result c.from_residual-in_err-write.ensures.1 in
    rw (p.1, p.2) (ends_by_write _ how c.args.records
    (record { known = known; Failed = SomeReadFailed g.R.TellingRead.failures }) _ _ _ _ _ _ further
    (omega arith) now (c.in_err-write.ensures.waits c.args.writer.now now.total now.waits))

pub loop-turn-preserved : goal.loop-turn-preserved
loop-turn-preserved g c = record {
  room = elim c.if-not-has_next.branch [
    | then-not-has_next+in_ok-write w ↦ rw (w.lines-is, w.in_ok-write.ensures.empty) (omega arith)
    | else-not-has_next+else-not-has_room w ↦ rw w.lines-is (search rules)
  ];
  slot = omega (arith, c.in-Ok-true.ensures.slot (ap Ok c.in-Ok-true.field-0-test));
  played = λ how known begun fresh.
      let (records, stands, count, played) = c.loop-turn.invariant.played how known begun fresh in
      let (further, now) = played_on _ _ how known _ _ _ _ _ records _ _ _ _ played
      (c.play_next.ensures.plays known (where_next how _ records _ _ played) stands played.player)
      (c.in-Ok-true.is ∙ ap Ok c.in-Ok-true.field-0-test) in (
        fields_of c.play_next.new.row ∷ records,
        further,
        omega arith,
        elim c.if-not-has_next.branch [
          | then-not-has_next+in_ok-write v ↦
              rw (v.writer-is, v.lines-is) (waits_now how _ _ _ _ _ _ now
              (v.in_ok-write.ensures.waits c.args.writer.now now.total now.waits))
          | else-not-has_next+else-not-has_room v ↦ rw (v.writer-is, v.lines-is) now
        ],
      );
}

pub returns-in_err-write-2 : goal.returns-in_err-write-2
returns-in_err-write-2 g c how known begun fresh =
    let (records, stands, count, played) = c.loop-turn.invariant.played how known begun fresh in
    let p = err_from_is_err_and c.from_residual-in_err-write-2.result c.from_residual-in_err-write-2.ensures.1 in
    rw (p.1, p.2) (ends_by_write _ how c.args.records
    (record { known = known; Failed = SomeReadFailed g.R.TellingRead.failures }) _ _ _ _ _ records stands
    (omega arith) played
    (c.in_err-write-2.ensures.waits c.args.writer.now played.total played.waits))

pub returns : goal.returns
returns g c how known begun fresh =
    let (records, stands, count, played) = c.loop-turn.invariant.played how known begun fresh in
    let wrote = waits_now how _ records _ _ _ c.write-2.new.self played
    (c.in_ok-write-2.ensures.waits c.args.writer.now played.total played.waits) in
    ends_too_long _ how c.args.records (record { known = known; Failed = SomeReadFailed g.R.TellingRead.failures })
    _ _ _ _ records stands wrote c.in_ok-write-2.ensures.empty (omega arith)
