use Rattle.std.proofs.Common.{rules}
use Rattle.rds_program.proofs.program.run_task.Goals as goal

pub returns-in-Encode : goal.returns-in-Encode
returns-in-Encode g c =
    let engine = c.run_script-encoded in
    rw c.in-Encode.is record {
      outcome = engine.result;
      mid = g.W.Write.contents engine.new.writer;
      failures = g.W.TellingWrite.failures engine.new.writer;
      ran = rw (c.station_of.ensures, c.with_dwell.ensures) at engine.ensures;
      ended = rw c.in-Encode.is at c.end_with-in-Encode.ensures;
    }

pub returns-in-Simulate : goal.returns-in-Simulate
returns-in-Simulate g c =
    rw c.in-Simulate.is (rw (c.simulated_station-station.ensures, c.in-Simulate.is) at c.simulate.ensures)

pub returns-in-Decode : goal.returns-in-Decode
returns-in-Decode g c = search rules
