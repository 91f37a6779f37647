use Rattle.std.proofs.Common.{◌≤◌, ◌*◌, length}
use Rattle.rds_witness.specs.Candidates.{AreSomeOfItsMixLines}
use Rattle.rds_witness.proofs.mix_lines.push_mixes_of.Given as goal

abbrev pub invariant-loop-kind : goal.invariant-loop-kind
invariant-loop-kind l = record {
  mixes : AreSomeOfItsMixLines l.kind l.candidate l.lines;
  room : length l.lines ≤ 364 * l.kind;
}
