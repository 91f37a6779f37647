use Rattle.std.proofs.Common.{arith, Bool, List, Result, ℕ, IsErr}
use Rattle.rds_io.specs.Told.{Traffic}
use Rattle.rds_io.specs.declared.told.WriteFault.{WriteFault}
use Rattle.rds_witness.specs.Witness.{Answers, WrotePartOfAnswer}
use Rattle.rds_witness.proofs.lose_log.write_lines.Goals as goal

part_of : (Is : Bool → List ℕ → Type 0) (w : Traffic) (r : Result Bool WriteFault) → IsErr r → WrotePartOfAnswer Is w
    → Answers Is w r
part_of Is w r fails part = grind (arith)

pub returns-in_err-put : goal.returns-in_err-put
returns-in_err-put g c t ahead log lost are =
    part_of _ _ c.from_residual.result c.from_residual.ensures.0
    record {
      found = c.answer_of-found.result.0;
      written = c.answer_of-found.result.1.now;
      answer = c.answer_of-found.ensures t ahead log lost are;
      wrote = c.in_err-put.ensures.0;
      failed = c.in_err-put.ensures.1;
    }
