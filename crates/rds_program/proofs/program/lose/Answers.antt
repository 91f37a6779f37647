use Rattle.std.proofs.Common.{refl}
use Rattle.rds_program.proofs.Memory.{loss_memory}
use Rattle.rds_program.proofs.program.lose.Goals as goal

pub returns-in_default : goal.returns-in_default
returns-in_default g c =
    loss_memory _ _ _ _ _ c.fail_with.result record { bytes_are = refl; failures_are = refl; reads_are = refl } refl
    record { status_is = c.fail_with.ensures.status; told = c.fail_with.ensures.told }
