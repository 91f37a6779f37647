use Rattle.rds_log.proofs.OneVerdict.{alike}
use Rattle.rds_log.proofs.laws.bytes_have_one_verdict.Goals as goal

pub returns : goal.returns
returns c a reads others bytes r w q v passed other some given same first second =
    alike c.passes_without_a_fault.ensures.fails a reads others bytes r w q v passed other some given same first second
