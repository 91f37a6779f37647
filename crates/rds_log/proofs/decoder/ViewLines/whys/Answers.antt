use Rattle.std.proofs.Common.{Some, ap, subst, sym}
use Rattle.rds_log.specs.LogWrites.{SayWhys}
use Rattle.rds_log.proofs.decoder.ViewLines.whys.Goals as goal

pub returns-then-self : goal.returns-then-self
returns-then-self c t input stands = subst (λ b. SayWhys b t input (Some c.whys.result)) (sym c.if-self.true)
    (ap Some (c.whys.ensures t input stands))
