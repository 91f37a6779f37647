use Rattle.std.proofs.Common.{arith}
use Rattle.rds_io.specs.Told.{inner_of}
use Rattle.rds_wire.proofs.trials.trial.Goals as goal

pub returns-clause-safe : goal.returns-clause-safe
returns-clause-safe c t p q =
    c.the_headline.ensures c.args.head c.args.dwell c.args.late c.args.script.now (inner_of c.in_ok-log.log).items
    (record { pi = (grind (arith)); pty = (grind (arith)) }) (grind (arith)) c.in_ok-log.ensures.writes
    (record {
      received = c.in_ok-one.one.received.items;
      output = (inner_of c.in_ok-one.one.output).items;
      reaches = (let log = c.deref.ensures.value in let inner = c.inner.ensures in grind (arith, c.in_ok-one.ensures.reaches));
      decodes = c.in_ok-one.ensures.decodes;
    })
    (record {
      received = c.in_ok-other.other.received.items;
      output = (inner_of c.in_ok-other.other.output).items;
      reaches = (let log = c.deref-2.ensures.value in let inner = c.inner-2.ensures in grind (arith, c.in_ok-other.ensures.reaches));
      decodes = c.in_ok-other.ensures.decodes;
    }) t (omega (arith, p, c.in_ok-one.ensures.slots)) (omega (arith, q, c.in_ok-other.ensures.slots))
