use Rattle.std.proofs.Common.{arith}
use Rattle.rds_ffi.proofs.receiver.rdsrt_receiver_slot.Goals as goal

pub returns-then-slot_blocks-clause-stands : goal.returns-then-slot_blocks-clause-stands
returns-then-slot_blocks-clause-stands c some t input s = (
  c.in-Ok.slot,
  c.in-Ok.ensures.value,
  c.slot_blocks.ensures.stands t input s,
)

pub returns-then-slot_blocks-clause-same : goal.returns-then-slot_blocks-clause-same
returns-then-slot_blocks-clause-same c ok = absurd (omega (arith, ok))

pub returns-else-slot_blocks-clause-stands : goal.returns-else-slot_blocks-clause-stands
returns-else-slot_blocks-clause-stands c some t input s = (
  c.in-Ok.slot,
  c.in-Ok.ensures.value,
  c.slot_blocks.ensures.stands t input s,
)

pub returns-else-slot_blocks-clause-same : goal.returns-else-slot_blocks-clause-same
returns-else-slot_blocks-clause-same c ok view t input s shown = (
  c.in-Ok.slot,
  c.in-Ok.ensures.value,
  c.slot_blocks.ensures.same c.if-slot_blocks.false view t input s shown,
)
