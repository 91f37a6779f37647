use Rattle.std.proofs.Common.{◌∷◌, Some, refl}
use Rattle.rds_receiver.proofs.Counting.{display_on, display_stays}
use Rattle.rds_ffi.proofs.display.rdsrt_display_slot.Goals as goal

pub returns-in_default-change-clause-receiver : goal.returns-in_default-change-clause-receiver
returns-in_default-change-clause-receiver c some t input s = (
  c.in-Ok.slot,
  c.in-Ok.ensures.value,
  c.slot_blocks-is_changed.ensures.stands t input s,
)

pub returns-in_default-change-clause-stands : goal.returns-in_default-change-clause-stands
returns-in_default-change-clause-stands c some n t input s d =
    let stands = c.slot_blocks-is_changed.ensures.stands t input s in
    let calm = c.in_default-change.ensures.same refl in (
      c.in-Ok.slot,
      c.in-Ok.ensures.value,
      stands,
      display_stays n t _ _ _ _ _ _ c.in-Ok.slot input d s stands (c.slot_blocks-is_changed.ensures.same calm)
          (c.slot_blocks-is_changed.ensures.goes_on calm) c.in_default-change.ensures.counts c.slot-change.ensures.keep,
    )

pub returns-clause-receiver : goal.returns-clause-receiver
returns-clause-receiver c some t input s =
    (c.in-Ok.slot, c.in-Ok.ensures.value, c.slot_blocks-is_changed.ensures.stands t input s)

pub returns-clause-stands : goal.returns-clause-stands
returns-clause-stands c some n t input s d =
    let stands = c.slot_blocks-is_changed.ensures.stands t input s in
    let (now, view, shown) = c.show.ensures.shown t (c.in-Ok.slot ∷ input) stands in (
      c.in-Ok.slot,
      c.in-Ok.ensures.value,
      stands,
      display_on n t _ _ _ _ _ (Some c.in-Some.kept) _ _ now c.in-Ok.slot input d s stands
          c.slot_blocks-is_changed.ensures.goes_on c.in-Some.ensures.counts c.slot-change.ensures.keep view shown,
    )
