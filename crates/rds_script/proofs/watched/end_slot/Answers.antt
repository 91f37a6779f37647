use Rattle.std.proofs.Common.{◌∙◌, None, Some, inl, inr, refl}
use Rattle.rds_world.specs.Slots.{received, sent_back}
use Rattle.rds_script.proofs.Displays.{goes_on, starts_anew}
use Rattle.rds_script.proofs.watched.end_slot.Goals as goal

pub returns-in-Restart : goal.returns-in-Restart
returns-in-Restart c n config slot sent input view has still d now is =
    starts_anew n config c.args.reception slot sent input c.new.result now c.in-Restart.is (c.new.ensures.keep ∙ d.keep)
    c.new.ensures.starts is

pub returns-in-Got : goal.returns-in-Got
returns-in-Got c n config slot sent input view has still d =
    let after = received c.args.reception slot sent input in
    let next = goes_on n config input after c.args.receiver.now c.args.keeping.now c.slot.new.self c.args.is_changed
    c.slot.result view in
    elim c.in-Got.is [
      | inl (back, got) ↦ next (sent_back back sent) (rw got refl) (rw got refl) has still d c.slot.ensures.keep
          c.slot.ensures.same c.slot.ensures.counts
      | inr (inl lost) ↦ next None (rw lost refl) (rw lost refl) has still d c.slot.ensures.keep c.slot.ensures.same
          c.slot.ensures.counts
      | inr (inr (message, wrong)) ↦ next (Some message) (rw wrong refl) (rw wrong refl) has still d
          c.slot.ensures.keep c.slot.ensures.same c.slot.ensures.counts
    ]
