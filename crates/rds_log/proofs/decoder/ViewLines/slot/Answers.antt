use Rattle.std.proofs.Common.{◌∷◌, Some, refl, subst}
use Rattle.rds_receiver.proofs.Counting.{display_on, display_stays}
use Rattle.rds_log.specs.LogWrites.{SayWhys}
use Rattle.rds_log.proofs.Decodes.{slot_given, slot_same}
use Rattle.rds_log.proofs.decoder.ViewLines.slot.Goals as goal

pub returns-in_default-clause-change : goal.returns-in_default-clause-change
returns-in_default-clause-change g c n why t slots written s =
    let receiver = c.slot_blocks-is_changed.ensures.stands t slots s.receiver in
    let calm = c.in_default.ensures.same refl in
    let display = display_stays n t _ _ _ _ _ _ c.args.group slots s.display s.receiver receiver
    (c.slot_blocks-is_changed.ensures.same calm) (c.slot_blocks-is_changed.ensures.goes_on calm)
    c.in_default.ensures.counts c.slot-change.ensures.keep in
    slot_same why n t c.args.self.now _ slots written c.args.lines.now c.args.group s receiver display refl refl refl

pub returns-clause-change : goal.returns-clause-change
returns-clause-change g c n why t slots written s =
    let receiver = c.slot_blocks-is_changed.ensures.stands t slots s.receiver in
    let say = subst (λ b. SayWhys b t (c.args.group ∷ slots) c.whys.result) s.says_why
    (c.whys.ensures t (c.args.group ∷ slots) receiver) in
    let (now, view, shown) = c.show_slot.ensures.shows t (c.args.group ∷ slots) receiver in
    let display = display_on n t _ _ _ _ _ (Some c.in-Some.kept) _ _ now c.args.group slots s.display s.receiver
    receiver c.slot_blocks-is_changed.ensures.goes_on c.in-Some.ensures.counts c.slot-change.ensures.keep view shown in
    slot_given why n t c.args.self.now _ slots written c.args.lines.now c.show_slot.new.lines c.args.group
    c.whys.result s receiver display say refl refl c.show_slot.ensures.changes
