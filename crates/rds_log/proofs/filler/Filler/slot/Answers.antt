use Rattle.std.proofs.Common.{◌∙◌, ap, inl, inr, refl, sym}
use Rattle.std.proofs.lemmas.Result.{err_from_is_err_and}
use Rattle.rds_io.specs.Waits.{Waits}
use Rattle.rds_log.proofs.Filled.{adds_none, fails_at_slot, group_done, left_out_now, time_done}
use Rattle.rds_lines.specs.LineTimes.{time_of}
use Rattle.rds_log.specs.declared.filler.Filler.{Filler}
use Rattle.rds_log.specs.declared.pace.Pace.{Pace}
use Rattle.rds_log.proofs.filler.Filler.slot.Goals as goal

pub returns-in_err-push_gap : goal.returns-in_err-push_gap
returns-in_err-push_gap g c how start lines line slot says is_group first has =
    let p = err_from_is_err_and c.from_residual.result c.from_residual.ensures.1 in
    let waits : Waits _ _ has.took.so_far.written = rw has.took.writes at has.waits in
    rw p.1 (fails_at_slot how c.args.self.now _ lines has.total line slot c.in-Some.stamp c.start-first.result.now says
    (c.start-first.ensures.bytes ∙ first) (sym c.stamp_of.ensures.value ∙ c.in-Some.is)
    (λ other. (let yes = c.is_of_another.ensures.1 other in let no = c.if-is_of_another.false in cc)) has.took
    (rw is_group at (c.in_err-push_gap.ensures.pushed start has.took.so_far.written waits)))

pub returns-then-is_of_another : goal.returns-then-is_of_another
returns-then-is_of_another g c how start lines line slot says is_group first has =
    let other = rw (c.start-first.ensures.bytes ∙ first) at (c.is_of_another.ensures.0 c.if-is_of_another.true) in
    let kept = c.leave_out-then-is_of_another.ensures.kept in
    adds_none how c.args.self.now c.leave_out-then-is_of_another.new.self _ _ lines line (inr (slot, says, inr other))
    (ap (λ (f : Filler). f.filling) kept) (ap (λ (f : Filler). f.pace) kept) (ap (λ (f : Filler). f.told) kept)
    (left_out_now _ line lines slot c.args.self.now.has_left_out _ says (inr other)
    (rw is_group at c.leave_out-then-is_of_another.ensures.count) has.took.left_out) has

pub returns-then-not-is_group : goal.returns-then-not-is_group
returns-then-not-is_group g c how start lines line slot says is_group first has =
    let waits : Waits _ _ has.took.so_far.written = rw has.took.writes at has.waits in
    let keeps = c.in_ok-push_gap.ensures.keeps in
    time_done how c.args.self.now c.push_gap.new.self _ _ lines has.total line slot c.in-Some.stamp
    c.start-first.result.now says (sym is_group ∙ c.if-not-is_group.true) (c.start-first.ensures.bytes ∙ first)
    (sym c.stamp_of.ensures.value ∙ c.in-Some.is)
    (λ other. (let yes = c.is_of_another.ensures.1 other in let no = c.if-is_of_another.false in cc)) has.took
    record { filling = keeps.filling; pace = keeps.pace; left_out = keeps.left_out }
    c.in_ok-push_gap.ensures.told (rw c.if-not-is_group.true
    at (c.in_ok-push_gap.ensures.pushed start has.took.so_far.written waits))

pub returns : goal.returns
returns g c how start lines line slot says is_group first has =
    let waits : Waits _ _ has.took.so_far.written = rw has.took.writes at has.waits in
    let noted = c.note_gap.ensures in
    let gap = c.in_ok-push_gap.ensures in
    let pace = ap (λ (f : Filler). f.pace) noted ∙ gap.keeps.pace in
    group_done how c.args.self.now _ _ _ lines has.total line slot c.in-Some.stamp c.start-first.result.now
    c.push_line.result
    says (sym is_group ∙ c.if-not-is_group.false) (c.start-first.ensures.bytes ∙ first)
    (sym c.stamp_of.ensures.value ∙ c.in-Some.is)
    (λ other. (let yes = c.is_of_another.ensures.1 other in let no = c.if-is_of_another.false in cc)) has.took
    (ap (λ (f : Filler). f.filling) noted ∙ gap.keeps.filling)
    (λ a told time. c.add.ensures.stands has.took.so_far.came a told time (rw pace has.took.pace))
    (c.add.ensures.grain ∙ ap (λ (x : Pace). x.grain) pace)
    refl (ap (λ (f : Filler). f.has_left_out) noted ∙ gap.keeps.left_out)
    (c.push_line.ensures start _ (rw c.if-not-is_group.false at (gap.pushed start has.took.so_far.written waits)))

pub returns-in_default : goal.returns-in_default
returns-in_default g c how start lines line slot says is_group first has =
    let none = ap time_of (sym (c.start-first.ensures.bytes ∙ first)) ∙ sym c.stamp_of.ensures.value
    ∙ c.in_default.is in
    let kept = c.leave_out.ensures.kept in
    adds_none how c.args.self.now c.leave_out.new.self _ _ lines line (inr (slot, says, inl none))
    (ap (λ (f : Filler). f.filling) kept) (ap (λ (f : Filler). f.pace) kept) (ap (λ (f : Filler). f.told) kept)
    (left_out_now _ line lines slot c.args.self.now.has_left_out _ says (inl none)
    (rw is_group at c.leave_out.ensures.count) has.took.left_out) has
