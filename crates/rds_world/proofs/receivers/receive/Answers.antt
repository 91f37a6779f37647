use Rattle.std.proofs.Common.{arith, ◌-◌, None, Some, refl, subst}
use Rattle.rds_receiver.specs.Receipts.{Hears}
use Rattle.rds_world.specs.Due.{IsDue}
use Rattle.rds_world.specs.declared.event.Reception.{Reception}
use Rattle.rds_world.specs.Slots.{sent_back}
use Rattle.rds_world.proofs.Received.{hears_more, heard_nothing, stays_shown}
use Rattle.rds_world.proofs.receivers.receive.Goals as goal

pub returns-in-Got-clause-heard : goal.returns-in-Got-clause-heard
returns-in-Got-clause-heard c slot sent input last kept due has =
    let config = c.args.config.now in
    let back = c.in-Got.back in
    let is_due = subst (λ (r : Reception). IsDue config.late slot last r) c.in-Got.is due in
    let hears : Hears config.head.pi c.back_from.result (sent_back back sent) = rw c.back_from.ensures
    (kept back is_due.soon) in
    grind (arith, hears_more)

pub returns-in-Lost-clause-heard : goal.returns-in-Lost-clause-heard
returns-in-Lost-clause-heard c slot sent input last kept due has = rw c.in-Lost.is (hears_more c.args.config.now input _
    _ None None None refl c.slot_blocks-in-Lost.ensures.stands has)

pub returns-in-Restart-clause-heard : goal.returns-in-Restart-clause-heard
returns-in-Restart-clause-heard c slot sent input last kept due has = grind (arith, heard_nothing)

pub returns-in-Got-clause-same : goal.returns-in-Got-clause-same
returns-in-Got-clause-same c slot sent input last kept due has same =
    let config = c.args.config.now in
    let back = c.in-Got.back in
    let is_due = subst (λ (r : Reception). IsDue config.late slot last r) c.in-Got.is due in
    let hears : Hears config.head.pi c.back_from.result (sent_back back sent) = search arith in
    rw c.in-Got.is (stays_shown config input _ c.back_from.result (sent_back back sent) (Some (slot - back)) hears
    (c.slot_blocks.ensures.same same) (c.slot_blocks.ensures.goes_on same) has)

pub returns-in-Lost-clause-same : goal.returns-in-Lost-clause-same
returns-in-Lost-clause-same c slot sent input last kept due has same =
    rw c.in-Lost.is (stays_shown c.args.config.now input _ None None None refl (c.slot_blocks-in-Lost.ensures.same same)
    (c.slot_blocks-in-Lost.ensures.goes_on same) has)

pub returns-in-Wrong-clause-heard : goal.returns-in-Wrong-clause-heard
returns-in-Wrong-clause-heard c slot sent input last kept due has =
    rw c.in-Wrong.is (hears_more c.args.config.now input _ _ (Some c.blocks_of.result) (Some c.in-Wrong.message) None
    c.blocks_of.ensures c.slot_blocks-in-Wrong.ensures.stands has)

pub returns-in-Wrong-clause-same : goal.returns-in-Wrong-clause-same
returns-in-Wrong-clause-same c slot sent input last kept due has same =
    rw c.in-Wrong.is (stays_shown c.args.config.now input _ (Some c.blocks_of.result) (Some c.in-Wrong.message) None
    c.blocks_of.ensures (c.slot_blocks-in-Wrong.ensures.same same) (c.slot_blocks-in-Wrong.ensures.goes_on same) has)
