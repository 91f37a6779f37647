use Rattle.std.proofs.Common.{◌∙◌, sym}
use Rattle.rds_encoder.specs.Entries.{name_moves, text_moves}
use Rattle.rds_encoder.proofs.Turns.{AfterTurn, no_turn, slot_over, turn_over}
use Rattle.rds_encoder.proofs.encoder.Encoder.end_slot.Goals as goal
use Rattle.rds_encoder.proofs.encoder.Encoder.end_slot.Goals.{then-has_turn, else-has_turn}

pub returns : goal.returns
returns c station m entries st =
    let free = c.args.free in
    let has = c.has_turn.ensures station m entries st in
    let mid : AfterTurn station m free entries c.if-has_turn.self = elim c.if-has_turn.branch [
      | then-has_turn w ↦
          let turn = w.end_turn.ensures in
          rw (w.self-is, turn.kept) (turn_over station m _ _ free entries st (sym has ∙ w.if-has_turn.true)
          turn.text turn.other (turn.good st.good.text))
      | else-has_turn w ↦ rw w.self-is (no_turn station m _ free entries st (sym has ∙ w.if-has_turn.false))
    ] in
    slot_over station m _ _ _ _ free entries mid c.saturating_sub-self.ensures
    (c.end_slot.ensures m free (text_moves entries) mid.text_hold)
    (c.end_slot-2.ensures m free (name_moves entries) mid.name_hold)
