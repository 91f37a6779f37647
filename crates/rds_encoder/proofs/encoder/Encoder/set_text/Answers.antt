use Rattle.std.proofs.Common.{arith, ◌≡◌, ◌∙◌, Ok}
use Rattle.rds_encoder.specs.Entries.{text_moves}
use Rattle.rds_encoder.specs.Reply.{reply_to}
use Rattle.rds_encoder.proofs.Turns.{silence_over, text_accepted}
use Rattle.rds_encoder.proofs.encoder.Encoder.set_text.Goals as goal

pub returns-clause-stands : goal.returns-clause-stands
returns-clause-stands c station m entries st =
    let ok : reply_to m (text_moves entries) ≡ Ok tt = grind (arith, silence_over, c.in_ok-set.ensures.reply m) in
    let back = rw (c.restore-distance.ensures st.good.some st.good.distance ∙ st.distance)
    at (c.in_ok-set.ensures.hold (text_moves entries) c.args.text) in
    text_accepted station m _ _ _ _ entries c.args.text st ok (back st.text_hold ok) c.of-self.ensures.same
    c.of-self.ensures.good c.none-self.ensures.same c.none-self.ensures.good
