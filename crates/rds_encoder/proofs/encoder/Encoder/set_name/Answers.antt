use Rattle.std.proofs.Common.{arith, ◌∙◌, sym}
use Rattle.rds_encoder.specs.Entries.{name_moves}
use Rattle.rds_encoder.proofs.Turns.{names_after_silence, names_in_silence, passed_on, name_accepted}
use Rattle.rds_encoder.proofs.encoder.Encoder.set_name.Goals as goal

pub returns-in_err-check_silence-clause-reply : goal.returns-in_err-check_silence-clause-reply
returns-in_err-check_silence-clause-reply c station m entries stands =
    grind (arith, passed_on, names_in_silence)

pub returns-in_err-check_silence-clause-stands : goal.returns-in_err-check_silence-clause-stands
returns-in_err-check_silence-clause-stands c station m entries stands = grind (arith, names_in_silence)

pub returns-in_err-set-clause-reply : goal.returns-in_err-set-clause-reply
returns-in_err-set-clause-reply c station m entries stands = grind (arith, passed_on, names_after_silence)

pub returns-clause-reply : goal.returns-clause-reply
returns-clause-reply c station m entries stands = grind (arith, names_after_silence)

pub returns-clause-stands : goal.returns-clause-stands
returns-clause-stands c station m entries st =
    let ok = sym (returns-clause-reply c station m entries st) in
    let back = rw (c.restore-distance.ensures st.good.some st.good.distance ∙ st.distance)
    at (c.in_ok-set.ensures.hold (name_moves entries) c.args.name) in
    name_accepted station m _ _ _ entries c.args.name st ok (back st.name_hold ok) c.of-self.ensures.same c.of-self.ensures.good
