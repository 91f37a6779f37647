use Rattle.std.proofs.Common.{arith, ◌≡◌, ◌≢◌, None, refl}
use Rattle.rds_receiver.specs.Stored.{age_stored, display_stored}
use Rattle.rds_receiver.proofs.Ages.{age_taken}
use Rattle.rds_receiver.proofs.Runs.{equal_or_not, text_heard_by}
use Rattle.rds_receiver.proofs.display.StoredDisplay.hear_text.Goals as goal

pub returns-clause-holds : goal.returns-clause-holds
returns-clause-holds c stored m first heard st =
    let r = display_stored c.args.self.now in
    let between = display_stored c.if-not-has_flag.self in
    let same : c.args.fragment.flag ≡ r.text.flag → between ≡ r =
    λ e. search arith in
    let other : c.args.fragment.flag ≢ r.text.flag → between ≡ record r { pair = None } =
    λ ne. search arith in
    let age : age_stored between.dwell c.if-not-has_flag.self.rest c.take.new.self
    ≡ 0 = search (arith, equal_or_not, age_taken) in
    text_heard_by m first r between _ heard c.args.fragment same other
    record { same = c.take.ensures.same; other = c.take.ensures.other; flag = c.take.ensures.flag; age = age } refl st
