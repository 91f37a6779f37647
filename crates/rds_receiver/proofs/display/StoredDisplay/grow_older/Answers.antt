use Rattle.std.proofs.Common.{◌≡◌, ℕ, arith, subst, sym}
use Rattle.rds_receiver.specs.Older.{IsOlder}
use Rattle.rds_receiver.specs.Stored.{IsStoredDisplay, display_stored}
use Rattle.rds_receiver.proofs.Ages.{receiver_older}
use Rattle.rds_receiver.proofs.display.StoredDisplay.grow_older.Goals as goal

pub returns-clause-same : goal.returns-clause-same
returns-clause-same c calm = (let same = c.look.ensures.same calm
    in record {
      text = same.text;
      name = same.name;
      text_flag = same.text_flag;
      name_flag = same.name_flag;
      pair = same.pair;
    })

pub returns-clause-holds : goal.returns-clause-holds
returns-clause-holds c stored m first heard st =
    let rests = stored.rests in
    let one : c.args.self.now.rest ≡ 1 = omega (arith, rests, c.if-self-gt0.false) in
    let older = c.look.ensures.older (subst (λ (n : ℕ). IsStoredDisplay (record c.args.self.now { rest = n })) one
    stored) in
    receiver_older m first _ _ heard
    (subst (λ (n : ℕ). IsOlder (display_stored (record c.args.self.now { rest = n })) (display_stored c.look.new.self))
    (sym one) older) st
