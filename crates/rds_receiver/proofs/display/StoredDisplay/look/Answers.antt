use Rattle.std.proofs.Common.{◌≢◌, ◌≤◌, ap, arith, inl, subst, sym}
use Rattle.std.proofs.lemmas.Bool.{or_parts}
use Rattle.rds_fields.specs.Stored.{is_set, pair_stored}
use Rattle.rds_receiver.specs.Holds.{ShowsAlike}
use Rattle.rds_receiver.specs.Older.{IsOlder}
use Rattle.rds_receiver.specs.Stored.{display_stored}
use Rattle.rds_receiver.specs.declared.display.StoredDisplay.{StoredDisplay}
use Rattle.rds_receiver.proofs.Ages.{receiver_looked}
use Rattle.rds_receiver.proofs.display.StoredDisplay.look.Goals as goal

pub returns-clause-older : goal.returns-clause-older
returns-clause-older c stored =
    let rests : c.drop_if_due-text.new.self.mask ≢ 0 → c.min-rest.result ≤ c.drop_if_due-text.new.self.later =
    λ some. (let now = c.wait.ensures.held some in let least = c.min-rest.ensures in omega (arith, now, least)) in
    let rests_name : c.drop_if_due-name.new.self.mask ≢ 0 → c.min-rest.result ≤ c.drop_if_due-name.new.self.later =
    λ some. (let now = c.wait-2.ensures.held some in let least = c.min-rest.ensures in omega (arith, now, least)) in
    subst (λ (r : StoredDisplay). IsOlder (display_stored (record c.args.self.now { rest = 1 })) (display_stored r))
    (sym c.drop_pair-pair.ensures.rest)
    (receiver_looked c.args.self.now c.min-rest.result c.drop_if_due-text.new.self c.drop_if_due-name.new.self
    c.saturating_sub-self.result c.saturating_sub-self-2.result c.drop_pair-pair.new.self.pair stored
    record {
      within = stored.text;
      stays = c.drop_if_due-text.ensures.later;
      due = c.drop_if_due-text.ensures.due;
      soon = rests;
      is = c.saturating_sub-self.ensures;
    }
    record {
      within = stored.name;
      stays = c.drop_if_due-name.ensures.later;
      due = c.drop_if_due-name.ensures.due;
      soon = rests_name;
      is = c.saturating_sub-self-2.ensures;
    }
    (λ some. ap pair_stored (c.drop_pair-pair.ensures.held some))
    c.drop_pair-pair.ensures.dropped)

pub returns-clause-same : goal.returns-clause-same
returns-clause-same c calm =
    let (both, pair) = or_parts _ _ calm in
    let (text, name) = or_parts _ _ both in
    subst (λ (r : StoredDisplay). ShowsAlike (display_stored c.args.self.now) (display_stored r))
    (sym c.drop_pair-pair.ensures.rest)
    record {
      text = c.drop_if_due-text.ensures.same text;
      name = c.drop_if_due-name.ensures.same name;
      text_flag = inl (ap is_set c.drop_if_due-text.ensures.flag);
      name_flag = inl (ap is_set c.drop_if_due-name.ensures.flag);
      pair = inl (ap pair_stored (c.drop_pair-pair.ensures.same pair));
    }
