use Rattle.std.proofs.Common.{◌+◌, arith}
use Rattle.rds_encoder.specs.Entries.{name_moves, slot_of, text_moves}
use Rattle.rds_encoder.specs.Sent.{is_free}
use Rattle.rds_encoder.proofs.Turns.{head_back, none_yet}
use Rattle.rds_encoder.proofs.encoder.Encoder.spaced.Goals as goal

pub returns-clause-first : goal.returns-clause-first
returns-clause-first c =
    let distance = c.get-distance.ensures.value in
    record {
      good = record {
        pty = omega (arith, c.get.ensures.below);
        some = c.get-distance.ensures.some;
        distance = c.get-distance.ensures.most;
        text = c.none-3.ensures.good;
        name = c.none-4.ensures.good;
        pair = c.none-5.ensures.good;
      };
      head = head_back c.args.head c.from.result c.get.result c.from.ensures c.get.ensures.value;
      distance = distance;
      silence = omega (arith, distance);
      round = omega arith;
      text_hold = c.none.ensures.first c.args.distance;
      name_hold = c.none-2.ensures.first c.args.distance;
      text = c.none-3.ensures.same;
      name = c.none-4.ensures.same;
      pair = c.none-5.ensures.same;
    }

pub returns-clause-again : goal.returns-clause-again
returns-clause-again c entries =
    let d = c.args.distance in
    let first = returns-clause-first c in
    record {
      good = first.good;
      head = first.head;
      distance = first.distance;
      silence = omega (arith, first.distance);
      round = omega (arith, none_yet is_free (slot_of (text_moves entries) + d) (text_moves entries) (omega arith));
      text_hold = c.none.ensures.again d (text_moves entries);
      name_hold = c.none-2.ensures.again d (name_moves entries);
      text = first.text;
      name = first.name;
      pair = first.pair;
    }
