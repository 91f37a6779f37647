use Rattle.rds_witness.proofs.HeldParts.{holds_part, part_stored}
use Rattle.rds_witness.proofs.covering.is_receiver_part.Goals as goal

pub returns-then-is_part : goal.returns-then-is_part
returns-then-is_part c holds pi m input more mine theirs long =
    let texts = c.is_part.ensures in
    let names = c.is_part-then-is_part.ensures in
    holds_part pi m c.args.one.now c.args.other.now record {
      text = part_stored _ _ _ _ _ _ (texts.cells c.if-is_part.true)
          (rw (c.text_age.ensures, c.text_age-2.ensures) at (texts.newer c.if-is_part.true));
      name = part_stored _ _ _ _ _ _ (names.cells holds)
          (rw (c.name_age.ensures, c.name_age-then-is_part.ensures) at (names.newer holds));
      pair = c.is_pair_part.ensures c.if-not-is_pair_part.false;
      known = c.is_known_part.ensures c.if-not-is_known_part.false;
    }
    input more mine theirs long
