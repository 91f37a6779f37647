use Rattle.std.proofs.Common.{◌/◌, ◌^◌}
use Rattle.std.proofs.lemmas.Nat.{and_mask}
use Rattle.rds_fields.specs.Meaning.{sent_in}
use Rattle.rds_fields.proofs.Shifts.{fields-fit, bits_of-fields, low_bit}
use Rattle.rds_fields.proofs.pair.TagPair.from_bits.Goals as goal

pub returns : goal.returns
returns c =
    let n = c.args.bits in (
      sent_in n,
      record {
        fits = fields-fit n;
        bits = bits_of-fields n c.requires;
        toggle = low_bit (n / 2 ^ 36);
        running = low_bit (n / 2 ^ 35);
        one = rw (and_mask (n / 2 ^ 29) 6, and_mask (n / 2 ^ 23) 6, and_mask (n / 2 ^ 17) 6) at c.read.ensures;
        two = rw (and_mask (n / 2 ^ 11) 6, and_mask (n / 2 ^ 5) 6, and_mask n 5) at c.read-2.ensures;
      },
    )
