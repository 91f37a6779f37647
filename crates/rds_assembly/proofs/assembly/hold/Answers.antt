use Rattle.std.proofs.Common.{◌≡◌, ◌+◌, ◌-◌, ◌*◌, length, ap, ◌∙◌, arith, rules, w16}
use Rattle.std.proofs.lemmas.Nat.Bits.{bit_at_set_same, bit_at_set_other}
use Rattle.rds_assembly.proofs.HeldLemmas.{put_held, others_stay, segment_stands}
use Rattle.rds_assembly.proofs.assembly.hold.Goals as goal

pub returns : goal.returns
returns c =
    let a = c.args.address in
    let bytes = c.args.bytes.now in
    let four : 4 * a + 4 - 4 * a ≡ 4 = omega arith in
    let long : length c.args.segment ≡ 4 = search rules in
    let room : length bytes ≡ 64 = search rules in
    let copied : length c.copy_from_slice.new.self ≡ 4 = ap length c.copy_from_slice.ensures.after ∙ long in
    put_held c.args.mask _ a bytes _ c.args.segment c.requires (bit_at_set_same w16 c.args.mask a (omega arith))
    (bit_at_set_other w16 c.args.mask a (omega arith))
    (segment_stands a _ bytes c.copy_from_slice.new.self four copied (omega arith) ∙ c.copy_from_slice.ensures.after)
    (others_stay a _ bytes c.copy_from_slice.new.self four copied (omega arith))
