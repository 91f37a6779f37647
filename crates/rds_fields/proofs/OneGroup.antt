-- Lemmas: one group is written for a message with a head.
use Rattle.std.proofs.Common.{◌≡◌, ◌≢◌, ℕ, refl, arith}
use Rattle.rds_block.specs.declared.group.Group.{Group}
use Rattle.rds_fields.specs.declared.head.Head.{Head}
use Rattle.rds_fields.specs.declared.message.Message.{Message}
use Rattle.rds_fields.specs.declared.message.Message.TheVariants.{Text, Name, Announce, Tags, Other}
use Rattle.rds_fields.specs.Tag.{PairFields}
use Rattle.rds_fields.specs.Bits.{Sent, field_bits, sent_of, SpellsPair}
use Rattle.rds_fields.specs.Spells.{bits_in}
use Rattle.rds_fields.specs.Canonical.{IsPlain, IsWritten}

-- a number with plain fields is the number written for its pair
plain_bits : (n : ℕ) (p : PairFields) (s : Sent) → SpellsPair p n s → IsPlain s → n ≡ field_bits (sent_of p)
plain_bits n p s a b = grind (arith)

-- one group is written for a message with a head
pub same_group : (m : Message) (head : Head) (g h : Group) → m ≢ Other → IsWritten m head g → IsWritten m head h → g ≡ h
same_group (Text f a b) head g h other p q = grind (arith)
same_group (Name f a b) head g h other p q = grind (arith)
same_group (Announce k b a) head g h other p q = grind (arith)
same_group (Tags z) head g h other p q =
    let s = p.spelled.0 in
    let t = q.spelled.0 in
    let x = p.spelled.1 in
    let y = q.spelled.1 in
    let bits = plain_bits (bits_in g) z s x.pair (p.canonical.tags x.of s x.pair.fits x.pair.bits) in
    let bits' = plain_bits (bits_in h) z t y.pair (q.canonical.tags y.of t y.pair.fits y.pair.bits) in
    grind (arith)
same_group Other head g h other p q = absurd (other refl)
