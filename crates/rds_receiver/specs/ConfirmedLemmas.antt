-- Lemmas about confirmed messages. Lists have the newest first.
use Rattle.std.proofs.Common.{◌≡◌, ◌&&◌, ◌==◌, ◌+◌, ℕ, suc, Bool, true, false, List, [], ◌∷◌, Option, Some, None}
use Rattle.std.proofs.Common.{length, refl, ap}
use Rattle.std.proofs.lemmas.Bool.{and_parts, eqb-true}
use Rattle.rds_fields.specs.declared.message.Message.{Message}
use Rattle.rds_fields.specs.Tag.{PairFields, TagFields}
use Rattle.rds_receiver.specs.Holds.{newest_slot}
use Rattle.rds_receiver.specs.Run.{is_same}
use Rattle.rds_receiver.specs.Confirmed.{confirmed, counted_in, same_pair, same_tag}

-- as many entries were heard as are confirmed or not
pub confirmed_long : (w m first : ℕ) (heard : List (Option Message)) → length (confirmed w m first heard) ≡ length heard
confirmed_long w m first [] = refl
confirmed_long w m first (x ∷ before) = ap suc (confirmed_long w m first before)

-- as many entries were heard as count or not
pub counted_long : (window : Option ℕ) (m first : ℕ) (heard : List (Option Message))
    → length (counted_in window m first heard) ≡ length heard
counted_long None m first heard = refl
counted_long (Some w) m first heard = confirmed_long w m first heard

-- so the newest slot is the same
pub newest_counted : (window : Option ℕ) (m first : ℕ) (heard : List (Option Message))
    → newest_slot first (counted_in window m first heard) ≡ newest_slot first heard
newest_counted None m first heard = refl
newest_counted (Some w) m first [] = refl
newest_counted (Some w) m first (x ∷ before) = ap (λ (n : ℕ). first + n) (confirmed_long w m first before)

-- the tests compare flags, tags and pairs
pub one_flag : (f g : Bool) → is_same f g ≡ true → f ≡ g
one_flag true true e = refl
one_flag false false e = refl
one_flag true false e = absurd (cc)
one_flag false true e = absurd (cc)

pub one_tag : (x y : TagFields) → same_tag x y ≡ true → x ≡ y
one_tag x y t =
    let parts = and_parts (x.class == y.class) (x.start == y.start && x.extra == y.extra) t in
    let rest = and_parts (x.start == y.start) (x.extra == y.extra) parts.1 in
    let class : x.class ≡ y.class = eqb-true x.class y.class parts.0 in
    let start : x.start ≡ y.start = eqb-true x.start y.start rest.0 in
    let extra : x.extra ≡ y.extra = eqb-true x.extra y.extra rest.1 in
    λ i. record { class = class i; start = start i; extra = extra i }

pub one_pair : (p q : PairFields) → same_pair p q ≡ true → p ≡ q
one_pair p q t =
    let parts = and_parts (is_same p.toggle q.toggle && is_same p.running q.running)
    (same_tag p.one q.one && same_tag p.two q.two) t in
    let bits = and_parts (is_same p.toggle q.toggle) (is_same p.running q.running) parts.0 in
    let tags = and_parts (same_tag p.one q.one) (same_tag p.two q.two) parts.1 in
    let toggle : p.toggle ≡ q.toggle = one_flag p.toggle q.toggle bits.0 in
    let running : p.running ≡ q.running = one_flag p.running q.running bits.1 in
    let one : p.one ≡ q.one = one_tag p.one q.one tags.0 in
    let two : p.two ≡ q.two = one_tag p.two q.two tags.1 in
    λ i. record { toggle = toggle i; running = running i; one = one i; two = two i }
