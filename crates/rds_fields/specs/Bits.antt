-- The 37 bits of a group of tags: item toggle, item running, then class (content type), start marker and length marker
-- of the first tag, then of the second. Each field has its highest bit first (IEC 62106-6, RadioText Plus).
use Rattle.std.specs.Prelude.{◌≡◌, ℕ, ◌+◌, ◌*◌, ◌^◌, ◌<◌}
use Rattle.std.specs.Int.{from_bool}
use Rattle.rds_fields.specs.Tag.{TagFields, PairFields}

-- the eight fields as they are sent, in this order
pub record Sent : Type 0 where
  pub toggle : ℕ
  pub running : ℕ
  pub class_one : ℕ
  pub start_one : ℕ
  pub extra_one : ℕ
  pub class_two : ℕ
  pub start_two : ℕ
  pub extra_two : ℕ

-- each field fits into its number of bits
pub record FitsBits (s : Sent) : Type 0 where
  pub toggle : s.toggle < 2
  pub running : s.running < 2
  pub class_one : s.class_one < 64
  pub start_one : s.start_one < 64
  pub extra_one : s.extra_one < 64
  pub class_two : s.class_two < 64
  pub start_two : s.start_two < 64
  pub extra_two : s.extra_two < 32

-- the eight fields joined as one number
abbrev pub field_bits : Sent → ℕ
field_bits s =
    2 ^ 36 * s.toggle + 2 ^ 35 * s.running
    + 2 ^ 29 * s.class_one + 2 ^ 23 * s.start_one + 2 ^ 17 * s.extra_one
    + 2 ^ 11 * s.class_two + 2 ^ 5 * s.start_two + s.extra_two

-- the eight fields that are sent for a pair
abbrev pub sent_of : PairFields → Sent
sent_of p = record {
  toggle = from_bool p.toggle;
  running = from_bool p.running;
  class_one = p.one.class;
  start_one = p.one.start;
  extra_one = p.one.extra;
  class_two = p.two.class;
  start_two = p.two.start;
  extra_two = p.two.extra;
}

-- class k, start s and length marker e are read as the tag t; class 0 is read as the tag of zeros, whatever s and e are
-- (this project's own rule)
pub record IsRead (k s e : ℕ) (t : TagFields) : Type 0 where
  pub class : t.class ≡ k
  pub start : 0 < k → t.start ≡ s
  pub extra : 0 < k → t.extra ≡ e
  pub dummy_start : k ≡ 0 → t.start ≡ 0
  pub dummy_extra : k ≡ 0 → t.extra ≡ 0

-- n has the eight fields s, and they are read as the pair p
pub record SpellsPair (p : PairFields) (n : ℕ) (s : Sent) : Type 0 where
  pub fits : FitsBits s
  pub bits : n ≡ field_bits s
  pub toggle : from_bool p.toggle ≡ s.toggle
  pub running : from_bool p.running ≡ s.running
  pub one : IsRead s.class_one s.start_one s.extra_one p.one
  pub two : IsRead s.class_two s.start_two s.extra_two p.two
