-- Lemmas: a group spells one message.
use Rattle.std.proofs.Common.{◌≡◌, ◌/◌, ◌%◌, ◌==◌, ◌^◌, ◌∙◌, ℕ, Bool, true, false, List, inl, inr}
use Rattle.std.proofs.Common.{ap, arith, get_or, refl, sym}
use Rattle.std.specs.Int.{from_bool}
use Rattle.std.proofs.lemmas.Bool.Decides.{eqb_tells}
use Rattle.rds_block.specs.declared.group.Group.{Group}
use Rattle.rds_block.specs.SecondWord.{four, from_bool-lt}
use Rattle.rds_fields.specs.declared.message.Message.{Message}
use Rattle.rds_fields.specs.declared.message.Message.TheVariants.{Text, Name, Announce, Tags, Other}
use Rattle.rds_fields.specs.Tag.{TagFields, PairFields}
use Rattle.rds_fields.specs.Bits.{Sent, FitsBits, field_bits, IsRead, SpellsPair}
use Rattle.rds_fields.specs.Meaning.{bytes_in, message_in, pair_read, sent_in, tag_read}
use Rattle.rds_fields.specs.Spells.{Carries, IsOf, Spells, SpellsOther, bits_in}

bytes_are : (c d : ℕ) (bytes : List ℕ) → Carries c d bytes → bytes ≡ bytes_in c d
bytes_are c d bytes p =
    let p0 = p.fits 0 in
    let p1 = p.fits 1 in
    let p2 = p.fits 2 in
    let p3 = p.fits 3 in
    let e0 : get_or bytes 0 0 ≡ c / 256 % 256 = omega (arith, p.first, p0, p1) in
    let e1 : get_or bytes 1 0 ≡ c % 256 = omega (arith, p.first, p0, p1) in
    let e2 : get_or bytes 2 0 ≡ d / 256 % 256 = omega (arith, p.second, p2, p3) in
    let e3 : get_or bytes 3 0 ≡ d % 256 = omega (arith, p.second, p2, p3) in
    let all = four bytes p.four in
    cc

bit_is : (b : Bool) (n : ℕ) → n ≡ from_bool b → b ≡ (n == 1)
bit_is true n e = rw e refl
bit_is false n e = rw e refl

tag_is : (k s e : ℕ) (t : TagFields) → IsRead k s e t → t ≡ tag_read k s e
tag_is k s e t p = elim (eqb_tells k 0) [
  | inl (test, none) ↦
      let class : t.class ≡ 0 = p.class ∙ none in
      let start : t.start ≡ 0 = p.dummy_start none in
      let extra : t.extra ≡ 0 = p.dummy_extra none in
      rw test (λ i. record { class = class i; start = start i; extra = extra i })
  | inr (test, some) ↦
      let start : t.start ≡ s = p.start (omega (arith, some)) in
      let extra : t.extra ≡ e = p.extra (omega (arith, some)) in
      rw test (λ i. record { class = p.class i; start = start i; extra = extra i })
]

-- a number has one list of eight fields
sent_is : (s : Sent) → FitsBits s → s ≡ sent_in (field_bits s)
sent_is s p =
    let n = field_bits s in
    let e1 : s.toggle ≡ n / 2 ^ 36 % 2 = omega arith in
    let e2 : s.running ≡ n / 2 ^ 35 % 2 = omega arith in
    let e3 : s.class_one ≡ n / 2 ^ 29 % 64 = omega arith in
    let e4 : s.start_one ≡ n / 2 ^ 23 % 64 = omega arith in
    let e5 : s.extra_one ≡ n / 2 ^ 17 % 64 = omega arith in
    let e6 : s.class_two ≡ n / 2 ^ 11 % 64 = omega arith in
    let e7 : s.start_two ≡ n / 2 ^ 5 % 64 = omega arith in
    let e8 : s.extra_two ≡ n % 32 = omega arith in
    λ i. record {
      toggle = e1 i;
      running = e2 i;
      class_one = e3 i;
      start_one = e4 i;
      extra_one = e5 i;
      class_two = e6 i;
      start_two = e7 i;
      extra_two = e8 i;
    }

pair_is : (n : ℕ) (p : PairFields) (s : Sent) → SpellsPair p n s → p ≡ pair_read (sent_in n)
pair_is n p s a =
    let fields : s ≡ sent_in n = sent_is s a.fits ∙ ap sent_in (sym a.bits) in
    let toggle = bit_is p.toggle s.toggle (sym a.toggle) in
    let running = bit_is p.running s.running (sym a.running) in
    let one = tag_is _ _ _ p.one a.one in
    let two = tag_is _ _ _ p.two a.two in
    let read : p ≡ pair_read s = λ i. record { toggle = toggle i; running = running i; one = one i; two = two i } in
    read ∙ ap pair_read fields

is_other : (g : Group) → SpellsOther g → Other ≡ message_in g
is_other g p = by g.version refl
  where
    none : (n : ℕ) → (IsOf g n → ⊥) → g.version ≡ false → (g.number == n) ≡ false
    none n not version = elim (eqb_tells g.number n) [
      | inl (test, is) ↦ absurd (not record { number = is; version = version })
      | inr (test, other) ↦ test
    ]

    by : (v : Bool) → g.version ≡ v → Other ≡ message_in g
    by true e = rw e refl
    by false e = rw (e, none 2 p.text e, none 10 p.name e, none 3 p.announce e, none 11 p.tags e) refl

-- the message that a group spells is the one in it
pub is_message_in : (m : Message) (g : Group) → Spells m g → m ≡ message_in g
is_message_in (Text f a b) g p =
    let low = from_bool-lt f in
    let bit : g.low / 16 ≡ from_bool f = omega (arith, p.low, p.address, low) in
    let flag = bit_is f (g.low / 16) bit in
    let address : a ≡ g.low % 16 = omega (arith, p.low, p.address, low) in
    let bytes = bytes_are g.c g.d b p.bytes in
    rw (p.of.version, p.of.number) (λ i. Text (flag i) (address i) (bytes i))
is_message_in (Name f a b) g p =
    let low = from_bool-lt f in
    let bit : g.low / 16 ≡ from_bool f = omega (arith, p.1.low, p.1.address, p.1.between, low) in
    let flag = bit_is f (g.low / 16) bit in
    let address : a ≡ g.low % 2 = omega (arith, p.1.low, p.1.address, p.1.between, low) in
    let bytes = bytes_are g.c g.d b p.1.bytes in
    rw (p.1.of.version, p.1.of.number) (λ i. Name (flag i) (address i) (bytes i))
is_message_in (Announce k b a) g p =
    rw (p.of.version, p.of.number) (λ i. Announce (sym p.low i) (sym p.third i) (sym p.fourth i))
is_message_in (Tags x) g p = rw (p.1.of.version, p.1.of.number) (ap Tags (pair_is (bits_in g) x p.0 p.1.pair))
is_message_in Other g p = is_other g p

-- a group spells one message
pub same_message : (m n : Message) (g : Group) → Spells m g → Spells n g → m ≡ n
same_message m n g p q = is_message_in m g p ∙ sym (is_message_in n g q)
