-- The lengths that the value of a reign can have (this project's own rule): the lengths at which each of its fragments
-- can stand. If an address had other bytes before, the value ends before the first place at which both differ. A
-- fragment that leaves no length does not fit: the set stays as it is. A reign has a value exactly if each of its
-- fragments fits, and some length of the set reaches the ends of its tags. Lists have the newest first.
use Rattle.std.specs.Prelude.{◌≡◌, ◌<◌, ◌+◌, ◌-◌, ◌*◌, ◌/◌, ◌^◌, ◌==◌, ◌&&◌, ◌||◌, [], ◌∷◌, ℕ, zero, suc, Bool, true}
use Rattle.std.specs.Prelude.{false, List, Option, Some, None, bit_and, length, max, nat_lt, not, replicate}
use Rattle.std.specs.Prelude.{slice_index, slice_index_or, slice_set, if◌then◌else◌}
use Rattle.std.specs.List.{AllByRecursion}
use Rattle.std.proofs.Common.{arith}
use Rattle.rds_fields.specs.Tag.{PairFields, TagFields, end_of}
use Rattle.rds_assembly.specs.Body.{space}
use Rattle.rds_assembly.specs.Value.{is_name_byte, is_text_byte}
use Rattle.rds_assembly.specs.Whole.{carriage_return}
use Rattle.rds_receiver.specs.declared.fragment.Fragment.{Fragment}
use Rattle.rds_audit.specs.declared.audited.Measured.{Measured}
use Rattle.rds_audit.specs.declared.text_form.TextForm.{TextForm}
use Rattle.rds_audit.specs.declared.text_form.TextForm.TheVariants.{Plain, Padded}
use Rattle.rds_safety.specs.Lawful.{Kind, names}
use Rattle.rds_audit.specs.Forms.{text_kind}
use Rattle.rds_audit.specs.Reigns.{SentTags}
use Rattle.rds_audit.specs.Rules.{HaveOneValue}

-- ---- sets of lengths

-- the set of the lengths below k that pass a test, as a number: bit n is set if n passes
unfoldable pub those : (ℕ → Bool) → ℕ → ℕ
those ok zero = 0
those ok (suc n) = (if ok n then 1 else 0) * 2 ^ n + those ok n

-- each length of the set is below this end
abbrev pub is_past : ℕ → ℕ → Bool
is_past lengths end = lengths / 2 ^ end == 0

-- ---- which byte may stand at place i of a value of n bytes

-- of a text: its bytes, a carriage return behind them, and spaces up to the end of that segment
abbrev pub in_text : ℕ → ℕ → ℕ → Bool
in_text n i b =
    if nat_lt i n then is_text_byte b else if i == n then b == carriage_return else i / 4 == n / 4 && b == space

-- of a text with padding: behind the carriage return any byte
abbrev pub in_padded_text : ℕ → ℕ → ℕ → Bool
in_padded_text n i b = if nat_lt i n then is_text_byte b else nat_lt n i || b == carriage_return

abbrev pub in_name : ℕ → ℕ → ℕ → Bool
in_name n i b = nat_lt i n && is_name_byte b

-- how a service is audited: its values, the number of its addresses, the set of the lengths of values, which byte may
-- stand where, and whether a value can have other bytes at one address
pub record Gauge : Type 1 where
  pub kind : Kind
  pub segments : ℕ
  pub lengths : ℕ
  pub may : ℕ → ℕ → ℕ → Bool
  pub bends : Bool

-- the bytes may stand from place i on
abbrev pub may_stand : Gauge → ℕ → ℕ → List ℕ → Bool
may_stand g n i [] = true
may_stand g n i (b ∷ bs) = g.may n i b && may_stand g n (i + 1) bs

-- ---- two segments at one address

-- the first place from i on in which these bytes differ; 65 if there is none
abbrev pub limit_from : ℕ → List ℕ → List ℕ → ℕ
limit_from i [] cs = 65
limit_from i (b ∷ bs) [] = 65
limit_from i (b ∷ bs) (c ∷ cs) = if b == c then limit_from (i + 1) bs cs else i

-- if the address has these bytes and others, the value ends before the first place in which they differ; there is none
-- of a service that does not bend
abbrev pub limit_at : Bool → ℕ → Option (List ℕ) → List ℕ → ℕ
limit_at bends address None bytes = 65
limit_at bends address (Some held) bytes = if bends then limit_from (4 * address) held bytes else 0

abbrev pub same_bytes : List ℕ → List ℕ → Bool
same_bytes [] [] = true
same_bytes [] (c ∷ cs) = false
same_bytes (b ∷ bs) [] = false
same_bytes (b ∷ bs) (c ∷ cs) = b == c && same_bytes bs cs

-- these bytes are held
abbrev pub holds : Option (List ℕ) → List ℕ → Bool
holds None bytes = false
holds (Some held) bytes = same_bytes bytes held

-- other bytes are held
abbrev pub is_other : Option (List ℕ) → List ℕ → Bool
is_other None bytes = false
is_other (Some held) bytes = not (same_bytes bytes held)

-- ---- what a fragment leaves

-- a value of n bytes may have these bytes at an address that had others, or none
abbrev pub allows : Gauge → Option (List ℕ) → ℕ → List ℕ → ℕ → Bool
allows g held address bytes n = may_stand g n (4 * address) bytes && nat_lt n (limit_at g.bends address held bytes)

-- the lengths that are left, or those before if there are none
abbrev pub left_or : ℕ → ℕ → Measured
left_or l left =
    if left == 0 then record { lengths = l; fits = false } else record { lengths = left; fits = true }

-- what a fragment leaves of a set of lengths, beside the last bytes at each address
unfoldable pub measure : Gauge → List (Option (List ℕ)) → ℕ → ℕ → List ℕ → Measured
measure g cells l address bytes =
    if holds (slice_index_or cells address None) bytes then record { lengths = l; fits = true }
    else left_or l (bit_and l (those (allows g (slice_index_or cells address None) address bytes) 65))

-- the place after the piece of a tag; 0 for the dummy, of class 0
abbrev pub tag_end : TagFields → ℕ
tag_end tag = if tag.class == 0 then 0 else end_of tag

abbrev pub pair_end : PairFields → ℕ
pair_end pair = max (tag_end pair.one) (tag_end pair.two)

-- the greatest end of all tags
abbrev pub tags_end : List SentTags → ℕ
tags_end [] = 0
tags_end (s ∷ older) = max (tags_end older) (pair_end s.pair)

-- the last bytes that were sent at an address
abbrev pub sent_last : ℕ → List Fragment → Option (List ℕ)
sent_last a [] = None
sent_last a (p ∷ older) = if a == p.address then Some p.bytes else sent_last a older

-- the last bytes that were sent at each address
abbrev pub sent_cells : List Fragment → List (Option (List ℕ))
sent_cells [] = replicate 16 None
sent_cells (p ∷ older) = slice_set (sent_cells older) p.address (Some p.bytes)

-- the fragment has the form that the service sends: four bytes at one of its addresses
pub record IsFormed (segments : ℕ) (p : Fragment) : Type 0 where
  pub address : p.address < segments
  pub four : length p.bytes ≡ 4
  pub fits : (k : ℕ) → slice_index p.bytes k < 256

-- the lengths that fragments leave
abbrev pub lengths_of : Gauge → List Fragment → ℕ
lengths_of g [] = g.lengths
lengths_of g (p ∷ older) = (measure g (sent_cells older) (lengths_of g older) p.address p.bytes).lengths

-- what one more fragment leaves
abbrev pub measured_after : Gauge → List Fragment → Fragment → Measured
measured_after g older p = measure g (sent_cells older) (lengths_of g older) p.address p.bytes

-- each fragment fits those before it
abbrev pub all_fit : Gauge → List Fragment → Bool
all_fit g [] = true
all_fit g (p ∷ older) = (measured_after g older p).fits && all_fit g older

-- the fragment changes the value of these: its address was sent with other bytes, and no value has both
abbrev pub changes : Gauge → List Fragment → Fragment → Bool
changes g older p = is_other (sent_last p.address older) p.bytes && not (measured_after g older p).fits

-- each fragment fits, and the tags end within some length
pub record AreMeasured (g : Gauge) (fragments : List Fragment) (tags : List SentTags) : Type 0 where
  pub fit : all_fit g fragments ≡ true
  pub ends : is_past (lengths_of g fragments) (tags_end tags) ≡ false

-- the gauge is exact: fragments and tags have one value exactly if they are measured so and the fragments are formed
pub record IsExact (g : Gauge) : Type 0 where
  pub some : 0 < g.lengths
  pub measured : (fragments : List Fragment) (tags : List SentTags) → HaveOneValue g.kind fragments tags
      → AreMeasured g fragments tags
  pub formed : (fragments : List Fragment) (tags : List SentTags) → HaveOneValue g.kind fragments tags
      → AllByRecursion (IsFormed g.segments) fragments
  pub one : (fragments : List Fragment) (tags : List SentTags) → AllByRecursion (IsFormed g.segments) fragments
      → AreMeasured g fragments tags → HaveOneValue g.kind fragments tags

pub texts_have_lengths : 0 < 2 ^ 65 - 1
texts_have_lengths = omega arith

pub names_have_lengths : 0 < 2 ^ 8
names_have_lengths = omega arith

abbrev pub may_of : TextForm → ℕ → ℕ → ℕ → Bool
may_of Plain = in_text
may_of Padded = in_padded_text

abbrev pub may_bend : TextForm → Bool
may_bend Plain = false
may_bend Padded = true

-- the gauge of texts of this form
abbrev pub gauge_of : TextForm → Gauge
gauge_of form = record {
  kind = text_kind form;
  segments = 16;
  lengths = 2 ^ 65 - 1;
  may = may_of form;
  bends = may_bend form;
}

abbrev pub text_gauge : Gauge
text_gauge = gauge_of Plain

abbrev pub padded_gauge : Gauge
padded_gauge = gauge_of Padded

abbrev pub name_gauge : Gauge
name_gauge = record { kind = names; segments = 2; lengths = 2 ^ 8; may = in_name; bends = false }
