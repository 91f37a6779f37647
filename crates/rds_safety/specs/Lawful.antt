-- When a plan of broadcasts is lawful for the marks of one service (this project's own rule): the broadcasts are
-- spaced, each value may be sent, and each fragment and each pair of tags is of one of them. A plan is only a list of
-- broadcasts, so it may come from an encoder or from a log. Lists have the newest first, and the number of a broadcast
-- counts from the oldest.
use Rattle.std.specs.Prelude.{◌≡◌, ◌≤◌, ◌<◌, ◌+◌, ◌*◌, ℕ, List, length, slice_index}
use Rattle.rds_fields.specs.Tag.{BothEndIn, PairFields}
use Rattle.rds_assembly.specs.Body.{name_body, segment_count, segment_of, text_body}
use Rattle.rds_assembly.specs.Value.{IsName, IsText}
use Rattle.rds_encoder.specs.Plan.{Broadcast, Covers, HasNumber}
use Rattle.rds_encoder.specs.Spaced.{IsSpaced}
use Rattle.rds_receiver.specs.declared.fragment.Fragment.{Fragment}
use Rattle.rds_safety.specs.Marks.{IsMarkIn, Mark, Sends, Tagged}

-- the fragment is a segment of this body
pub record IsFragmentOf (body : List ℕ) (p : Fragment) : Type 0 where
  pub within : p.address < segment_count body
  pub bytes : p.bytes ≡ segment_of body p.address

-- the fragment is one of this text with padding: up to and with the carriage return of the text its bytes are those of
-- the body; behind it they may be any
pub record IsPaddedFragmentOf (x : List ℕ) (p : Fragment) : Type 0 where
  pub within : p.address < 16
  pub four : length p.bytes ≡ 4
  pub fits : (k : ℕ) → slice_index p.bytes k < 256
  pub bytes : (k : ℕ) → k < 4 → 4 * p.address + k ≤ length x
      → slice_index p.bytes k ≡ slice_index (text_body x) (4 * p.address + k)

-- a service: the values that may be sent, the body that is sent for each, and the fragments that are of it
pub record Kind : Type 1 where
  pub IsValue : List ℕ → Type 0
  pub body : List ℕ → List ℕ
  pub HasPart : List ℕ → Fragment → Type 0

abbrev pub texts : Kind
texts = record { IsValue = IsText; body = text_body; HasPart = λ x p. IsFragmentOf (text_body x) p }

abbrev pub names : Kind
names = record { IsValue = IsName; body = name_body; HasPart = λ x p. IsFragmentOf (name_body x) p }

-- texts of an encoder that sends any bytes behind the carriage return, up to 64
abbrev pub padded_texts : Kind
padded_texts = record { IsValue = IsText; body = text_body; HasPart = IsPaddedFragmentOf }

-- the broadcast has the fragment that was sent in this slot: it covers the slot, and has the flag and the segment
pub record HasFragment (kind : Kind) (slot : ℕ) (p : Fragment) (b : Broadcast) : Type 0 where
  pub covers : Covers b slot
  pub flag : p.flag ≡ b.flag
  pub fragment : kind.HasPart b.bytes p

-- the broadcast has the tags that were sent in this slot: it started at least d slots before, it has not ended, and
-- both tags end in its text
pub record HasTags (d slot : ℕ) (pair : PairFields) (b : Broadcast) : Type 0 where
  pub lasted : b.start + d ≤ slot
  pub to : slot ≤ b.end
  pub ends : BothEndIn (length b.bytes) pair

-- some broadcast of the plan has this property
pub record HasOne (plan : List Broadcast) (Is : Broadcast → Type 0) : Type 0 where
  pub number : ℕ
  pub broadcast : Broadcast
  pub planned : HasNumber plan number broadcast
  pub is : Is broadcast

-- a fragment was sent before this slot
pub record IsAfterFragment (sent : List Mark) (t : ℕ) : Type 0 where
  pub slot : ℕ
  pub fragment : Fragment
  pub is_sent : IsMarkIn sent slot (Sends fragment)
  pub before : slot < t

-- the plan is lawful, with a spacing of d slots, for these marks of the service; tags before the first fragment do not
-- count, since no receiver shows them
pub record IsLawful (d : ℕ) (kind : Kind) (plan : List Broadcast) (sent : List Mark) : Type 0 where
  pub spaced : IsSpaced d plan
  pub values : (k : ℕ) (b : Broadcast) → HasNumber plan k b → kind.IsValue b.bytes
  pub fragments : (slot : ℕ) (p : Fragment) → IsMarkIn sent slot (Sends p) → HasOne plan (HasFragment kind slot p)
  pub tags : (slot : ℕ) (pair : PairFields) → IsMarkIn sent slot (Tagged pair) → IsAfterFragment sent slot
      → HasOne plan (HasTags d slot pair)
