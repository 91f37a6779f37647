-- The laws about all logs that are audited. Lists have the newest first.
use Rattle.std.specs.Prelude.{◌≡◌, ◌+◌, ◌<◌, ◌≤◌, ◌⊎◌, ◌↔◌, ℕ, List, [], ◌∷◌, Option, length, map, option_map}
use Rattle.std.specs.List.{All, AllByRecursion}
use Rattle.rds_fields.specs.declared.message.Message.{Message}
use Rattle.rds_fields.specs.Tag.{BothEndIn}
use Rattle.rds_encoder.specs.Plan.{Broadcast, HasNumber}
use Rattle.rds_receiver.specs.declared.fragment.Fragment.{Fragment}
use Rattle.rds_audit.specs.declared.audit.AuditFault.{AuditFault}
use Rattle.rds_audit.specs.Dense.{AreDense, HasPlans, IsDense}
use Rattle.rds_safety.specs.Lawful.{HasFragment, IsLawful, Kind}
use Rattle.rds_safety.specs.Marks.{IsMarkIn, Mark, Sends}
use Rattle.rds_safety.specs.OwnClock.{ListensByOwnClock}
use Rattle.rds_safety.specs.Plans.{AreLawfulAs, Plans}
use Rattle.rds_audit.specs.Forms.{text_kind}
use Rattle.rds_audit.specs.declared.text_form.TextForm.{TextForm}
use Rattle.rds_audit.specs.Recording.{from_first_text, preceded}
use Rattle.rds_audit.specs.Reigns.{Reign, SentTags, reigns}
use Rattle.rds_audit.specs.Listing.{IsFaultOf}
use Rattle.rds_audit.specs.Rules.{LogPasses}
use Rattle.rds_safety.specs.Safe.{AreSafeViews, Listener, ListensTo}

-- a log passes exactly if it has plans that are lawful and dense
abbrev pub PassesExactlyByPlans : Type 0
PassesExactlyByPlans =
    (form : TextForm) (d : ℕ) (log : List (Option Message)) → 0 < d → LogPasses form d log ↔ HasPlans form d log

-- the tags can be those of the broadcast: it started at least d slots before them, and they end in its text
pub record AreTagsOf (d : ℕ) (b : Broadcast) (s : SentTags) : Type 0 where
  pub lasted : b.start + d ≤ s.slot
  pub ends : BothEndIn (length b.bytes) s.pair

-- the reign is of this broadcast, which starts no earlier than the reign and no later than its first fragment, ends no
-- earlier than its last slot, and has its flag, fragments and tags
pub record IsReignOf (d : ℕ) (kind : Kind) (b : Broadcast) (r : Reign) : Type 0 where
  pub start : r.start ≤ b.start
  pub from : b.start ≤ r.opened
  pub to : r.last ≤ b.end
  pub flag : r.flag ≡ b.flag
  pub fragments : AllByRecursion (kind.HasPart b.bytes) r.fragments
  pub tags : AllByRecursion (AreTagsOf d b) r.tags

-- the reigns are of broadcasts of the plan, in order: the numbers of these are below n and fall
abbrev pub AreReignsOf : ℕ → Kind → List Broadcast → ℕ → List Reign → Type 0
AreReignsOf d kind plan n [] = Unit {0}
AreReignsOf d kind plan n (r ∷ older) =
    (k : ℕ) × (b : Broadcast) × (k < n) × HasNumber plan k b × IsReignOf d kind b r × AreReignsOf d kind plan k older

-- one of the reigns has this property
abbrev pub SomeReign : (Reign → Type 0) → List Reign → Type 0
SomeReign Is [] = ⊥
SomeReign Is (r ∷ older) = Is r ⊎ SomeReign Is older

-- the reigns are the broadcasts with a sent fragment, in order: each reign is of one broadcast, and each of these
-- broadcasts has a reign
pub record AreTheReigns (d : ℕ) (kind : Kind) (plan : List Broadcast) (sent : List Mark) : Type 0 where
  pub each : AreReignsOf d kind plan (length plan) (reigns d sent)
  pub all : (k : ℕ) (b : Broadcast) (slot : ℕ) (p : Fragment) → HasNumber plan k b → HasFragment kind slot p b
      → IsMarkIn sent slot (Sends p)
      → SomeReign (IsReignOf d kind b) (reigns d sent)

-- this holds for each plan that is lawful and dense
abbrev pub BroadcastsAreTheReigns : Kind → Type 0
BroadcastsAreTheReigns kind = (d : ℕ) (plan : List Broadcast) (sent : List Mark) → IsLawful d kind plan sent
    → IsDense d plan sent → AreTheReigns d kind plan sent

-- a log that has a fault does not pass
abbrev pub WhatHasAFaultDoesNotPass : Type 0
WhatHasAFaultDoesNotPass =
    (form : TextForm) (d : ℕ) (log : List (Option Message)) (fault : AuditFault) → 0 < d → IsFaultOf form d log fault
    → LogPasses form d log → ⊥

-- some plans of the log are lawful and dense, and make each slot safe for any number of receivers of dwell m: for those
-- at most k slots late, and for those with clocks of their own by which fewer than m slots are fewer than m + k of the
-- station
pub record IsSafeLog (form : TextForm) (m k : ℕ) (log : List (Option Message)) : Type 0 where
  pub plans : Plans
  pub lawful : AreLawfulAs (text_kind form) (m + k) plans log
  pub dense : AreDense (m + k) plans log
  pub safe : (t : ℕ) (receivers : List Listener) → All (ListensTo k m t log) receivers
      → AreSafeViews (m + k) m t plans log receivers
  pub own_clocks : (now : ℕ) (receivers : List Listener) → All (ListensByOwnClock (m + k) m now log) receivers
      → AreSafeViews (m + k) m now plans log receivers

-- a log that passes with d = m + k is safe
abbrev pub WhatPassesIsSafe : Type 0
WhatPassesIsSafe =
    (form : TextForm) (m k : ℕ) (log : List (Option Message)) → 0 < m → LogPasses form (m + k) log
    → IsSafeLog form m k log

-- the same receiver, when the station's slots are counted from n slots before: its entries were sent n slots later, and
-- its own slots are the same
abbrev pub later : ℕ → Listener → Listener
later n r = record {
  input = record {
    first = r.input.first;
    heard = r.input.heard;
    origins = map (option_map (λ (s : ℕ). s + n)) r.input.origins;
  };
  view = r.view;
}

-- some plans are lawful and dense for the log with m + k slots in front and without the tags before its first text
-- segment. They make each slot safe for any number of receivers of dwell m of the log as it is, with all its tags. The
-- slots of the plans count from m + k slots before the log.
pub record IsSafeRecording (form : TextForm) (m k : ℕ) (log : List (Option Message)) : Type 0 where
  pub plans : Plans
  pub lawful : AreLawfulAs (text_kind form) (m + k) plans (from_first_text (preceded (m + k) log))
  pub dense : AreDense (m + k) plans (from_first_text (preceded (m + k) log))
  pub safe : (t : ℕ) (receivers : List Listener) → All (ListensTo k m t log) receivers
      → AreSafeViews (m + k) m (t + (m + k)) plans (preceded (m + k) log) (map (later (m + k)) receivers)
  pub own_clocks : (now : ℕ) (receivers : List Listener) → All (ListensByOwnClock (m + k) m now log) receivers
      → AreSafeViews (m + k) m (now + (m + k)) plans (preceded (m + k) log) (map (later (m + k)) receivers)

-- plans that are lawful for the log with n slots in front and without the tags before its first text segment make each
-- slot safe for any number of receivers of the log as it is, with clocks of their own
abbrev pub PlansOfARecordingAreSafe : Type 0
PlansOfARecordingAreSafe =
    (form : TextForm) (d m now n : ℕ) (plans : Plans) (log : List (Option Message)) (receivers : List Listener)
    → AreLawfulAs (text_kind form) d plans (from_first_text (preceded n log))
    → All (ListensByOwnClock d m now log) receivers
    → AreSafeViews d m (now + n) plans (preceded n log) (map (later n) receivers)

-- a log that passes as a recording with d = m + k is a safe recording
abbrev pub WhatPassesAsARecordingIsSafe : Type 0
WhatPassesAsARecordingIsSafe =
    (form : TextForm) (m k : ℕ) (log : List (Option Message)) → 0 < m
    → LogPasses form (m + k) (from_first_text (preceded (m + k) log)) → IsSafeRecording form m k log
