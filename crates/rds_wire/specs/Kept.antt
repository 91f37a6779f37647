-- What `decode --keep n` displays, in the words of the headline, from bytes to bytes. Its display keeps a text with its
-- tags, or a name, for n slots after the receiver drops it. What it displays, `decode` without `--keep` displayed at most
-- n slots before. So it may be old, but no mix, and both headlines hold for it with n slots more.
--
-- It does not say that two receivers display neighbours: one may keep an old text while the other displays the newest.
use Rattle.std.specs.Prelude.{◌≡◌, ◌≢◌, ◌⊎◌, ◌<◌, ◌≤◌, ◌+◌, ◌^◌, ℕ, List, codes, length}
use Rattle.rds_fields.specs.declared.head.Head.{Head}
use Rattle.rds_log.specs.Audit.{WholePasses, spacing}
use Rattle.rds_log.specs.LogWrites.{LogWrites, plain}
use Rattle.rds_log.specs.declared.audit_log.Auditing.{Auditing}
use Rattle.rds_log.specs.declared.decode_log.Decoding.{Decoding}
use Rattle.rds_script.specs.Play.{ScriptWrites, with_form}
use Rattle.rds_script.specs.declared.form.Form.TheVariants.{Log}
use Rattle.rds_wire.specs.Headline.{Displays, Reaches, WasOnAir, WentWith, in_quotes, slots}
use Rattle.rds_wire.specs.NothingNew.{decoding}
use Rattle.rds_wire.specs.Wire.{IsHead, station_of}

-- the same with `--keep n`; 0 keeps nothing
abbrev pub keeping : ℕ → Decoding → Decoding
keeping n how = record how { keep = n }

-- what the output displays in slot t, the plain one displayed then, or at most n slots before. Beside each tag is a text,
-- and both were displayed together
pub record WasDisplayed (n t : ℕ) (output unkept : List ℕ) : Type 0 where
  pub values : (word shown : List ℕ) → (word ≡ codes "text") ⊎ (word ≡ codes "name")
      → Displays output t word (in_quotes shown)
      → (u : ℕ) × (u ≤ t) × (t ≤ u + n) × Displays unkept u word (in_quotes shown)
  pub tags : (word content : List ℕ) → (word ≡ codes "tag1") ⊎ (word ≡ codes "tag2")
      → Displays output t word content → content ≢ codes " none"
      → (text : List ℕ) × (u : ℕ) × (u ≤ t) × (t ≤ u + n) × Displays output t (codes "text") (in_quotes text)
      × Displays unkept u (codes "text") (in_quotes text) × Displays unkept u word content

-- of one log, what `decode` displays with `--keep n` was displayed without it
abbrev pub WhatIsKeptWasDisplayed : Type 0
WhatIsKeptWasDisplayed =
    (how : Decoding) (received output unkept : List ℕ) → length (slots received) < 2 ^ 64
    → LogWrites how received output → LogWrites (keeping 0 how) received unkept
    → (t : ℕ) → t < length (slots received) → WasDisplayed how.keep t output unkept

-- what a display shows in slot t was on air in one of the last d + n slots. Beside each tag is a text, and the tag went
-- with it
pub record IsRecent (d n t : ℕ) (script output : List ℕ) : Type 0 where
  pub values : (word shown : List ℕ) → (word ≡ codes "text") ⊎ (word ≡ codes "name")
      → Displays output t word (in_quotes shown) → (i : ℕ) × WasOnAir word d (d + n) t script shown i
  pub tags : (word content : List ℕ) → (word ≡ codes "tag1") ⊎ (word ≡ codes "tag2")
      → Displays output t word content → content ≢ codes " none"
      → (text : List ℕ) × (k : ℕ) × Displays output t (codes "text") (in_quotes text)
      × WasOnAir (codes "text") d (d + n) t script text k × WentWith word d t script text content k

-- the headline with `--keep n`, for d = M + K
abbrev pub WhatIsKeptWasOnAir : Type 0
WhatIsKeptWasOnAir =
    (head : Head) (m k n : ℕ) (script log : List ℕ) → IsHead head → 0 < m
    → ScriptWrites (with_form (Log 11) (station_of head m k)) script log
    → (received output : List ℕ) → Reaches head.pi k log received
    → LogWrites (keeping n (plain head.pi m)) received output
    → (t : ℕ) → t < length (slots received) → IsRecent (m + k) n t script output

-- the headline of audits with `--keep n`
abbrev pub NothingNewIsKept : Type 0
NothingNewIsKept =
    (a : Auditing) (n count : ℕ) (log : List ℕ) → 0 < a.dwell → count < 2 ^ 64 → WholePasses a count log
    → (received output whole : List ℕ) → Reaches a.pi a.late log received
    → LogWrites (keeping n (decoding a a.dwell)) received output → LogWrites (decoding a (spacing a)) log whole
    → (word shown : List ℕ) (t : ℕ) → (word ≡ codes "text") ⊎ (word ≡ codes "name") → t < length (slots received)
    → Displays output t word (in_quotes shown)
    → (u : ℕ) × (u ≤ t) × (t < u + (spacing a + n)) × Displays whole u word (in_quotes shown)
