-- The headline of `audit` in one file, in the words of the headline. A receiver without a loss gets each slot of the log.
-- Of a log to which `audit` says yes, no other receiver ever displays a text or a name that it does not display lately. The
-- law `nothing_new_is_displayed` proves it, with `--running`, `--padded` and `--rtplus` or without. `a` has the settings of
-- `audit`: its M is `a.dwell`, and its K is `a.late`.
--
-- It does not say that the texts are right: what a station sends to everybody, everybody may display.
--
-- Two names come from other crates, where the calls promise them:
--   WholePasses   `audit` reads this log of n slots to its end, and says yes (rds_log `audit`)
--   LogWrites     `decode` reads this log to its end, and writes this output (rds_log `decode`)
use Rattle.std.specs.Prelude.{◌≡◌, ◌⊎◌, ◌<◌, ◌≤◌, ◌+◌, ◌^◌, ℕ, List, None, codes, false, length}
use Rattle.rds_log.specs.Audit.{WholePasses, spacing}
use Rattle.rds_log.specs.LogWrites.{LogWrites}
use Rattle.rds_log.specs.declared.audit_log.Auditing.{Auditing}
use Rattle.rds_log.specs.declared.decode_log.Decoding.{Decoding}
use Rattle.rds_wire.specs.Headline.{Displays, Reaches, in_quotes, slots}

-- `decode` with a dwell of m slots
abbrev pub decoding : Auditing → ℕ → Decoding
decoding a m = record { pi = a.pi; rtplus = a.rtplus; dwell = m; window = None; says_why = false; keep = 0 }

-- in one of the last M + K slots up to slot t, a receiver that gets each slot of the log and has a dwell of M + K slots
-- displays the same
abbrev pub NothingNew : Type 0
NothingNew =
    (a : Auditing) (n : ℕ) (log : List ℕ) → 0 < a.dwell → n < 2 ^ 64 → WholePasses a n log
    → (received output whole : List ℕ) → Reaches a.pi a.late log received
    → LogWrites (decoding a a.dwell) received output → LogWrites (decoding a (spacing a)) log whole
    → (word shown : List ℕ) (t : ℕ) → (word ≡ codes "text") ⊎ (word ≡ codes "name") → t < length (slots received)
    → Displays output t word (in_quotes shown)
    → (u : ℕ) × (u ≤ t) × (t < u + spacing a) × Displays whole u word (in_quotes shown)
