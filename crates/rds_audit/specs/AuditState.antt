-- The state of a service that is audited, and how it changes. Lists have the newest first.
use Rattle.std.specs.Prelude.{◌+◌, ◌-◌, ◌^◌, ◌&&◌, ◌||◌, ℕ, Bool, true, false}
use Rattle.std.specs.Prelude.{max, min, nat_le, nat_lt, not, if◌then◌else◌}
use Rattle.rds_fields.specs.Tag.{PairFields}
use Rattle.rds_receiver.specs.declared.fragment.Fragment.{Fragment}
use Rattle.rds_receiver.specs.Run.{is_same}
use Rattle.rds_audit.specs.declared.audited.Measured.{Measured}
use Rattle.rds_audit.specs.declared.fault_set.FaultSet.{FaultSet}
use Rattle.rds_audit.specs.declared.log_start.LogStart.{LogStart}
use Rattle.rds_audit.specs.declared.log_start.LogStart.TheVariants.{Complete, Running}
use Rattle.rds_audit.specs.declared.text_form.TextForm.{TextForm}
use Rattle.rds_audit.specs.declared.text_form.TextForm.TheVariants.{Plain, Padded}
use Rattle.rds_audit.specs.Ages.{Ages, aged, restarted}
use Rattle.rds_audit.specs.ReignsState.{ReignsState, joined_state, measured_in, no_content, tagged_state}
use Rattle.rds_audit.specs.Lengths.{Gauge, is_past, pair_end}
use Rattle.rds_audit.specs.Listing.{none_broken}

-- a service: the number of spans, which stops at 2 ^ 64 - 1; the ages of the spans and the content of the current one;
-- and the rules that it breaks
pub record SpansState : Type 0 where
  pub count : ℕ
  pub reigns : ReignsState
  pub broken : FaultSet

-- ---- how the state of a service changes

-- the rules that a span breaks, of these lengths and with tags that end there: it also breaks that of tags, if they end
-- past each of its lengths
abbrev pub judged_ends : ℕ → ℕ → FaultSet → FaultSet
judged_ends l end f = record f { tag_outside = f.tag_outside || is_past l end }

-- the same after a fragment that leaves this
abbrev pub judged_fragment : Measured → ℕ → FaultSet → FaultSet
judged_fragment m end f = judged_ends m.lengths end record f { not_one_text = f.not_one_text || not m.fits }

-- a fragment joined the current span
abbrev pub put_in : Gauge → Fragment → SpansState → SpansState
put_in g p s = record {
  count = s.count;
  reigns =
      joined_state (measured_in g p.address p.bytes s.reigns.content).lengths p.address p.bytes s.reigns;
  broken = judged_fragment (measured_in g p.address p.bytes s.reigns.content) s.reigns.content.tags_end s.broken;
}

-- a fragment joined the current span, which had its bytes already
abbrev pub repeated_in : SpansState → SpansState
repeated_in s = record {
  count = s.count;
  reigns = record { ages = record s.reigns.ages { since_last = 0 }; content = s.reigns.content };
  broken = s.broken;
}

-- a span with this flag counts as turned
abbrev pub is_turned : Bool → Bool → Ages → Bool
is_turned is_changed flag a = is_changed || not (is_same flag a.flag)

-- and it comes too early
abbrev pub comes_early : ℕ → Bool → Bool → Ages → Bool
comes_early d is_changed flag a = is_turned is_changed flag a && nat_lt a.since_before d

-- how many slots ago it started
abbrev pub began_before : ℕ → Bool → Bool → Ages → ℕ
began_before d is_changed flag a =
    if is_turned is_changed flag a
    then (if nat_lt a.since_before d then a.since_last - 1 else min (a.since_last - 1) (a.since_before - d))
    else a.since_last - d

-- a span was opened, before its first fragment is put in
abbrev pub opened_in : ℕ → ℕ → Bool → Bool → SpansState → SpansState
opened_in d lengths is_changed flag s = record {
  count = min (s.count + 1) (2 ^ 64 - 1);
  reigns = record {
    ages = restarted (began_before d is_changed flag s.reigns.ages) flag s.reigns.ages;
    content = no_content lengths;
  };
  broken = record none_broken {
    changed = is_changed;
    early_flag = comes_early d is_changed flag s.reigns.ages;
  };
}

-- tags of a span came early
abbrev pub are_early : ℕ → Ages → Bool
are_early d a = not (nat_le d a.since_start)

-- tags were sent; before the first span they break the rule of early tags, and nothing else changes
abbrev pub tagged_in : ℕ → PairFields → SpansState → SpansState
tagged_in d pair s =
    if s.reigns.ages.is_open
    then record {
      count = s.count;
      reigns = tagged_state pair s.reigns;
      broken =
          judged_ends s.reigns.content.lengths (max s.reigns.content.tags_end (pair_end pair))
          record s.broken { early_tag = s.broken.early_tag || are_early d s.reigns.ages };
    }
    else record {
      count = s.count;
      reigns = s.reigns;
      broken = record s.broken { early_tag = true };
    }

-- one slot later
abbrev pub aged_in : ℕ → SpansState → SpansState
aged_in d s = record {
  count = s.count;
  reigns = record { ages = aged d s.reigns.ages; content = s.reigns.content };
  broken = s.broken;
}

-- ---- bits of an audit

-- where a log begins: this bit says whether its station was on air before
abbrev pub start_if : Bool → LogStart
start_if false = Complete
start_if true = Running

-- the form of texts: this bit says whether they may have padding
abbrev pub form_if : Bool → TextForm
form_if false = Plain
form_if true = Padded
