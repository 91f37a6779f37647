-- The reigns of a log (this project's own rule): what a log shows of the broadcasts of a service. A fragment joins the
-- current reign if it has its flag and comes less than d slots after its last slot. Each other fragment opens a reign.
-- Tags lengthen the current reign. Lists have the newest first.
use Rattle.std.specs.Prelude.{◌≢◌, ◌+◌, ◌&&◌, ℕ, Bool, List, [], ◌∷◌, length, nat_lt, max, if◌then◌else◌}
use Rattle.rds_fields.specs.Tag.{PairFields}
use Rattle.rds_receiver.specs.declared.fragment.Fragment.{Fragment}
use Rattle.rds_receiver.specs.Run.{is_same}
use Rattle.rds_safety.specs.Marks.{Mark, Nothing, Sends, Tagged}

-- tags, with the slot in which they were sent
pub record SentTags : Type 0 where
  pub slot : ℕ
  pub pair : PairFields

-- a reign: the first slot in which its broadcast can have started, the slot of its first fragment, the last slot of its
-- fragments and tags, its flag, its fragments and its tags
pub record Reign : Type 0 where
  pub start : ℕ
  pub opened : ℕ
  pub last : ℕ
  pub flag : Bool
  pub fragments : List Fragment
  pub tags : List SentTags

-- a fragment with this flag joins the reign
abbrev pub joins : ℕ → ℕ → Bool → Reign → Bool
joins d slot flag r = is_same r.flag flag && nat_lt slot (r.last + d)

-- d slots after the last slot of the newest of these reigns; 0 without a reign
abbrev pub past_newest : ℕ → List Reign → ℕ
past_newest d [] = 0
past_newest d (r ∷ older) = r.last + d

-- the first slot in which a broadcast with this flag can start after these reigns: d slots after the newest one if that
-- has the same flag; otherwise after the newest one, and d slots after the one before it
abbrev pub start_after : ℕ → Bool → List Reign → ℕ
start_after d flag [] = 0
start_after d flag (r ∷ older) = if is_same r.flag flag then r.last + d else max (r.last + 1) (past_newest d older)

-- the reign that a fragment opens, whose broadcast can have started in the slot `start`
abbrev pub opened_from : ℕ → ℕ → Fragment → Reign
opened_from start slot p =
    record { start = start; opened = slot; last = slot; flag = p.flag; fragments = p ∷ []; tags = [] }

-- the reign that the fragment opens after these
abbrev pub opened_by : ℕ → ℕ → Fragment → List Reign → Reign
opened_by d slot p older = opened_from (start_after d p.flag older) slot p

-- the reign with one more fragment
abbrev pub with_fragment : ℕ → Fragment → Reign → Reign
with_fragment slot p r = record {
  start = r.start;
  opened = r.opened;
  last = slot;
  flag = r.flag;
  fragments = p ∷ r.fragments;
  tags = r.tags;
}

-- the reign with one more pair of tags
abbrev pub with_tags : ℕ → PairFields → Reign → Reign
with_tags slot pair r = record {
  start = r.start;
  opened = r.opened;
  last = slot;
  flag = r.flag;
  fragments = r.fragments;
  tags = record { slot = slot; pair = pair } ∷ r.tags;
}

-- these reigns after one more fragment
abbrev pub after_fragment : ℕ → ℕ → Fragment → List Reign → List Reign
after_fragment d slot p [] = opened_by d slot p [] ∷ []
after_fragment d slot p (r ∷ older) =
    if joins d slot p.flag r then with_fragment slot p r ∷ older else opened_by d slot p (r ∷ older) ∷ r ∷ older

-- these reigns after one more pair of tags
abbrev pub after_tags : ℕ → PairFields → List Reign → List Reign
after_tags slot pair [] = []
after_tags slot pair (r ∷ older) = with_tags slot pair r ∷ older

-- these reigns after one more mark
abbrev pub after_mark : ℕ → ℕ → Mark → List Reign → List Reign
after_mark d slot Nothing rs = rs
after_mark d slot (Sends p) rs = after_fragment d slot p rs
after_mark d slot (Tagged pair) rs = after_tags slot pair rs

-- the reigns of the marks of a service
abbrev pub reigns : ℕ → List Mark → List Reign
reigns d [] = []
reigns d (mark ∷ before) = after_mark d (length before) mark (reigns d before)

-- ---- the flags of reigns

-- this holds of each reign and the next one
abbrev pub IsOfEachTwo : (Reign → Reign → Type 0) → List Reign → Type 0
IsOfEachTwo IsSo [] = Unit {0}
IsOfEachTwo IsSo (r ∷ []) = Unit {0}
IsOfEachTwo IsSo (next ∷ r ∷ older) = IsSo r next × IsOfEachTwo IsSo (r ∷ older)

-- the flag turns from each reign to the next one
abbrev pub AlternateFlags : List Reign → Type 0
AlternateFlags rs = IsOfEachTwo (λ r next. r.flag ≢ next.flag) rs
