-- A counted read or write either passes bytes and keeps the count of failures, or passes none and raises it by one.
-- Each counted read raises the count of reads.
-- This is the project's own rule. A count cannot rise above 2^64 - 1: if the failures are there, each call fails.
use Rattle.std.proofs.Common.{◌∙◌, add-one, ap, refl, suc, sym, zero}
use Rattle.std.specs.Prelude.{◌≡◌, ◌⊎◌, ◌<◌, ◌≤◌, ◌+◌, ◌^◌, ◌-◌}
use Rattle.std.specs.Prelude.{ℕ, List, take, length, Option, MatchOption, nat_lt, if◌then◌else◌}
use Rattle.std.specs.Io.KnownBytes.{Appends, Consumes, IsAtEnd, Keeps}
use Rattle.rds_io.specs.declared.told.Told.{Told}

-- the greatest count of reads and of failures
abbrev pub most_counted : ℕ
most_counted = 2 ^ 64 - 1

-- a count after one more; the greatest one stays
abbrev pub next_count : ℕ → ℕ
next_count n = if nat_lt n most_counted then n + 1 else n

-- a counter that stops at 2^64 - 1, n steps later
unfoldable pub count_after : ℕ → ℕ → ℕ
count_after before zero = before
count_after before (suc n) = next_count (count_after before n)

-- a call failed: the count of failures rose by one, or was at its greatest
abbrev pub Failed : ℕ → ℕ → Type 0
Failed before after = (after ≡ before + 1) ⊎ ((before ≡ most_counted) × (after ≡ before))

-- the effect of a call on a reader or a writer: the bytes that the reader had left, or that the writer had taken, and
-- the count of failures, each before and after the call
pub record Traffic : Type 0 where
  pub before : Option (List ℕ)
  pub after : Option (List ℕ)
  pub failures_before : ℕ
  pub failures_after : ℕ

abbrev pub traffic : {X : Type 0} → (X → Option (List ℕ)) → (X → ℕ) → X → X → Traffic
traffic bytes failures old new =
    record { before = bytes old; after = bytes new; failures_before = failures old; failures_after = failures new }

-- the call failed at its reader or writer
abbrev pub HasFailed : Traffic → Type 0
HasFailed t = Failed t.failures_before t.failures_after

-- the call did not fail: the count of failures is the same
abbrev pub IsCalm : Traffic → Type 0
IsCalm t = t.failures_after ≡ t.failures_before

-- one read: its bytes are at the front of the buffer, and it gave none only at the end or if the buffer is empty
abbrev pub ReadsOne : Traffic → Option ℕ → List ℕ → Type 0
ReadsOne t r buf = MatchOption r (HasFailed t × Keeps t.before t.after)
    (λ n. (t.failures_before < most_counted) × IsCalm t × (n ≤ length buf) × Consumes t.before t.after (take n buf)
    × (n ≡ 0 → 0 < length buf → IsAtEnd t.after))

-- one write: it took the first bytes of the buffer, at least one if the buffer has any
abbrev pub WritesOne : Traffic → Option ℕ → List ℕ → Type 0
WritesOne t r buf = MatchOption r (HasFailed t × Keeps t.before t.after)
    (λ n. (t.failures_before < most_counted) × IsCalm t × (n ≤ length buf) × (0 < length buf → 0 < n)
    × Appends t.before t.after (take n buf))

-- some first part of the bytes went out
abbrev pub AppendsPrefix : Option (List ℕ) → Option (List ℕ) → List ℕ → Type 0
AppendsPrefix old new bs = (n : ℕ) × Appends old new (take n bs)

-- nothing went out, and nothing failed
pub record PutsNothing (t : Traffic) : Type 0 where
  pub bytes : t.after ≡ t.before
  pub calm : IsCalm t

-- the reader or writer inside a `Told`
abbrev pub inner_of : {T : Type 0} → Told T → T
inner_of told = told.inner

-- how many of the counted reads and writes failed
abbrev pub failures_of : {T : Type 0} → Told T → ℕ
failures_of told = told.failures

-- how many counted reads there were
abbrev pub reads_of : {T : Type 0} → Told T → ℕ
reads_of told = told.reads

-- a count after none more
pub count_none : (before : ℕ) → before ≡ count_after before 0
unfolding count_after
count_none before = refl

pub count_next : (before n now after : ℕ) → now ≡ count_after before n → after ≡ next_count now
    → after ≡ count_after before (n + 1)
unfolding count_after
count_next before n now after had more = more ∙ ap next_count had ∙ sym (ap (count_after before) (add-one n))
