-- How a text of spans is read on.
use Rattle.std.proofs.Common.{◌≡◌, ◌≤◌, ◌+◌, ℕ, zero, suc, Bool, true, false, List, None, Some, add-one, arith, inl}
use Rattle.std.proofs.Common.{inr, slice_index}
use Rattle.std.proofs.lemmas.Bool.{cases_lt}
use Rattle.rds_witness.specs.Spans.{ReadsOn, SpanReading, read, read-more, reading_of, with_byte}
use Rattle.rds_witness.specs.declared.spans.SpanReader.{SpanReader}

-- a text that does not fit so far does not fit
pub none_on : (text : List ℕ) (n k : ℕ) → n ≤ k → read text n ≡ None → read text k ≡ None
none_on text n zero less none = grind (arith)
none_on text n (suc k) less none = elim (cases_lt k n) [
  | inl here ↦ (let same : n ≡ suc k = omega arith in rw same at none)
  | inr before ↦ rw (← add-one k, read-more text k, none_on text n k before none)
]

-- one more byte
pub read_good : (text : List ℕ) (n : ℕ) (r : SpanReading) (next : SpanReader) (good : Bool) → read text n ≡ Some r
    → ReadsOn (with_byte (slice_index text n) r) good next → good ≡ true → read text (n + 1) ≡ Some (reading_of next)
read_good text n r next true was is good = rw (read-more text n, was) is
read_good text n r next false was is good = cc

-- a text with a byte that does not go on is no list of spans
pub read_bad : (text : List ℕ) (n : ℕ) (r : SpanReading) (next : SpanReader) (good : Bool) → read text n ≡ Some r
    → ReadsOn (with_byte (slice_index text n) r) good next → good ≡ false → read text (n + 1) ≡ None
read_bad text n r next false was is bad = rw (read-more text n, was) is
read_bad text n r next true was is bad = cc
