use Rattle.std.proofs.Common.{◌≡◌, ℕ, List, length, IsUtf8}
use Rattle.rds_charset.specs.ReadAs.{IsReadUpTo}
use Rattle.rds_charset.proofs.reading.count_symbols.Given as goal

abbrev pub invariant-loop-after : goal.invariant-loop-after
invariant-loop-after l = record {
  is_text : IsUtf8 l.rest;
  read : (bytes : List ℕ) × IsReadUpTo l.text bytes l.rest × (length bytes ≡ l.count);
}

abbrev pub decreases-loop-after : goal.decreases-loop-after
decreases-loop-after l = length l.rest
