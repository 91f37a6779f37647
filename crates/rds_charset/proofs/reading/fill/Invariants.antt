use Rattle.std.proofs.Common.{◌≡◌, ◌+◌, ◌≤◌, ℕ, List, length, take, drop, IsUtf8}
use Rattle.rds_charset.specs.ReadAs.{IsReadAs, IsReadUpTo}
use Rattle.rds_charset.proofs.reading.fill.Given as goal

abbrev pub invariant-loop-byte : goal.invariant-loop-byte
invariant-loop-byte l = record {
  is_text : IsUtf8 l.rest;
  read : IsReadUpTo l.text (take l.count l.into) l.rest;
  unread : (bytes : List ℕ) × IsReadAs l.rest bytes × (l.count + length bytes ≤ length l.into);
  kept : drop l.count l.into ≡ drop l.count l.initial.into;
}

abbrev pub decreases-loop-byte : goal.decreases-loop-byte
decreases-loop-byte l = length l.rest
