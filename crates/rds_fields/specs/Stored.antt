-- Tags stored as plain numbers (this project's own form).
use Rattle.std.specs.Prelude.{ℕ, Bool, ◌==◌, IsTrue, Option, Some, None, if◌then◌else◌}
use mathlib.Core.Bool.{not}
use Rattle.rds_fields.specs.Tag.{IsPair, PairFields, TagFields}
use Rattle.rds_fields.specs.declared.stored.StoredTag.{StoredTag}
use Rattle.rds_fields.specs.declared.stored.StoredPair.{StoredPair}

-- whether a stored bit is set: 0 means no, any other number yes
abbrev pub is_set : ℕ → Bool
is_set n = not (n == 0)

abbrev pub tag_stored : StoredTag → TagFields
tag_stored t = record { class = t.class; start = t.start; extra = t.extra }

abbrev pub fields_stored : StoredPair → PairFields
fields_stored p = record {
  toggle = is_set p.toggle;
  running = is_set p.running;
  one = tag_stored p.one;
  two = tag_stored p.two;
}

-- the stored pair, if there is one
abbrev pub pair_stored : StoredPair → Option PairFields
pair_stored p = if is_set p.is_there then Some (fields_stored p) else None

-- if a pair is stored, its numbers are valid
abbrev pub IsStoredPair : StoredPair → Type 0
IsStoredPair p = IsTrue (is_set p.is_there) → IsPair (fields_stored p)
