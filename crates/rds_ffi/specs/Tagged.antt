-- A pair of tags as plain numbers (this project's own).
use Rattle.std.specs.Prelude.{◌≡◌, ◌-◌, ◌<◌, ◌↔◌}
use Rattle.rds_fields.specs.Stored.{is_set}
use Rattle.rds_fields.specs.Tag.{IsTag, PairFields, TagFields}
use Rattle.rds_ffi.specs.declared.view.RdsrtTag.{RdsrtTag}
use Rattle.rds_ffi.specs.declared.tags.RdsrtTags.{RdsrtTags}

abbrev pub fields_of : RdsrtTag → TagFields
fields_of t = record { class = t.content_type; start = t.start; extra = t.length - 1 }

abbrev pub pair_of : RdsrtTags → PairFields
pair_of p = record {
  toggle = is_set p.toggle;
  running = is_set p.running;
  one = fields_of p.one;
  two = fields_of p.two;
}

-- the numbers are a tag, and only the dummy, with content type 0, names no bytes
pub record IsGiven (t : RdsrtTag) : Type 0 where
  pub tag : IsTag (fields_of t)
  pub dummy : (t.content_type ≡ 0) ↔ (t.length ≡ 0)

pub record AreGiven (p : RdsrtTags) : Type 0 where
  pub one : IsGiven p.one
  pub two : IsGiven p.two
  pub short : p.two.length < 33
