-- The view of a plain struct (this project's own).
use Rattle.std.specs.Prelude.{◌≡◌, ◌≢◌, ◌+◌, ◌-◌, ◌≤◌, ◌⊎◌, ℕ, Bool, List, Option, Some, None}
use Rattle.std.specs.Prelude.{if◌then◌else◌, length, take, drop, replicate}
use Rattle.std.specs.Borrow.{Bor}
use Rattle.rds_fields.specs.Stored.{is_set}
use Rattle.rds_fields.specs.Tag.{PairFields, TagFields, tag_in}
use Rattle.rds_fields.specs.declared.pair.Which.{Which}
use Rattle.rds_fields.specs.declared.pair.Which.TheVariants.{One, Two}
use Rattle.rds_receiver.specs.Shown.{ShownView}
use Rattle.rds_ffi.specs.declared.view.RdsrtText.{RdsrtText}
use Rattle.rds_ffi.specs.declared.view.RdsrtName.{RdsrtName}
use Rattle.rds_ffi.specs.declared.view.RdsrtItem.{RdsrtItem}
use Rattle.rds_ffi.specs.declared.view.RdsrtTag.{RdsrtTag}
use Rattle.rds_ffi.specs.declared.view.RdsrtView.{RdsrtView}

-- the first bytes, if they are shown
abbrev pub text_viewed : RdsrtText → Option (List ℕ)
text_viewed t = if is_set t.is_shown then Some (take t.length t.bytes) else None

-- the number of shown bytes: 0 if there are none
abbrev pub count_of : Option (Bor (List ℕ)) → ℕ
count_of None = 0
count_of (Some x) = length x.now

-- all eight bytes, if they are shown
abbrev pub name_viewed : RdsrtName → Option (List ℕ)
name_viewed n = if is_set n.is_shown then Some n.bytes else None

abbrev pub item_viewed : RdsrtItem → Option (Bool × Bool)
item_viewed i = if is_set i.is_shown then Some (is_set i.toggle, is_set i.running) else None

-- the content type, and the bytes of the text from the start on; content type 0 shows no tag
abbrev pub tag_viewed : RdsrtTag → Option (List ℕ) → Option (ℕ × List ℕ)
tag_viewed tag None = None
tag_viewed tag (Some x) =
    if is_set tag.content_type then Some (tag.content_type, take tag.length (drop tag.start x)) else None

abbrev pub viewed : RdsrtView → ShownView
viewed v = record {
  text = text_viewed v.text;
  name = name_viewed v.name;
  item = item_viewed v.item;
  one = tag_viewed v.one (text_viewed v.text);
  two = tag_viewed v.two (text_viewed v.text);
}

-- ---- what the header says of each struct, whatever bytes the receiver or encoder has

-- 0 or 1
abbrev pub IsFlag : ℕ → Type 0
IsFlag n = (n ≡ 0) ⊎ (n ≡ 1)

-- zeros follow the text, and a text that is not shown has no bytes
pub record IsPlainText (t : RdsrtText) : Type 0 where
  pub flag : IsFlag t.is_shown
  pub none : t.is_shown ≡ 0 → t.length ≡ 0
  pub within : t.length ≤ 64
  pub zeros : drop t.length t.bytes ≡ replicate (64 - t.length) 0

-- a name that is not shown is all zero
pub record IsPlainName (n : RdsrtName) : Type 0 where
  pub flag : IsFlag n.is_shown
  pub none : n.is_shown ≡ 0 → n.bytes ≡ replicate 8 0

-- item bits that are not shown are both 0
pub record IsPlainItem (i : RdsrtItem) : Type 0 where
  pub flag : IsFlag i.is_shown
  pub toggle : IsFlag i.toggle
  pub running : IsFlag i.running
  pub no_toggle : i.is_shown ≡ 0 → i.toggle ≡ 0
  pub no_running : i.is_shown ≡ 0 → i.running ≡ 0

abbrev pub no_tag : RdsrtTag
no_tag = record { content_type = 0; start = 0; length = 0 }

-- a tag ends in the text beside it; it is all zero if it is not shown, and if no text is shown
pub record IsPlainTag (text : RdsrtText) (tag : RdsrtTag) : Type 0 where
  pub within : tag.start + tag.length ≤ text.length
  pub none : tag.content_type ≡ 0 → tag ≡ no_tag
  pub no_text : text.is_shown ≡ 0 → tag ≡ no_tag

pub record IsPlainView (v : RdsrtView) : Type 0 where
  pub text : IsPlainText v.text
  pub name : IsPlainName v.name
  pub item : IsPlainItem v.item
  pub one : IsPlainTag v.text v.one
  pub two : IsPlainTag v.text v.two

-- ---- tags as they were received

-- the content type of a tag, its start, and the number of its characters
abbrev pub tag_plain : TagFields → RdsrtTag
tag_plain tag = record { content_type = tag.class; start = tag.start; length = tag.extra + 1 }

-- a tag that is shown is that of the pair
abbrev pub IsTagOf : Which → Option PairFields → RdsrtTag → Type 0
IsTagOf which pair tag =
    tag.content_type ≢ 0 → (p : PairFields) × (pair ≡ Some p) × (tag ≡ tag_plain (tag_in which p))

-- the tags that are shown are those of the pair
pub record ShowsTagsOf (pair : Option PairFields) (v : RdsrtView) : Type 0 where
  pub one : IsTagOf One pair v.one
  pub two : IsTagOf Two pair v.two
