-- Worked examples of the definitions, calculated by hand. Lists have the newest first. Each name gives the slots that
-- it covers.
use Rattle.std.proofs.Common.{◌≡◌, ℕ, Bool, true, false, List, [], ◌∷◌, Option, Some, None, refl}
use Rattle.std.specs.FinMap.{empty, insert}
use Rattle.rds_fields.specs.declared.message.Message.{Message}
use Rattle.rds_fields.specs.declared.message.Message.TheVariants.{Text, Name, Announce, Tags}
use Rattle.rds_fields.specs.declared.pair.Which.TheVariants.{One}
use Rattle.rds_fields.specs.Tag.{PairFields}
use Rattle.rds_receiver.specs.NotShown.{whys_of}
use Rattle.rds_receiver.specs.Receipts.{Segment, Tuning, name_fragment, text_fragment}
use Rattle.rds_receiver.specs.Run.{begins_in, cells_of, run_at}
use Rattle.rds_receiver.specs.Tags.{is_known, item_of, pair_held, tag_of}
use Rattle.rds_receiver.specs.Confirmed.{confirmed}
use Rattle.rds_receiver.specs.Kept.{Moment, kept}
use Rattle.rds_receiver.specs.declared.why.WhyNone.TheVariants.{Dropped, Incomplete}

abbrev Heard : Type 0
Heard = List (Option Message)

abbrev segment : ℕ → Bool → ℕ → List ℕ → Segment
segment slot flag address bytes = record {
  slot = slot;
  fragment = record
      { flag = flag; address = address; bytes = bytes };
}

abbrev hi : List ℕ
hi = 72 ∷ 73 ∷ 13 ∷ 32 ∷ []

-- class 1 from character 0 on, two characters, of a running item; and the dummy
abbrev title : PairFields
title = record {
  toggle = false;
  running = true;
  one = record { class = 1; start = 0; extra = 1 };
  two = record { class = 0; start = 0; extra = 0 };
}

-- the segment is held at the end of slots 0 to 3, and not at the end of slot 4
one_held : run_at text_fragment 4 0 (None ∷ None ∷ None ∷ Some (Text false 0 hi) ∷ []) ≡ segment 0 false 0 hi ∷ []
one_held = refl

one_over : run_at text_fragment 4 0 (None ∷ None ∷ None ∷ None ∷ Some (Text false 0 hi) ∷ []) ≡ []
one_over = refl

-- silence, dwell and age: the only segment comes in slot 4 and is held up to slot 7
held_to_7 : run_at text_fragment 4 0 (None ∷ None ∷ None ∷ Some (Text false 0 hi) ∷ None ∷ None ∷ None ∷ None ∷ [])
    ≡ segment 4 false 0 hi ∷ []
held_to_7 = refl

over_in_8 : run_at text_fragment 4 0 (None ∷ None ∷ None ∷ None ∷ Some (Text false 0 hi) ∷ None ∷ None ∷ None ∷ None
    ∷ []) ≡ []
over_in_8 = refl

-- a segment that comes in slot 4 is alone in its run
second_too_late : run_at text_fragment 4 0 (Some (Text false 1 hi) ∷ None ∷ None ∷ None ∷ Some (Text false 0 hi) ∷ [])
    ≡ segment 4 false 1 hi ∷ []
second_too_late = refl

-- two segments of the first song in slots 6 and 8, and the third song in slots 20, 22 and 24
abbrev skipped : Heard
skipped =
    Some (Text false 2 (78 ∷ 71 ∷ 13 ∷ 32 ∷ [])) ∷ None ∷ Some (Text false 1 (68 ∷ 32 ∷ 83 ∷ 79 ∷ [])) ∷ None
    ∷ Some (Text false 0 (84 ∷ 72 ∷ 73 ∷ 82 ∷ [])) ∷ None ∷ None ∷ None ∷ None ∷ None
    ∷ None ∷ None ∷ None ∷ None ∷ None ∷ None ∷ Some (Text false 2 (78 ∷ 71 ∷ 13 ∷ 32 ∷ [])) ∷ None
    ∷ Some (Text false 1 (84 ∷ 32 ∷ 83 ∷ 79 ∷ [])) ∷ None ∷ None ∷ None ∷ None ∷ None ∷ None ∷ []

skipped_run : run_at text_fragment 4 0 skipped
    ≡ segment 24 false 2 (78 ∷ 71 ∷ 13 ∷ 32 ∷ []) ∷ segment 22 false 1 (68 ∷ 32 ∷ 83 ∷ 79 ∷ []) ∷ segment 20 false 0
    (84 ∷ 72 ∷ 73 ∷ 82 ∷ []) ∷ []
skipped_run = refl

skipped_cells : cells_of (run_at text_fragment 4 0 skipped)
    ≡ insert (insert (insert empty 0 (84 ∷ 72 ∷ 73 ∷ 82 ∷ [])) 1 (68 ∷ 32 ∷ 83 ∷ 79 ∷ [])) 2 (78 ∷ 71 ∷ 13 ∷ 32 ∷ [])
skipped_cells = refl

-- an announcement of another application in groups 11A drops the pair
abbrev announced : Heard
announced = Some (Tags title) ∷ Some (Text false 0 hi) ∷ Some (Announce 22 0 0x4BD7) ∷ []

announced_item : item_of (Some (72 ∷ 73 ∷ [])) (pair_held 128 0 announced) ≡ Some (false, true)
announced_item = refl

announced_tag : tag_of One (Some (72 ∷ 73 ∷ [])) (pair_held 128 0 announced) ≡ Some (1, 72 ∷ 73 ∷ [])
announced_tag = refl

contrary_pair : pair_held 128 0 (Some (Announce 22 0 0xCD46) ∷ announced) ≡ None
contrary_pair = refl

-- the encoder that keeps none of the rules, up to slots 5, 6, 8, 9 and 12
abbrev foreign_5 : Heard
foreign_5 =
    Some (Tags title) ∷ Some (Announce 22 0 0x4BD7) ∷ Some (Tags title) ∷ Some (Text false 0 hi)
    ∷ Some (Text false 1 (13 ∷ 32 ∷ 32 ∷ 32 ∷ [])) ∷ Some (Text false 0 (65 ∷ 66 ∷ 66 ∷ 65 ∷ [])) ∷ []

abbrev foreign_6 : Heard
foreign_6 = Some (Text true 0 (89 ∷ 79 ∷ 13 ∷ 32 ∷ [])) ∷ foreign_5

abbrev foreign_8 : Heard
foreign_8 = Some (Tags title) ∷ Some (Text false 0 (13 ∷ 65 ∷ 32 ∷ 32 ∷ [])) ∷ foreign_6

abbrev foreign_9 : Heard
foreign_9 = Some (Announce 20 0 0x4BD7) ∷ foreign_8

abbrev foreign_12 : Heard
foreign_12 =
    Some (Name true 0 (74 ∷ 13 ∷ 90 ∷ 90 ∷ [])) ∷ Some (Name true 1 (32 ∷ 70 ∷ 77 ∷ 32 ∷ []))
    ∷ Some (Name false 0 (74 ∷ 13 ∷ 90 ∷ 90 ∷ [])) ∷ foreign_9

foreign_5_begins : begins_in (run_at text_fragment 4 0 foreign_5) ≡ Some 0
foreign_5_begins = refl

foreign_5_pair : pair_held 4 0 foreign_5 ≡ Some title
foreign_5_pair = refl

foreign_6_run : run_at text_fragment 4 0 foreign_6 ≡ segment 6 true 0 (89 ∷ 79 ∷ 13 ∷ 32 ∷ []) ∷ []
foreign_6_run = refl

foreign_6_pair : pair_held 4 0 foreign_6 ≡ None
foreign_6_pair = refl

foreign_8_item : item_of (Some []) (pair_held 4 0 foreign_8) ≡ Some (false, true)
foreign_8_item = refl

foreign_8_tag : tag_of One (Some []) (pair_held 4 0 foreign_8) ≡ None
foreign_8_tag = refl

foreign_9_pair : pair_held 4 0 foreign_9 ≡ None
foreign_9_pair = refl

foreign_9_known : is_known foreign_9 ≡ false
foreign_9_known = refl

foreign_12_text : run_at text_fragment 4 0 foreign_12 ≡ []
foreign_12_text = refl

foreign_12_name : run_at name_fragment 4 0 foreign_12 ≡ segment 12 true 0 (74 ∷ 13 ∷ 90 ∷ 90 ∷ [])
    ∷ segment 11 true 1 (32 ∷ 70 ∷ 77 ∷ 32 ∷ []) ∷ []
foreign_12_name = refl

-- heard twice: in a window of 4 slots the segment of slot 0 is confirmed in slot 3, not in slot 4
again_in_3 : confirmed 4 4 0 (Some (Text false 0 hi) ∷ None ∷ None ∷ Some (Text false 0 hi) ∷ [])
    ≡ Some (Text false 0 hi) ∷ None ∷ None ∷ None ∷ []
again_in_3 = refl

again_in_4 : confirmed 4 4 0 (Some (Text false 0 hi) ∷ None ∷ None ∷ None ∷ Some (Text false 0 hi) ∷ []) ≡ None ∷ None
    ∷ None ∷ None ∷ None ∷ []
again_in_4 = refl

-- other bytes at its address in slot 1 delay it to slot 3; another flag does too
abbrev ho : List ℕ
ho = 72 ∷ 79 ∷ 13 ∷ 32 ∷ []

delayed : confirmed 4 4 0 (Some (Text false 0 hi) ∷ Some (Text false 0 hi) ∷ Some (Text false 0 ho)
    ∷ Some (Text false 0 hi) ∷ []) ≡ Some (Text false 0 hi) ∷ None ∷ None ∷ None ∷ []
delayed = refl

delayed_by_flag : confirmed 4 4 0 (Some (Text false 0 hi) ∷ Some (Text true 0 hi) ∷ Some (Text false 0 hi) ∷ []) ≡ None
    ∷ None ∷ None ∷ []
delayed_by_flag = refl

-- other bytes at another address do not
not_delayed : confirmed 4 4 0 (Some (Text false 0 hi) ∷ Some (Text false 1 ho) ∷ Some (Text false 0 hi) ∷ [])
    ≡ Some (Text false 0 hi) ∷ None ∷ None ∷ []
not_delayed = refl

-- the run of texts begins in slot 1. Tags of slots 2 and 3 are confirmed in slot 3; those of slots 0 and 2 are not
tags_in_run : confirmed 4 4 0 (Some (Tags title) ∷ Some (Tags title) ∷ Some (Text false 0 hi) ∷ Some (Text false 0 hi)
    ∷ [])
    ≡ Some (Tags title) ∷ None ∷ Some (Text false 0 hi) ∷ None ∷ []
tags_in_run = refl

tags_before_run : confirmed 5 4 0 (Some (Tags title) ∷ Some (Text false 0 hi) ∷ Some (Tags title)
    ∷ Some (Text false 0 hi) ∷ [])
    ≡ None ∷ Some (Text false 0 hi) ∷ None ∷ None ∷ []
tags_before_run = refl

-- why nothing is shown: a text is incomplete from slot 1 on, and its only segment is over in slot 5
abbrev tuned : Tuning
tuned = record { programme = 0xC201; dwell = 4; window = None; first = 0 }

abbrev begun : Heard
begun = Some (Text true 0 (72 ∷ 69 ∷ 76 ∷ 76 ∷ [])) ∷ Some (Text false 0 hi) ∷ []

begun_1 : whys_of tuned begun ≡ record { text = Incomplete; name = Dropped }
begun_1 = refl

begun_4 : whys_of tuned (None ∷ None ∷ None ∷ begun) ≡ record { text = Incomplete; name = Dropped }
begun_4 = refl

dropped_5 : whys_of tuned (None ∷ None ∷ None ∷ None ∷ begun) ≡ record { text = Dropped; name = Dropped }
dropped_5 = refl

-- with a window of 3 slots a segment counts when it comes again
not_counted_1 : whys_of (record tuned { window = Some 3 }) begun ≡ record { text = Dropped; name = Dropped }
not_counted_1 = refl

-- a display that keeps for two slots: the text is shown in slot 0, and still in slots 1 and 2, but not in slot 3
abbrev shows_hi : Moment (List ℕ)
shows_hi = record { shown = Some hi; flag = Some false }

abbrev nothing_held : Moment (List ℕ)
nothing_held = record { shown = None; flag = None }

abbrev held_with : Bool → Moment (List ℕ)
held_with flag = record { shown = None; flag = Some flag }

kept_in_2 : kept 2 (nothing_held ∷ nothing_held ∷ shows_hi ∷ []) ≡ Some hi
kept_in_2 = refl

over_in_3 : kept 2 (nothing_held ∷ nothing_held ∷ nothing_held ∷ shows_hi ∷ []) ≡ None
over_in_3 = refl

-- segments with its flag do not end it; segments with the other flag do, also if its flag comes again
kept_with_its_flag : kept 8 (held_with false ∷ nothing_held ∷ shows_hi ∷ []) ≡ Some hi
kept_with_its_flag = refl

ended_by_the_other_flag : kept 8 (held_with false ∷ held_with true ∷ shows_hi ∷ []) ≡ None
ended_by_the_other_flag = refl

ended_after_a_loss : kept 8 (held_with true ∷ nothing_held ∷ shows_hi ∷ []) ≡ None
ended_after_a_loss = refl
