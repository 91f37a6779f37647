-- Worked examples of the definitions, calculated by hand. Lists have the newest first.
use Rattle.std.proofs.Common.{◌≡◌, ℕ, Bool, true, false, List, [], ◌∷◌, ◌++◌, Option, Some, None, Ok, Err, refl}
use Rattle.std.proofs.Common.{replicate}
use Rattle.rds_fields.specs.declared.message.Message.{Message}
use Rattle.rds_fields.specs.declared.message.Message.TheVariants.{Text, Name, Tags}
use Rattle.rds_fields.specs.declared.pair.Which.TheVariants.{One}
use Rattle.rds_fields.specs.RadioTextPlus.{announcement}
use Rattle.rds_fields.specs.Tag.{PairFields, TagFields}
use Rattle.rds_encoder.specs.declared.reply.Refusal.TheVariants.{Silent, Held, NoText, OutOfText}
use Rattle.rds_encoder.specs.Entries.{Entry, Restart, SetText, SetName, SetTags, Tick, name_moves, text_moves}
use Rattle.rds_encoder.specs.Plan.{on_air, plan_of}
use Rattle.rds_encoder.specs.Reply.{reply_to}
use Rattle.rds_encoder.specs.Sent.{sent_in, sent_log}
use Rattle.rds_encoder.specs.Tags.{pair_on_air, tags_reply}

abbrev free_slots : ℕ → List Entry
free_slots n = replicate n (Tick true)

abbrev other_slots : ℕ → List Entry
other_slots n = replicate n (Tick false)

abbrev nothing : ℕ → List (Option Message)
nothing n = replicate n None

abbrev hi : List ℕ
hi = 0x48 ∷ 0x49 ∷ []

abbrev yo : List ℕ
yo = 0x59 ∷ 0x4F ∷ []

abbrev hi_segment : Bool → Option Message
hi_segment flag = Some (Text flag 0 (0x48 ∷ 0x49 ∷ 0x0D ∷ 0x20 ∷ []))

abbrev yo_segment : Bool → Option Message
yo_segment flag = Some (Text flag 0 (0x59 ∷ 0x4F ∷ 0x0D ∷ 0x20 ∷ []))

abbrev tag : ℕ → ℕ → ℕ → TagFields
tag class start extra = record { class = class; start = start; extra = extra }

abbrev pair : Bool → TagFields → TagFields → PairFields
pair toggle one two = record { toggle = toggle; running = true; one = one; two = two }

-- silence, dwell and age: with a spacing of 4, a text set in slots 0 and 3 is refused as silent, and accepted in slot 4
silent_in_0 : reply_to 4 [] ≡ Err (Silent 4)
silent_in_0 = refl

abbrev refused_in_0 : List Entry
refused_in_0 = free_slots 3 ++ SetText hi ∷ []

silent_in_3 : reply_to 4 (text_moves refused_in_0) ≡ Err (Silent 1)
silent_in_3 = refl

abbrev refused_in_3 : List Entry
refused_in_3 = Tick true ∷ SetText hi ∷ refused_in_0

done_in_4 : reply_to 4 (text_moves refused_in_3) ≡ Ok tt
done_in_4 = refl

abbrev accepted_in_4 : List Entry
accepted_in_4 = other_slots 4 ++ Tick true ∷ SetText hi ∷ refused_in_3

sent_to_8 : sent_log 4 accepted_in_4 ≡ nothing 4 ++ hi_segment false ∷ nothing 4
sent_to_8 = refl

planned_to_8 : plan_of 4 8 (text_moves accepted_in_4) ≡ record { start = 4; end = 8; flag = false; bytes = hi } ∷ []
planned_to_8 = refl

-- held for twice the spacing of 4: a text accepted in slot 4 holds the next one back up to slot 11
abbrev reaches_11 : List Entry
reaches_11 = other_slots 7 ++ SetText hi ∷ other_slots 4

held_back_in_11 : reply_to 4 (text_moves reaches_11) ≡ Err (Held 1)
held_back_in_11 = refl

abbrev reaches_12 : List Entry
reaches_12 = Tick false ∷ SetText yo ∷ reaches_11

done_in_12 : reply_to 4 (text_moves reaches_12) ≡ Ok tt
done_in_12 = refl

sent_in_12 : sent_log 4 (Tick true ∷ SetText yo ∷ reaches_12) ≡ yo_segment true ∷ nothing 12
sent_in_12 = refl

no_text_in_4 : tags_reply 4 (pair true (tag 4 0 3) (tag 1 7 7)) (free_slots 4) ≡ Err NoText
no_text_in_4 = refl

-- a restart in slot 5 takes the text off air, is silent up to slot 8, and begins with flag 0 again
abbrev restarted : List Entry
restarted = free_slots 3 ++ Restart ∷ Tick true ∷ SetText hi ∷ free_slots 4

off_air : on_air 4 (text_moves restarted) ≡ None
off_air = refl

silent_in_8 : reply_to 4 (text_moves restarted) ≡ Err (Silent 1)
silent_in_8 = refl

abbrev restarted_to_9 : List Entry
restarted_to_9 = Tick true ∷ SetText yo ∷ Tick true ∷ SetText yo ∷ restarted

sent_to_9 : sent_log 4 restarted_to_9 ≡ yo_segment false ∷ nothing 4 ++ hi_segment false ∷ nothing 4
sent_to_9 = refl

planned_to_9 : plan_of 4 9 (text_moves restarted_to_9)
    ≡ record { start = 9; end = 9; flag = false; bytes = yo } ∷ record { start = 4; end = 4; flag = false; bytes = hi }
    ∷ []
planned_to_9 = refl

-- tags on air: artist and title of a text of 15 characters, accepted in slot 5 and sent in slot 11
abbrev waterloo : List ℕ
waterloo = 0x41 ∷ 0x42 ∷ 0x42 ∷ 0x41 ∷ 0x20 ∷ 0x2D ∷ 0x20 ∷ 0x57 ∷ 0x41 ∷ 0x54 ∷ 0x45 ∷ 0x52 ∷ 0x4C ∷ 0x4F ∷ 0x4F ∷ []

abbrev artist_and_title : PairFields
artist_and_title = pair true (tag 4 0 3) (tag 1 7 7)

tags_to_11 : sent_log 4 (free_slots 7 ++ SetTags artist_and_title ∷ Tick true ∷ SetText waterloo ∷ free_slots 4)
    ≡ Some (Tags artist_and_title) ∷ Some (Text false 3 (0x4C ∷ 0x4F ∷ 0x4F ∷ 0x0D ∷ [])) ∷ Some announcement
    ∷ Some (Text false 2 (0x41 ∷ 0x54 ∷ 0x45 ∷ 0x52 ∷ [])) ∷ None ∷ Some (Text false 1 (0x20 ∷ 0x2D ∷ 0x20 ∷ 0x57 ∷ []))
    ∷ None
    ∷ Some (Text false 0 (0x41 ∷ 0x42 ∷ 0x42 ∷ 0x41 ∷ [])) ∷ nothing 4
tags_to_11 = refl

-- the whole round, with a spacing of 1: text and name of slot 1, and the same text again in slot 3 with its tags
abbrev jazz : List ℕ
jazz = 0x4A ∷ 0x41 ∷ 0x5A ∷ 0x5A ∷ 0x20 ∷ 0x46 ∷ 0x4D ∷ 0x20 ∷ []

abbrev title : PairFields
title = pair false (tag 1 0 1) (tag 0 0 0)

abbrev to_slot_1 : List Entry
to_slot_1 = Tick true ∷ []

no_text_in_1 : tags_reply 1 title to_slot_1 ≡ Err NoText
no_text_in_1 = refl

abbrev to_slot_2 : List Entry
to_slot_2 = Tick true ∷ SetName jazz ∷ SetText hi ∷ to_slot_1

text_held_back_in_2 : reply_to 1 (text_moves to_slot_2) ≡ Err (Held 1)
text_held_back_in_2 = refl

name_held_back_in_2 : reply_to 1 (name_moves to_slot_2) ≡ Err (Held 1)
name_held_back_in_2 = refl

abbrev to_slot_3 : List Entry
to_slot_3 = SetTags title ∷ SetText hi ∷ Tick true ∷ to_slot_2

out_of_text_in_3 : tags_reply 1 (pair false (tag 1 0 2) (tag 0 0 0)) to_slot_3 ≡ Err (OutOfText One)
out_of_text_in_3 = refl

kept_in_3 : pair_on_air 1 to_slot_3 ≡ Some title
kept_in_3 = refl

whole_round : sent_log 1 (free_slots 6 ++ to_slot_3)
    ≡ Some (Tags title) ∷ hi_segment true ∷ Some announcement ∷ hi_segment true
    ∷ Some (Name false 1 (0x20 ∷ 0x46 ∷ 0x4D ∷ 0x20 ∷ [])) ∷ hi_segment true
    ∷ Some (Name false 0 (0x4A ∷ 0x41 ∷ 0x5A ∷ 0x5A ∷ [])) ∷ hi_segment false ∷ None ∷ []
whole_round = refl

-- the first tags after a text of slot 16 are sent in slot 39, with a spacing of 16
abbrev to_slot_39 : List Entry
to_slot_39 = free_slots 22 ++ SetTags title ∷ Tick true ∷ SetText hi ∷ free_slots 16

no_tags_in_31 : sent_in 16 true (free_slots 14 ++ SetTags title ∷ Tick true ∷ SetText hi ∷ free_slots 16) ≡ None
no_tags_in_31 = refl

tags_in_39 : sent_in 16 true to_slot_39 ≡ Some (Tags title)
tags_in_39 = refl
