-- Worked examples of the definitions of safety, calculated by hand. Lists have the newest first.
use Rattle.std.proofs.Common.{◌≡◌, ◌+◌, ◌<◌, ◌≤◌, ℕ, true, false, List, [], ◌∷◌, ◌++◌, take, drop, Option, Some, None}
use Rattle.std.proofs.Common.{refl, inl, inr, arith, length, replicate, Bool}
use Rattle.rds_fields.specs.declared.message.Message.{Message}
use Rattle.rds_fields.specs.declared.message.Message.TheVariants.{Text}
use Rattle.rds_encoder.specs.Entries.{Entry, SetText, Tick, text_moves}
use Rattle.rds_encoder.specs.Plan.{Broadcast, Covers, HasNumber, plan_of}
use Rattle.rds_encoder.specs.Sent.{sent_log}
use Rattle.rds_receiver.specs.Receipts.{Segment, text_fragment}
use Rattle.rds_safety.specs.FlagAlone.{IsNews, run_by_flag}
use Rattle.rds_safety.specs.Late.{CameFrom, HasEntry, Input, IsHeardLate, IsHeardOnTime}
use Rattle.rds_safety.specs.Kept.{HasTextOf, ListensFrom, WasOnAir, WasSafe, displayed_by}
use Rattle.rds_safety.specs.Plans.{Plans}
use Rattle.rds_safety.specs.Safe.{Listener, NamesPiece, RunWasOnAir}
use Rattle.rds_safety.specs.Source.{IsSource, text_run}
use Rattle.rds_safety.proofs.Entries.{before_end, nothing_heard, one_more}

abbrev free_slots : ℕ → List Entry
free_slots n = replicate n (Tick true)

abbrev nothing : ℕ → List (Option Message)
nothing n = replicate n None

abbrev lost : ℕ → List (Option ℕ)
lost n = replicate n None

-- two skipped flags: at a dwell of 4 with every slot free, `FIRST SONG` is set in slot 4, `OTHER SONG` in slot
-- 12 and `THIRD SONG` in slot 20, with the flag of the first again
abbrev first_song : List ℕ
first_song = 0x46 ∷ 0x49 ∷ 0x52 ∷ 0x53 ∷ 0x54 ∷ 0x20 ∷ 0x53 ∷ 0x4F ∷ 0x4E ∷ 0x47 ∷ []

abbrev other_song : List ℕ
other_song = 0x4F ∷ 0x54 ∷ 0x48 ∷ 0x45 ∷ 0x52 ∷ 0x20 ∷ 0x53 ∷ 0x4F ∷ 0x4E ∷ 0x47 ∷ []

abbrev third_song : List ℕ
third_song = 0x54 ∷ 0x48 ∷ 0x49 ∷ 0x52 ∷ 0x44 ∷ 0x20 ∷ 0x53 ∷ 0x4F ∷ 0x4E ∷ 0x47 ∷ []

-- until the end of slot 20
abbrev three_songs : List Entry
three_songs = Tick true ∷ SetText third_song ∷ free_slots 8 ++ SetText other_song ∷ free_slots 8 ++ SetText first_song
    ∷ free_slots 4

abbrev first_broadcast : Broadcast
first_broadcast = record { start = 4; end = 11; flag = false; bytes = first_song }

abbrev other_broadcast : Broadcast
other_broadcast = record { start = 12; end = 19; flag = true; bytes = other_song }

abbrev third_broadcast : ℕ → Broadcast
third_broadcast end = record { start = 20; end = end; flag = false; bytes = third_song }

abbrev songs : ℕ → List Broadcast
songs end = third_broadcast end ∷ other_broadcast ∷ first_broadcast ∷ []

songs_planned : plan_of 4 20 (text_moves three_songs) ≡ songs 20
songs_planned = refl

abbrev song_segment : ℕ → List ℕ → Option Message
song_segment address bytes = Some (Text false address bytes)

abbrev t_so : Option Message
t_so = song_segment 1 (0x54 ∷ 0x20 ∷ 0x53 ∷ 0x4F ∷ [])

abbrev ng : Option Message
ng = song_segment 2 (0x4E ∷ 0x47 ∷ 0x0D ∷ 0x20 ∷ [])

abbrev thir : Option Message
thir = song_segment 0 (0x54 ∷ 0x48 ∷ 0x49 ∷ 0x52 ∷ [])

sent_in_20 : HasEntry 0 (sent_log 4 three_songs) 20 thir
sent_in_20 = inl (refl, refl)

-- the receiver gets slots 6 and 8, with segments 1 and 2 of the first song, and each slot from 20 on
abbrev heard_in_20 : Input
heard_in_20 = record {
  first = 0;
  heard = thir ∷ nothing 11 ++ ng ∷ None ∷ t_so ∷ nothing 6;
  origins = Some 20 ∷ lost 11 ++ Some 8 ∷ None ∷ Some 6 ∷ lost 6;
}

abbrev third_segment : ℕ → ℕ → List ℕ → Segment
third_segment slot address bytes = record {
  slot = slot;
  fragment = record
      { flag = false; address = address; bytes = bytes };
}

-- in slot 20 its run is the newest segment alone, so `THIRT SONG` is not whole
run_in_20 : text_run 4 heard_in_20 ≡ third_segment 20 0 (0x54 ∷ 0x48 ∷ 0x49 ∷ 0x52 ∷ []) ∷ []
run_in_20 = refl

-- and its source is the third broadcast
source_in_20 : IsSource (songs 20) heard_in_20 (text_run 4 heard_in_20) 2 (third_broadcast 20)
source_in_20 = record { planned = inl (refl, refl); slot = 20; sent = inl (refl, refl); covers = omega arith }

-- of the texts that it could show then, the third song was on air
third_was_on_air : RunWasOnAir 4 20 (songs 20) heard_in_20 (text_run 4 heard_in_20) third_song
third_was_on_air = record {
  number = 2;
  broadcast = third_broadcast 20;
  source = source_in_20;
  bytes = refl;
  slot = 20;
  covers = omega arith;
  past = omega arith;
  recent = omega arith;
}

-- and the mix of both was not
abbrev mixed_song : List ℕ
mixed_song = 0x54 ∷ 0x48 ∷ 0x49 ∷ 0x52 ∷ 0x54 ∷ 0x20 ∷ 0x53 ∷ 0x4F ∷ 0x4E ∷ 0x47 ∷ []

mix_was_not : RunWasOnAir 4 20 (songs 20) heard_in_20 (text_run 4 heard_in_20) mixed_song → ⊥
mix_was_not w = by w.source.slot w.source.sent w.broadcast w.source.planned w.source.covers w.bytes
  where
    by : (slot : ℕ) → CameFrom heard_in_20 20 slot → (b : Broadcast) → HasNumber (songs 20) w.number b → Covers b slot
        → b.bytes ≡ mixed_song → ⊥
    by slot (inr earlier) b planned covers e = omega (
      arith,
      before_end 0 (lost 11 ++ Some 8 ∷ None ∷ Some 6 ∷ lost 6) 20
          (Some slot) earlier,
    )
    by slot (inl now) b planned covers e = grind arith

-- in slot 24 its run is the three segments of the third song, and the source the same
abbrev heard_in_24 : Input
heard_in_24 = record {
  first = 0;
  heard = take 4 (sent_log 4 (free_slots 4 ++ three_songs)) ++ heard_in_20.heard;
  origins = Some 24 ∷ Some 23 ∷ Some 22 ∷ Some 21 ∷ heard_in_20.origins;
}

run_in_24 : text_run 4 heard_in_24
    ≡ third_segment 24 2 (0x4E ∷ 0x47 ∷ 0x0D ∷ 0x20 ∷ [])
    ∷ third_segment 22 1 (0x44 ∷ 0x20 ∷ 0x53 ∷ 0x4F ∷ [])
    ∷ third_segment 20 0 (0x54 ∷ 0x48 ∷ 0x49 ∷ 0x52 ∷ [])
    ∷ []
run_in_24 = refl

source_in_24 : IsSource (songs 24) heard_in_24 (text_run 4 heard_in_24) 2 (third_broadcast 24)
source_in_24 = record { planned = inl (refl, refl); slot = 24; sent = inl (refl, refl); covers = omega arith }

-- a receiver with the flag bit alone that gets the same joins the two songs in slot 20, which the dwell keeps apart
run_by_flag_in_20 : run_by_flag text_fragment heard_in_20
    ≡ third_segment 20 0 (0x54 ∷ 0x48 ∷ 0x49 ∷ 0x52 ∷ [])
    ∷ third_segment 8 2 (0x4E ∷ 0x47 ∷ 0x0D ∷ 0x20 ∷ [])
    ∷ third_segment 6 1 (0x54 ∷ 0x20 ∷ 0x53 ∷ 0x4F ∷ [])
    ∷ []
run_by_flag_in_20 = refl

-- if it also gets slot 12, a segment of `OTHER SONG`, it starts again there and in slot 20
abbrev othe : Option Message
othe = Some (Text true 0 (0x4F ∷ 0x54 ∷ 0x48 ∷ 0x45 ∷ []))

sent_in_12 : HasEntry 0 (sent_log 4 three_songs) 12 othe
sent_in_12 = inr (inr (inr (inr (inr (inr (inr (inr (inl (refl, refl)))))))))

abbrev heard_with_other : Input
heard_with_other = record {
  first = 0;
  heard = thir ∷ nothing 7 ++ othe ∷ nothing 3 ++ ng ∷ None ∷ t_so ∷ nothing 6;
  origins = Some 20 ∷ lost 7 ++ Some 12 ∷ lost 3 ++ Some 8 ∷ None ∷ Some 6 ∷ lost 6;
}

run_with_other : run_by_flag text_fragment heard_with_other ≡ third_segment 20 0 (0x54 ∷ 0x48 ∷ 0x49 ∷ 0x52 ∷ []) ∷ []
run_with_other = refl

-- neighbours in one slot: at a dwell of 4, `ONE` is on air from slot 4 on and `TWO` from slot 12 on. One of two
-- receivers loses the group of slot 12
abbrev one : List ℕ
one = 0x4F ∷ 0x4E ∷ 0x45 ∷ []

abbrev two : List ℕ
two = 0x54 ∷ 0x57 ∷ 0x4F ∷ []

abbrev one_and_two : List Entry
one_and_two = Tick true ∷ SetText two ∷ free_slots 8 ++ SetText one ∷ free_slots 4

abbrev one_on_air : Broadcast
one_on_air = record { start = 4; end = 11; flag = false; bytes = one }

abbrev two_on_air : Broadcast
two_on_air = record { start = 12; end = 12; flag = true; bytes = two }

one_and_two_planned : plan_of 4 12 (text_moves one_and_two) ≡ two_on_air ∷ one_on_air ∷ []
one_and_two_planned = refl

-- each gets what was sent from slot 10 on
abbrev handed : Input
handed = record { first = 10; heard = take 3 (sent_log 4 one_and_two); origins = Some 12 ∷ Some 11 ∷ Some 10 ∷ [] }

abbrev handed_less : Input
handed_less = record {
  first = 10;
  heard = None ∷ take 2 (drop 1 (sent_log 4 one_and_two));
  origins = None ∷ Some 11
      ∷ Some 10 ∷ [];
}

source_with_it : IsSource (two_on_air ∷ one_on_air ∷ []) handed (text_run 4 handed) 1 two_on_air
source_with_it = record { planned = inl (refl, refl); slot = 12; sent = inl (refl, refl); covers = omega arith }

source_without : IsSource (two_on_air ∷ one_on_air ∷ []) handed_less (text_run 4 handed_less) 0 one_on_air
source_without =
    record { planned = inr (inl (refl, refl)); slot = 10; sent = inr (inr (inl (refl, refl))); covers = omega arith }

-- a late group: what was sent in slot 3 comes in slot 4, one slot late and not on time
abbrev late_log : List (Option Message)
late_log = None ∷ ng ∷ nothing 3

one_slot_late : IsHeardLate 1 late_log record { first = 4; heard = ng ∷ []; origins = Some 3 ∷ [] }
one_slot_late = one_more 1 late_log 4 [] [] (Some 3) ng (nothing_heard 1 late_log 4) (inr (inl (refl, refl)))
    (omega arith, omega arith) (λ r u s e a. absurd a)

not_on_time : IsHeardOnTime late_log 4 (ng ∷ []) → ⊥
not_on_time each = elim (each 4 ng (inl (refl, refl))) [
  | inl none ↦ absurd (cc)
  | inr sent ↦ grind (arith, before_end 0 (ng ∷ nothing 3) 4 ng)
]

-- the tags of `ABBA - WATERLOO` mark its artist and its title
abbrev abba : List ℕ
abba = 0x41 ∷ 0x42 ∷ 0x42 ∷ 0x41 ∷ []

abbrev waterloo : List ℕ
waterloo = 0x57 ∷ 0x41 ∷ 0x54 ∷ 0x45 ∷ 0x52 ∷ 0x4C ∷ 0x4F ∷ 0x4F ∷ []

abbrev abba_waterloo : List ℕ
abba_waterloo = abba ++ 0x20 ∷ 0x2D ∷ 0x20 ∷ waterloo

artist : NamesPiece record { class = 4; start = 0; extra = 3 } abba_waterloo (4, abba)
artist = grind arith

title : NamesPiece record { class = 1; start = 7; extra = 7 } abba_waterloo (1, waterloo)
title = grind arith

-- two songs, and the first one again with its flag after a restart: the second is news and the third is not
abbrev first_then_other_then_first : List Broadcast
first_then_other_then_first =
    record { start = 24; end = 30; flag = false; bytes = first_song }
    ∷ record { start = 12; end = 13; flag = true; bytes = other_song }
    ∷ record { start = 4; end = 11; flag = false; bytes = first_song } ∷ []

again_is_no_news : IsNews first_then_other_then_first 2 record
    { start = 24; end = 30; flag = false; bytes = first_song } → ⊥
again_is_no_news news = news.new 0 record { start = 4; end = 11; flag = false; bytes = first_song }
    (inr (inr (inl (refl, refl)))) (omega arith) (omega arith) refl refl

other_is_news : IsNews first_then_other_then_first 1 record { start = 12; end = 13; flag = true; bytes = other_song }
other_is_news = record { filled = λ none. (cc); new = new }
  where
    new : (j : ℕ) (a : Broadcast) → HasNumber first_then_other_then_first j a → j < 1 → 1 ≤ j + 2 → a.flag ≡ true
        → a.bytes ≡ other_song → ⊥
    new j a p before near flag bytes = grind arith

-- ---- what a display keeps

-- the first song was on air up to slot 11: within 4 slots in slot 14, and not in slot 15
first_in_14 : WasOnAir 4 14 (songs 20) first_song
first_in_14 = record {
  number = 0;
  broadcast = first_broadcast;
  planned = inr (inr (inl (refl, refl)));
  bytes = refl;
  slot = 11;
  covers = omega arith;
  past = omega arith;
  recent = omega arith;
}

first_in_15 : WasOnAir 4 15 (songs 20) first_song → ⊥
first_in_15 w = by w.number w.broadcast w.planned w.covers w.bytes
  where
    by : (n : ℕ) (b : Broadcast) → HasNumber (songs 20) n b → Covers b w.slot → b.bytes ≡ first_song → ⊥
    by n b planned covers e = (let recent = w.recent in let past = w.past in grind arith)

-- the mix of two songs never was
mix_never_was : WasOnAir 100 20 (songs 20) mixed_song → ⊥
mix_never_was w = by w.number w.broadcast w.planned w.bytes
  where
    by : (n : ℕ) (b : Broadcast) → HasNumber (songs 20) n b → b.bytes ≡ mixed_song → ⊥
    by n b planned e = grind arith

-- a receiver that shows this
abbrev shows : Option (List ℕ) → Option (Bool × Bool) → Listener
shows text item = record {
  input = heard_in_20;
  view = record { text = text; name = None; item = item; one = None; two = None };
}

-- with n = 1 the display shows the song a slot later, and with n = 0 it does not
song_kept : (displayed_by 4 1 (shows None None ∷ shows (Some first_song) None ∷ [])).text ≡ Some first_song
song_kept = refl

song_dropped : (displayed_by 4 0 (shows None None ∷ shows (Some first_song) None ∷ [])).text ≡ None
song_dropped = refl

-- what was shown two slots before is too old for n = 1
too_old : (d m : ℕ) (plans : Plans) (log : List (Option Message))
    → WasSafe d m 1 plans log (shows None None ∷ shows None None ∷ shows (Some first_song) None ∷ [])
    (λ v. v.text ≡ Some first_song) → ⊥
too_old d m plans log w = by w.since w.at w.before w.all w.few w.showed
  where
    by : (since : List Listener) (at : Listener) (before : List Listener)
        → shows None None ∷ shows None None ∷ shows (Some first_song) None ∷ [] ≡ since ++ at ∷ before
        → length since ≤ 1 → at.view.text ≡ Some first_song → ⊥
    by [] at before all few showed = grind arith
    by (x ∷ []) at before all few showed = grind arith
    by (x ∷ y ∷ since) at before all few showed = omega (arith, few)

-- the text with the item bits of another view is another one
other_bits : HasTextOf (shows (Some first_song) (Some (true, true))).view first_song (shows (Some first_song) None).view → ⊥
other_bits has = (let bits = has.item in cc)

-- no receiver has heard in two slots what it heard in one
heard_twice : (log : List (Option Message)) → ListensFrom 0 4 log (shows None None ∷ shows None None ∷ []) → ⊥
heard_twice log listens =
    (let now = listens.0.now in let before = listens.1.0.now in omega (arith, now, before))
