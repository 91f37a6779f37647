-- Worked examples of what a radio shows beside what was on air, calculated by hand. Lists have the newest first.
use Rattle.std.proofs.Common.{◌≡◌, ◌∷◌, ◌++◌, [], ℕ, List, None, Option, Some, false, refl, replicate, true}
use Rattle.rds_fields.specs.Tag.{TagFields}
use Rattle.rds_fields.specs.declared.head.Head.{Head}
use Rattle.rds_receiver.specs.Shown.{ShownView}
use Rattle.rds_world.specs.Event.{Event}
use Rattle.rds_world.specs.declared.event.Command.{Command}
use Rattle.rds_world.specs.declared.event.Command.TheVariants.{Quiet, SetTags, SetText}
use Rattle.rds_world.specs.declared.world.Config.{Config}
use Rattle.rds_script.specs.Inside.Compared.{all_on_air}
use Rattle.rds_script.specs.OnAir.{airings, airings_among}
use Rattle.rds_script.specs.Outcomes.{keep_of}
use Rattle.rds_script.specs.declared.airing.Airing.TheVariants.{Mix, Old, OnAir, Replaced}
use Rattle.rds_script.specs.declared.form.Form.TheVariants.{Simulation}

abbrev hi : List ℕ
hi = 0x48 ∷ 0x49 ∷ []

abbrev yo : List ℕ
yo = 0x59 ∷ 0x4F ∷ []

abbrev mixed : List ℕ
mixed = 0x48 ∷ 0x4F ∷ []

abbrev showing : List ℕ → Option (ℕ × List ℕ) → ShownView
showing text tag = record { text = Some text; name = None; item = None; one = tag; two = None }

abbrev title : Option (ℕ × List ℕ)
title = Some (1, hi)

abbrev artist : Option (ℕ × List ℕ)
artist = Some (4, hi)

-- with d = 2, what was on air in the slot before is on air, and two slots before it is old
lately : airings_among 2 (showing yo None ∷ showing hi None ∷ []) (showing hi None) ≡ all_on_air
lately = refl

old_text : airings_among 2 (showing yo None ∷ showing yo None ∷ showing hi None ∷ []) (showing hi None)
    ≡ record { text = Old; name = OnAir; one = OnAir; two = OnAir }
old_text = refl

mix : airings_among 2 (showing yo None ∷ showing hi None ∷ []) (showing mixed None)
    ≡ record { text = Mix; name = OnAir; one = OnAir; two = OnAir }
mix = refl

-- nothing was on air yet, and a radio that shows nothing is on air
none_yet : airings_among 2 [] (showing hi None) ≡ record { text = Mix; name = OnAir; one = OnAir; two = OnAir }
none_yet = refl

-- with d = 1, a tag is replaced as long as its text is on air, and old later, even if the same text comes again
replaced : airings_among 1 (showing hi artist ∷ showing hi artist ∷ showing hi title ∷ []) (showing hi title)
    ≡ record { text = OnAir; name = OnAir; one = Replaced; two = OnAir }
replaced = refl

old_tag : airings_among 1 (showing yo None ∷ showing hi artist ∷ showing hi title ∷ []) (showing hi title)
    ≡ record { text = Old; name = OnAir; one = Old; two = OnAir }
old_tag = refl

text_again : airings_among 1 (showing hi artist ∷ showing yo None ∷ showing hi title ∷ []) (showing hi title)
    ≡ record { text = OnAir; name = OnAir; one = Old; two = OnAir }
text_again = refl

-- the first tag on air says nothing of a second tag
second_tag : airings_among 1 (showing hi title ∷ [])
    (record { text = Some hi; name = None; item = None; one = None; two = title })
    ≡ record { text = OnAir; name = OnAir; one = OnAir; two = Mix }
second_tag = refl

-- a station with a dwell of m slots
abbrev station : ℕ → Head → Config
station m head = record { head = head; dwell = m; late = 0; kind = record { window = None; is_flag_alone = true } }

abbrev slot : Command → Event
slot command = record { command = command; free = true; receptions = [] }

abbrev quiet : ℕ → List Event
quiet n = replicate n (slot Quiet)

abbrev tag : ℕ → ℕ → ℕ → TagFields
tag class start extra = record { class = class; start = start; extra = extra }

-- M = 4: "ABCDEFGH" in slot 4, its title "AB" in slot 10, and in slot 14 an artist in its place. In slot 26 a radio
-- completes the text, and shows it with the title
abbrev letters : List ℕ
letters = 0x41 ∷ 0x42 ∷ 0x43 ∷ 0x44 ∷ 0x45 ∷ 0x46 ∷ 0x47 ∷ 0x48 ∷ []

abbrev tagged : List Event
tagged =
    quiet 12 ++ slot (SetTags record { toggle = true; running = false; one = tag 4 4 3; two = tag 0 0 0 }) ∷ quiet 3
    ++ slot (SetTags record { toggle = false; running = true; one = tag 1 0 1; two = tag 0 0 0 }) ∷ quiet 5
    ++ slot (SetText letters) ∷ quiet 4

tag_that_was_replaced : (head : Head)
    → airings (station 4 head) tagged (record {
      text = Some letters;
      name = None;
      item = Some (false, true);
      one = Some
          (1, 0x41 ∷ 0x42 ∷ []);
      two = None;
    })
    ≡ record { text = OnAir; name = OnAir; one = Replaced; two = OnAir }
tag_that_was_replaced head = refl

-- M = 2: three texts in slots 2, 6 and 10. In slot 12 a radio completes the first
abbrev three_texts : List Event
three_texts = quiet 2 ++ slot (SetText (0x43 ∷ 0x49 ∷ [])) ∷ quiet 3 ++ slot (SetText yo) ∷ quiet 3 ++ slot (SetText hi)
    ∷ quiet 2

text_that_was_on_air : (head : Head)
    → airings (station 2 head) three_texts (showing hi None)
    ≡ record { text = Old; name = OnAir; one = OnAir; two = OnAir }
text_that_was_on_air head = refl

-- item bits change no word
item_bits : (head : Head)
    → airings (station 4 head) (quiet 19 ++ tagged)
    (record { text = Some letters; name = None; item = Some (false, false); one = None; two = None }) ≡ all_on_air
item_bits head = refl

-- ---- for how many slots displays keep a text

radios_keep : (head : Head) → keep_of (Simulation false 11 685) (record (station 4 head) {
  kind = record { window = None; is_flag_alone = false };
}) ≡ 685
radios_keep head = refl

radios_with_the_flag_alone_keep_nothing : (head : Head) → keep_of (Simulation false 11 685) (station 4 head) ≡ 0
radios_with_the_flag_alone_keep_nothing head = refl
