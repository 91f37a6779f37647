-- Worked examples of the definitions, calculated by hand. A slot is 87,578 and 18/19 µs. Lists have the newest first.
use Rattle.std.proofs.Common.{◌≡◌, ℕ, [], ◌∷◌, Some, None, codes, refl}
use Rattle.rds_arrivals.specs.Arrivals.{Arrival, filled, lost_between, lost_within}
use Rattle.rds_arrivals.specs.Coarse.{begun_at, followed_by, room}
use Rattle.rds_arrivals.specs.Stamps.{days_to, stamp_in}
use Rattle.rds_arrivals.specs.declared.stretch.Stretch.{Stretch}

-- a grain of 20,000 µs: one slot and the grain are 107,578 and 18/19 µs
one_slot : lost_within 20000 87600 ≡ 0
one_slot = refl

at_once : lost_within 20000 0 ≡ 0
at_once = refl

a_slot_and_the_grain : lost_within 20000 107578 ≡ 0
a_slot_and_the_grain = refl

a_microsecond_more : lost_within 20000 107579 ≡ 1
a_microsecond_more = refl

two_slots_and_the_grain : lost_within 20000 195157 ≡ 1
two_slots_and_the_grain = refl

more_than_two : lost_within 20000 195158 ≡ 2
more_than_two = refl

-- 19 slots are 1,664,000 µs exactly, without a grain
nineteen : lost_within 0 1664000 ≡ 18
nineteen = refl

and_a_microsecond : lost_within 0 1664001 ≡ 19
and_a_microsecond = refl

-- a minute has 685.1 slots; less the grain 684.9
a_minute : lost_within 20000 60000000 ≡ 684
a_minute = refl

-- an hour has 41,105.77 slots, and less the grain 41,105.54
an_hour : lost_between 20000 128 0 3600000000 ≡ 41105
an_hour = refl

more_than_an_hour : lost_between 20000 128 0 3600000001 ≡ 128
more_than_an_hour = refl

back : lost_between 20000 128 9000000 8999999 ≡ 128
back = refl

abbrev at : ℕ → ℕ → Arrival ℕ
at x time = record { entry = x; time = time; told = 0 }

-- three groups, each 0.15 s after the one before it, of a receiver of dwell 2; then the time goes back
three : filled 20000 2 (at 4 1000 ∷ at 3 300000 ∷ at 2 150000 ∷ at 1 0 ∷ []) ≡ Some 4 ∷ None ∷ None ∷ Some 3 ∷ None
    ∷ Some 2 ∷ None ∷ Some 1 ∷ []
three = refl

-- three lost slots were known before the second group came; by its own time it is one
known_before : filled 20000 2 (record { entry = 2; time = 150000; told = 3 } ∷ at 1 0 ∷ []) ≡ Some 2 ∷ None ∷ None
    ∷ None ∷ Some 1 ∷ []
known_before = refl

-- ---- coarse times

-- eleven lost slots were known before a group that came 90,000 µs after the one before it: twelve slots, and one fits
abbrev told_too_early : Stretch
told_too_early = followed_by 20000 (Some (begun_at 0)) 11 90000

too_many : told_too_early.slots ≡ 12
too_many = refl

one_fits : room 20000 told_too_early ≡ 1
one_fits = refl

-- a break begins anew, whatever was known before
after_a_break : followed_by 20000 (Some (begun_at 90000)) 11 0 ≡ begun_at 0
after_a_break = refl

-- ---- times

-- a second after midnight of a leap day; 29 February 2024 is 739,310 days after the first day of the year 0
leap_day : days_to 2024 2 29 ≡ Some 739310
leap_day = refl

first_of_march : days_to 2024 3 1 ≡ Some 739311
first_of_march = refl

no_leap_day : days_to 2023 2 29 ≡ None
no_leap_day = refl

new_year : days_to 2024 1 1 ≡ Some 739251
new_year = refl

spy : stamp_in (codes "@2024/02/29 00:00:01.25 x") ≡ Some (record { time = 63876384001250000; end = 23 })
unfolding stamp_in
spy = refl

-- the same in ISO 8601, in another zone
iso : stamp_in (codes "2024-02-29T02:30:01.25+02:30") ≡ Some (record { time = 63876384001250000; end = 28 })
unfolding stamp_in
iso = refl

seconds : stamp_in (codes "12.5") ≡ Some (record { time = 12500000; end = 4 })
unfolding stamp_in
seconds = refl

whole_seconds : stamp_in (codes "1717228692") ≡ Some (record { time = 1717228692000000; end = 10 })
unfolding stamp_in
whole_seconds = refl

no_hour_24 : stamp_in (codes "@2024/02/29 24:00:00.00") ≡ None
unfolding stamp_in
no_hour_24 = refl

word : stamp_in (codes "12.5s") ≡ None
unfolding stamp_in
word = refl

-- a comma begins the fraction of a date's time, as in the logs of Python
python_log : stamp_in (codes "2024-02-29 00:00:01,250 INFO") ≡ Some (record { time = 63876384001250000; end = 23 })
unfolding stamp_in
python_log = refl

semicolon : stamp_in (codes "2024-02-29 00:00:01;250") ≡ None
unfolding stamp_in
semicolon = refl

-- a mark without digits is a fraction of 0
no_digits_yet : stamp_in (codes "2024-02-29 00:00:01,") ≡ Some (record { time = 63876384001000000; end = 20 })
unfolding stamp_in
no_digits_yet = refl

-- 07:58:12 is 28,692 s after midnight
day : stamp_in (codes "07:58:12.08 57") ≡ Some (record { time = 28692080000; end = 11 })
unfolding stamp_in
day = refl

day_comma : stamp_in (codes "07:58:12,080") ≡ Some (record { time = 28692080000; end = 12 })
unfolding stamp_in
day_comma = refl

day_whole : stamp_in (codes "07:58:12") ≡ Some (record { time = 28692000000; end = 8 })
unfolding stamp_in
day_whole = refl

day_leap : stamp_in (codes "23:59:60") ≡ Some (record { time = 86400000000; end = 8 })
unfolding stamp_in
day_leap = refl

day_end : stamp_in (codes "24:00:00") ≡ None
unfolding stamp_in
day_end = refl

day_minute_60 : stamp_in (codes "07:60:00") ≡ None
unfolding stamp_in
day_minute_60 = refl

day_second_61 : stamp_in (codes "07:58:61") ≡ None
unfolding stamp_in
day_second_61 = refl

day_short : stamp_in (codes "07:58") ≡ None
unfolding stamp_in
day_short = refl

day_one_digit : stamp_in (codes "7:58:12") ≡ None
unfolding stamp_in
day_one_digit = refl

day_zone : stamp_in (codes "07:58:12Z") ≡ None
unfolding stamp_in
day_zone = refl

day_frames : stamp_in (codes "07:58:12:08") ≡ None
unfolding stamp_in
day_frames = refl

day_sign : stamp_in (codes "@07:58:12") ≡ None
unfolding stamp_in
day_sign = refl

-- seconds take no comma: the next column may begin there
seconds_comma : stamp_in (codes "12,5") ≡ None
unfolding stamp_in
seconds_comma = refl

-- 13 digits are milliseconds, 12 are seconds, and 14 are no time
milliseconds : stamp_in (codes "1717228692080") ≡ Some (record { time = 1717228692080000; end = 13 })
unfolding stamp_in
milliseconds = refl

twelve_digits : stamp_in (codes "171722869208") ≡ Some (record { time = 171722869208000000; end = 12 })
unfolding stamp_in
twelve_digits = refl

fourteen_digits : stamp_in (codes "17172286920800") ≡ None
unfolding stamp_in
fourteen_digits = refl

milliseconds_point : stamp_in (codes "1717228692080.5") ≡ None
unfolding stamp_in
milliseconds_point = refl

-- spaces and tabs before a time, and a tab after it
blanks : stamp_in (codes "  \t12.5") ≡ Some (record { time = 12500000; end = 7 })
unfolding stamp_in
blanks = refl

tab_after : stamp_in (codes "12.5\t57") ≡ Some (record { time = 12500000; end = 4 })
unfolding stamp_in
tab_after = refl

blanks_alone : stamp_in (codes "  \t") ≡ None
unfolding stamp_in
blanks_alone = refl

-- brackets around a time
bracket_date : stamp_in (codes "[2024-02-29 00:00:01,250] INFO") ≡ Some (record { time = 63876384001250000; end = 25 })
unfolding stamp_in
bracket_date = refl

bracket_day : stamp_in (codes " [07:58:12.08]") ≡ Some (record { time = 28692080000; end = 14 })
unfolding stamp_in
bracket_day = refl

bracket_seconds : stamp_in (codes "[12.5]") ≡ Some (record { time = 12500000; end = 6 })
unfolding stamp_in
bracket_seconds = refl

bracket_milliseconds : stamp_in (codes "[1717228692080]") ≡ Some (record { time = 1717228692080000; end = 15 })
unfolding stamp_in
bracket_milliseconds = refl

bracket_open : stamp_in (codes "[12.5") ≡ None
unfolding stamp_in
bracket_open = refl

bracket_close : stamp_in (codes "12.5]") ≡ None
unfolding stamp_in
bracket_close = refl

bracket_blank : stamp_in (codes "[ 12.5]") ≡ None
unfolding stamp_in
bracket_blank = refl

bracket_blank_after : stamp_in (codes "[12.5 ]") ≡ None
unfolding stamp_in
bracket_blank_after = refl

bracket_word : stamp_in (codes "[12.5]s") ≡ None
unfolding stamp_in
bracket_word = refl

bracket_twice : stamp_in (codes "[[12.5]]") ≡ None
unfolding stamp_in
bracket_twice = refl

bracket_empty : stamp_in (codes "[]") ≡ None
unfolding stamp_in
bracket_empty = refl

bracket_round : stamp_in (codes "(12.5)") ≡ None
unfolding stamp_in
bracket_round = refl
