-- The time that a text begins with (this project's own rule): `@YYYY/MM/DD HH:MM:SS.CC`,
-- `YYYY-MM-DDTHH:MM:SS.CC+HH:MM`, a time of day such as `HH:MM:SS.CC`, seconds such as `12.5`, or 13 digits of
-- milliseconds. Spaces and tabs may stand before it, and brackets around it. Times are in microseconds. Byte i of the
-- text is at place i.
use Rattle.std.specs.Prelude.{◌+◌, ◌-◌, ◌*◌, ◌/◌, ◌%◌, ◌==◌, ◌&&◌, ◌||◌, ℕ, zero, suc, Bool, List, [], ◌∷◌, Option}
use Rattle.std.specs.Prelude.{Some, None, drop, is_some, length, nat_le, nat_lt, not, option_and_then, option_map}
use Rattle.std.specs.Prelude.{slice_index, if◌then◌else◌}
use Rattle.std.specs.Option.{option_map_or}
use Rattle.rds_arrivals.specs.declared.stamp.Stamp.{Stamp}

-- ---- bytes and digits

-- this byte is at this place
abbrev pub has : List ℕ → ℕ → ℕ → Bool
has text place byte = nat_lt place (length text) && (slice_index text place == byte)

abbrev pub digit_at : List ℕ → ℕ → Option ℕ
digit_at text place =
    if nat_lt place (length text) && (nat_le 48 (slice_index text place) && nat_le (slice_index text place) 57)
    then Some (slice_index text place - 48) else None

abbrev pub two_at : List ℕ → ℕ → Option ℕ
two_at text place =
    option_and_then (λ tens. option_map (λ ones. 10 * tens + ones) (digit_at text (place + 1))) (digit_at text place)

abbrev pub up_to : ℕ → Option ℕ → Option ℕ
up_to most number = option_and_then (λ n. if nat_le n most then Some n else None) number

-- ---- days

abbrev pub is_leap : ℕ → Bool
is_leap year = (year % 4 == 0) && (not (year % 100 == 0) || (year % 400 == 0))

-- the days of the years before this one; the year 0 is the first
abbrev pub days_before : ℕ → ℕ
days_before year = 365 * year + (year + 3) / 4 - (year + 99) / 100 + (year + 399) / 400

abbrev pub before_month : List ℕ
before_month = 0 ∷ 31 ∷ 59 ∷ 90 ∷ 120 ∷ 151 ∷ 181 ∷ 212 ∷ 243 ∷ 273 ∷ 304 ∷ 334 ∷ []

abbrev pub in_month : List ℕ
in_month = 31 ∷ 28 ∷ 31 ∷ 30 ∷ 31 ∷ 30 ∷ 31 ∷ 31 ∷ 30 ∷ 31 ∷ 30 ∷ 31 ∷ []

-- the days before this one, if there is such a day
abbrev pub days_to : ℕ → ℕ → ℕ → Option ℕ
days_to year month day =
    if (month == 0) || nat_lt 12 month then None
    else if (day == 0)
    || nat_lt (slice_index in_month (month - 1) + (if (month == 2) && is_leap year then 1 else 0)) day
    then None
    else Some (days_before year + slice_index before_month (month - 1)
    + (if nat_lt 2 month && is_leap year then 1 else 0) + day - 1)

-- ---- a date and a time of day

abbrev pub has_either : List ℕ → ℕ → ℕ → ℕ → Bool
has_either text place one other = has text place one || has text place other

-- `2024/06/01` or `2024-06-01`
abbrev pub date_at : List ℕ → ℕ → Option ℕ
date_at text place =
    option_and_then (λ century. option_and_then (λ year. option_and_then (λ month. option_and_then (λ day.
    if has_either text (place + 4) 47 45 && has_either text (place + 7) 47 45
    then days_to (100 * century + year) month day else None)
    (two_at text (place + 8))) (two_at text (place + 5))) (two_at text (place + 2))) (two_at text place)

-- `07:58`; a day begins with minute 0
abbrev pub day_minute_at : List ℕ → ℕ → Option ℕ
day_minute_at text place =
    option_and_then (λ hour. option_and_then (λ minute.
    if has text (place + 2) 58 then Some (hour * 60 + minute) else None)
    (up_to 59 (two_at text (place + 3)))) (up_to 23 (two_at text place))

-- `2024/06/01 07:58` or `2024-06-01T07:58`; the year 0 begins with minute 0
abbrev pub minute_at : List ℕ → ℕ → Option ℕ
minute_at text place =
    option_and_then (λ days. option_and_then (λ minute.
    if has_either text (place + 10) 32 84 then Some (days * 1440 + minute) else None)
    (day_minute_at text (place + 11))) (date_at text place)

-- `:12`; a leap second is the second after it
abbrev pub second_at : List ℕ → ℕ → Option ℕ
second_at text place = if has text place 58 then up_to 60 (two_at text (place + 1)) else None

-- ---- fractions, zones, seconds

abbrev pub is_digit : ℕ → Bool
is_digit byte = nat_le 48 byte && nat_le byte 57

-- the number of digits that the bytes begin with
abbrev pub leading_digits : List ℕ → ℕ
leading_digits [] = 0
leading_digits (byte ∷ rest) = if is_digit byte then suc (leading_digits rest) else 0

-- the first place from this one on that has no digit
abbrev pub after_digits : List ℕ → ℕ → ℕ
after_digits text place = place + leading_digits (drop place text)

-- the digit at this place, or 0 if the digits end before
abbrev pub digit_before : List ℕ → ℕ → ℕ → ℕ
digit_before text place end =
    if nat_lt place end then option_map_or (λ digit. digit) (digit_at text place) 0 else 0

-- the first six digits of a fraction
abbrev pub fraction : List ℕ → ℕ → ℕ → ℕ
fraction text first end =
    1000 * (100 * digit_before text first end + 10 * digit_before text (first + 1) end
    + digit_before text (first + 2) end)
    + (100 * digit_before text (first + 3) end + 10 * digit_before text (first + 4) end
    + digit_before text (first + 5) end)

-- the microseconds of a fraction such as `.25`, and the place after it; there is none without a mark at this place
abbrev pub fraction_at : List ℕ → ℕ → Bool → Stamp
fraction_at text place marked =
    if marked
    then record {
      time = fraction text (place + 1) (after_digits text (place + 1));
      end = after_digits text (place + 1);
    }
    else record { time = 0; end = place }

-- the fraction of a clock's time begins with a point or a comma
abbrev pub clock_fraction_at : List ℕ → ℕ → Stamp
clock_fraction_at text place = fraction_at text place (has_either text place 46 44)

-- a local time with the zone at this place: `Z`, `+01:00`, `-0330` or nothing
abbrev pub minutes_at : List ℕ → ℕ → ℕ
minutes_at text place = place + 3 + (if has text (place + 3) 58 then 1 else 0)

abbrev pub later_by : Bool → ℕ → ℕ → ℕ → Option Stamp
later_by east local offset end =
    if east then (if nat_lt local offset then None else Some (record { time = local - offset; end = end }))
    else Some (record { time = local + offset; end = end })

abbrev pub zoned : List ℕ → ℕ → ℕ → Option Stamp
zoned text local place =
    if has text place 90 then Some (record { time = local; end = place + 1 })
    else if not (has_either text place 43 45) then Some (record { time = local; end = place })
    else option_and_then (λ hours. option_and_then (λ minutes.
    later_by (has text place 43) local ((hours * 60 + minutes) * 60 * 1000000) (minutes_at text place + 2))
    (up_to 59 (two_at text (minutes_at text place)))) (two_at text (place + 1))

-- a date and a time of day
abbrev pub dated : List ℕ → Option Stamp
dated text =
    let at = if has text 0 64 then 1 else 0 in
    option_and_then (λ minutes. option_and_then (λ second. let rest = clock_fraction_at text (at + 19) in
    zoned text ((minutes * 60 + second) * 1000000 + rest.time) rest.end)
    (second_at text (at + 16)))
    (minute_at text at)

-- a time of day alone, since midnight; it has no zone
abbrev pub time_of_day : List ℕ → Option Stamp
time_of_day text =
    option_and_then (λ minutes. option_map (λ second. let rest = clock_fraction_at text 8 in
    record { time = (minutes * 60 + second) * 1000000 + rest.time; end = rest.end })
    (second_at text 5))
    (day_minute_at text 0)

-- the number of the first n bytes, which are digits
abbrev pub number_of : List ℕ → ℕ → ℕ
number_of text zero = 0
number_of text (suc n) = 10 * number_of text n + (slice_index text n - 48)

-- seconds such as `12.5`, with at most twelve digits before the point. Thirteen digits are milliseconds, with no point
abbrev pub in_number : List ℕ → Option Stamp
in_number text =
    let end = after_digits text 0 in
    if (end == 0) || nat_lt 13 end then None
    else if end == 13 then Some (record { time = 1000 * number_of text end; end = end })
    else let rest = fraction_at text end (has text end 46) in
    Some (record { time = 1000000 * number_of text end + rest.time; end = rest.end })

-- ---- one of the forms, and what stands around it

-- the first of the forms that the text begins with
abbrev pub form_in : List ℕ → Option Stamp
form_in text =
    if is_some (dated text) then dated text else if is_some (time_of_day text) then time_of_day text else in_number text

-- one of the forms between `[` and `]`
abbrev pub in_brackets : List ℕ → Option Stamp
in_brackets text =
    option_and_then (λ stamp. if has (drop 1 text) stamp.end 93
    then Some (record { time = stamp.time; end = stamp.end + 2 }) else None) (form_in (drop 1 text))

-- the time ends with the text, a space, a tab or a carriage return
abbrev pub is_over : List ℕ → ℕ → Bool
is_over text place = (place == length text) || (has_either text place 32 9 || has text place 13)

abbrev pub ended : List ℕ → Option Stamp → Option Stamp
ended text found = option_and_then (λ stamp. if is_over text stamp.end then Some stamp else None) found

-- the time that a text without blanks before it begins with
abbrev pub stamp_at_once : List ℕ → Option Stamp
stamp_at_once text = ended text (if has text 0 91 then in_brackets text else form_in text)

-- the number of spaces and tabs that the bytes begin with
abbrev pub leading_blanks : List ℕ → ℕ
leading_blanks [] = 0
leading_blanks (byte ∷ rest) = if (byte == 32) || (byte == 9) then suc (leading_blanks rest) else 0

-- the time that a text begins with, after spaces and tabs
unfoldable pub stamp_in : List ℕ → Option Stamp
stamp_in text =
    let blanks = leading_blanks text in
    option_map (λ stamp. record { time = stamp.time; end = blanks + stamp.end }) (stamp_at_once (drop blanks text))
