-- The arguments of the program, as a simple command of `clap`, and what they ask for. This is the project's own command
-- line.
use Rattle.std.specs.Prelude.{◌≡◌, ◌&&◌, ◌||◌, ◌∷◌, [], ℕ, Bool, List, Option, Some, None, false, true, codes}
use Rattle.std.specs.Prelude.{if◌then◌else◌, is_some, length, nat_le, nat_lt, not, option_and_then, option_map, pos}
use Rattle.std.specs.List.{list_all}
use Rattle.std.specs.Option.{option_map_or, option_or}
use Rattle.std.specs.Str.{bytes_eq}
use Rattle.std.specs.Str.Parse.{digits_value, without_leading_plus}
use Rattle.clap.specs.Simple.{on_top}
use Rattle.clap.specs.ValueTests.{is_numeral}
use Rattle.clap.specs.Words.{App, Row, Rule, Text, fault_of, first_of, new_app, new_rule}
use Rattle.clap.specs.Words.{one_of, subcommand_of, with_rule, with_subcommand}
use Rattle.clap.specs.declared.builder.action.ArgAction.TheVariants.{SetTrue}
use Rattle.clap.specs.declared.builder.value_parser.ValueParser.{ValueParser}
use Rattle.clap.specs.declared.builder.value_parser.ValueParser.TheVariants.{Signed}
use Rattle.clap.specs.declared.error.kind.ErrorKind.{ErrorKind}
use Rattle.clap.specs.declared.error.kind.ErrorKind.TheVariants.{DisplayHelp, DisplayVersion}
use Rattle.rds_io.specs.Digits.{HasWord}
use Rattle.rds_cli.specs.declared.request.Programme.{Programme}
use Rattle.rds_cli.specs.declared.request.Task.{Task}
use Rattle.rds_cli.specs.declared.request.Task.TheVariants.{Audit, Decode, Encode, Lose, Simulate, Slots, Witness}

-- ---- the command line

-- `--pi HHHH`, which must be given
abbrev pub pi_rule : Rule
pi_rule = record (new_rule (codes "pi")) {
  long = Some (codes "pi");
  value_names = 1;
  required = true;
}

-- `--pi HHHH`, which may be given
abbrev pub own_pi_rule : Rule
own_pi_rule = record (new_rule (codes "pi")) {
  long = Some (codes "pi");
  value_names = 1;
}

-- an option that takes a number, its parser, and its default
abbrev pub number_rule : Text → ValueParser → Text → Rule
number_rule name parser default = record (new_rule name) {
  long = Some name;
  value_names = 1;
  defaults = default ∷ [];
  parser = Some parser;
}

-- the dwell of a command that is given none: the number of the digits in `dwell_rule`
abbrev pub default_dwell : ℕ
default_dwell = 128

-- `--m N` or `-m N`, from 1 to 65535
abbrev pub dwell_rule : Rule
dwell_rule = record (number_rule (codes "m") (Signed (pos 1) (pos 65535)) (codes "128")) { short = Some 109 }

-- `--k N` or `-k N`, from 0 to 1024
abbrev pub late_rule : Rule
late_rule = record (number_rule (codes "k") (Signed (pos 0) (pos 1024)) (codes "0")) { short = Some 107 }

-- `--pty N`, from 0 to 31
abbrev pub pty_rule : Rule
pty_rule = number_rule (codes "pty") (Signed (pos 0) (pos 31)) (codes "0")

-- a flag
abbrev pub flag_rule : Text → Rule
flag_rule name = record (new_rule name) { long = Some name; action = Some SetTrue }

-- `--tp`
abbrev pub tp_rule : Rule
tp_rule = flag_rule (codes "tp")

-- `--running`
abbrev pub running_rule : Rule
running_rule = flag_rule (codes "running")

-- `--padded`
abbrev pub padded_rule : Rule
padded_rule = flag_rule (codes "padded")

-- `--all`
abbrev pub all_rule : Rule
all_rule = flag_rule (codes "all")

-- `--flag-alone`
abbrev pub flag_alone_rule : Rule
flag_alone_rule = flag_rule (codes "flag-alone")

-- `--lose SPANS`, which may be given
abbrev pub lose_rule : Rule
lose_rule = record (new_rule (codes "lose")) {
  long = Some (codes "lose");
  value_names = 1;
}

-- `--why`
abbrev pub why_rule : Rule
why_rule = flag_rule (codes "why")

-- `--quiet`
abbrev pub quiet_rule : Rule
quiet_rule = flag_rule (codes "quiet")

-- `--json-notes`
abbrev pub json_notes_rule : Rule
json_notes_rule = flag_rule (codes "json-notes")

-- `FILE`, which may be given
abbrev pub file_rule : Rule
file_rule = record (new_rule (codes "file")) { value_names = 1 }

-- `--rtplus GROUP`, which is 11A if it is not given
abbrev pub rtplus_rule : Rule
rtplus_rule = record (new_rule (codes "rtplus")) {
  long = Some (codes "rtplus");
  value_names = 1;
  defaults = codes "11A" ∷ [];
}

-- a subcommand that reads a log
unfoldable pub log_app : Text → App
log_app name =
    with_rule
    (with_rule (with_rule (with_rule (with_rule (with_rule (new_app name) pi_rule) dwell_rule) rtplus_rule) file_rule)
    quiet_rule) json_notes_rule

-- `--confirm W`, from 2 to 255, which may be given
abbrev pub confirm_rule : Rule
confirm_rule = record (new_rule (codes "confirm")) {
  long = Some (codes "confirm");
  value_names = 1;
  parser = Some (Signed (pos 2) (pos 255));
}

-- `--keep SLOTS`, from 0 to 65535
abbrev pub keep_rule : Rule
keep_rule = number_rule (codes "keep") (Signed (pos 0) (pos 65535)) (codes "0")

-- a subcommand that shows what a receiver of a log shows
unfoldable pub shown_app : Text → App
shown_app name = with_rule (with_rule (log_app name) confirm_rule) why_rule

-- the subcommand that decodes a log
unfoldable pub decode_app : Text → App
decode_app name = with_rule (shown_app name) keep_rule

-- a subcommand that takes `--k`
unfoldable pub late_app : Text → App
late_app name = with_rule (log_app name) late_rule

-- a subcommand that judges a log
unfoldable pub judging_app : Text → App
judging_app name = with_rule (with_rule (late_app name) running_rule) padded_rule

-- the subcommand that audits a log
unfoldable pub audit_app : Text → App
audit_app name = with_rule (judging_app name) all_rule

-- the subcommand that looks for lost slots that make a mix, or for the mixes of given ones
unfoldable pub witness_app : Text → App
witness_app name = with_rule (with_rule (log_app name) lose_rule) flag_alone_rule

-- `--grain N`, from 0 to 87
abbrev pub grain_rule : Rule
grain_rule = number_rule (codes "grain") (Signed (pos 0) (pos 87)) (codes "20")

-- a subcommand that reads a log with times
unfoldable pub timed_app : Text → App
timed_app name = with_rule (with_rule (new_app name) own_pi_rule) file_rule

-- the subcommand that fills a log with times
unfoldable pub slots_app : Text → App
slots_app name =
    with_rule (with_rule (with_rule (with_rule (timed_app name) grain_rule) dwell_rule) quiet_rule) json_notes_rule

-- a subcommand with a station of its own
unfoldable pub station_app : Text → App
station_app name = with_rule (with_rule (late_app name) pty_rule) tp_rule

-- the subcommand that simulates a station and its receivers
unfoldable pub sim_app : Text → App
sim_app name =
    with_rule (with_rule (with_rule (with_rule (station_app name) confirm_rule) flag_alone_rule) why_rule) keep_rule

-- `rdsrt`, which has a version and requires a subcommand
abbrev pub top_app : App
top_app = on_top (λ s. record s { has_version = true; subcommand_required = true }) (new_app (codes "rdsrt"))

-- with the subcommand `decode` alone
abbrev pub with_decode_app : App
with_decode_app = with_subcommand top_app (decode_app (codes "decode")).top

-- with the subcommands that read a log
unfoldable pub log_readers_app : App
log_readers_app =
    with_subcommand
    (with_subcommand (with_subcommand with_decode_app (audit_app (codes "audit")).top)
    (witness_app (codes "witness")).top)
    (slots_app (codes "slots")).top

-- with all subcommands except `sim`
abbrev pub without_sim_app : App
without_sim_app = with_subcommand log_readers_app (station_app (codes "encode")).top

-- with all six subcommands
abbrev pub whole_app : App
whole_app = with_subcommand without_sim_app (sim_app (codes "sim")).top

-- `clap`'s definition answers the arguments, the program's own name first, by no kind of error: they are taken
abbrev pub TakesWords : List Text → Type 0
TakesWords words = fault_of whole_app words ≡ []

-- ---- the request of the arguments

-- the task, the argument of `--pi`, the number of the group type of the tags, the argument of `--lose` or nothing, the
-- dwell in slots, and the file to read if it is not standard input. `--quiet` and `--json-notes` are about notes alone
pub record Requested : Type 0 where
  pub task : Task
  pub pi : Text
  pub rtplus : ℕ
  pub lose : Text
  pub dwell : ℕ
  pub file : Option Text

-- four hexadecimal digits of either case, and the programme identification that they spell
pub record IsPi (given : Text) (pi : ℕ) : Type 0 where
  pub four : length given ≡ 4
  pub word : HasWord given 0 pi

-- the number that decimal digits write, with or without a plus before them, if it is in this range
abbrev pub number_from_to : ℕ → ℕ → Text → Option ℕ
number_from_to least most text =
    let digits = without_leading_plus text in
    let number = digits_value 10 digits in
    if is_numeral digits && (nat_le least number && nat_le number most) then Some number else None

-- the number of slots of an option
abbrev pub option_number : ℕ → ℕ → Text → List Row → Option ℕ
option_number least most name rows = option_and_then (number_from_to least most) (one_of name rows)

abbrev pub dwell_in : List Row → Option ℕ
dwell_in = option_number 1 65535 (codes "m")

abbrev pub late_in : List Row → Option ℕ
late_in = option_number 0 1024 (codes "k")

abbrev pub pty_in : List Row → Option ℕ
pty_in = option_number 0 31 (codes "pty")

-- the grain in milliseconds
abbrev pub grain_in : List Row → Option ℕ
grain_in = option_number 0 87 (codes "grain")

-- a flag is given
abbrev pub flag_in : Text → List Row → Bool
flag_in name rows = option_map_or (λ text. bytes_eq text (codes "true")) (first_of name rows) false

abbrev pub tp_in : List Row → Bool
tp_in = flag_in (codes "tp")

abbrev pub running_in : List Row → Bool
running_in = flag_in (codes "running")

abbrev pub padded_in : List Row → Bool
padded_in = flag_in (codes "padded")

abbrev pub all_in : List Row → Bool
all_in = flag_in (codes "all")

abbrev pub flag_alone_in : List Row → Bool
flag_alone_in = flag_in (codes "flag-alone")

abbrev pub why_in : List Row → Bool
why_in = flag_in (codes "why")

-- for how many slots a display keeps a text and a name
abbrev pub keep_in : List Row → Option ℕ
keep_in = option_number 0 65535 (codes "keep")

-- an option has a value
abbrev pub has_value : Text → List Row → Bool
has_value name rows = is_some (first_of name rows)

-- the window in slots: `Some None` without `--confirm`, and `None` if its number is out of range
abbrev pub window_in : List Row → Option (Option ℕ)
window_in rows =
    if has_value (codes "confirm") rows
    then option_map Some (option_number 2 255 (codes "confirm") rows)
    else Some None

-- the argument of `--lose`, or nothing
abbrev pub lose_in : List Row → Text
lose_in rows = option_map_or (λ text. text) (first_of (codes "lose") rows) []

-- the file to read; none is given by `-`, which names standard input
abbrev pub file_in : List Row → Option Text
file_in rows =
    option_and_then (λ text. if bytes_eq text (codes "-") then None else Some text) (first_of (codes "file") rows)

-- the task of `witness`: with `--lose` or `--flag-alone` the slots to lose are given
abbrev pub witness_in : List Row → Task
witness_in rows =
    if has_value (codes "lose") rows || flag_alone_in rows then Lose (flag_alone_in rows) else Witness

abbrev pub programme_in : List Row → Option Programme
programme_in rows = option_map (λ pty. record { pty = pty; tp = tp_in rows }) (pty_in rows)

-- the task of a station with this programme and lateness
abbrev pub with_station : (Programme → ℕ → Task) → List Row → Option Task
with_station task rows = option_and_then (λ programme. option_map (task programme) (late_in rows)) (programme_in rows)

abbrev pub task_in : Text → List Row → Option Task
task_in name rows =
    if bytes_eq name (codes "decode")
    then option_and_then (λ window. option_map (Decode window (why_in rows)) (keep_in rows)) (window_in rows)
    else if bytes_eq name (codes "encode") then with_station Encode rows
    else if bytes_eq name (codes "sim")
    then option_and_then
    (λ window. option_and_then
    (λ keep. with_station
    (λ programme late. Simulate programme late window (flag_alone_in rows) (why_in rows) keep) rows)
    (keep_in rows))
    (window_in rows)
    else if bytes_eq name (codes "audit")
    then option_map (λ late. Audit late (running_in rows) (padded_in rows) (all_in rows)) (late_in rows)
    else if bytes_eq name (codes "witness") then Some (witness_in rows)
    else if bytes_eq name (codes "slots")
    then option_map (λ grain. Slots grain (has_value (codes "pi") rows)) (grain_in rows)
    else None

abbrev pub asked : Option Task → Option Text → Option ℕ → Text → Option ℕ → Option Text → Option Requested
asked (Some task) (Some pi) (Some rtplus) lose (Some dwell) file =
    Some (record { task = task; pi = pi; rtplus = rtplus; lose = lose; dwell = dwell; file = file })
asked _ _ _ _ _ _ = None

-- the number of a group type of version A that the tags may have, by its name
abbrev pub group_named : Text → Option ℕ
group_named name =
    if bytes_eq name (codes "5A") then Some 5
    else if bytes_eq name (codes "6A") then Some 6
    else if bytes_eq name (codes "7A") then Some 7
    else if bytes_eq name (codes "8A") then Some 8
    else if bytes_eq name (codes "9A") then Some 9
    else if bytes_eq name (codes "11A") then Some 11
    else if bytes_eq name (codes "12A") then Some 12
    else if bytes_eq name (codes "13A") then Some 13
    else None

-- the group type of the tags; a command without the option has 11A
abbrev pub rtplus_in : List Row → Option ℕ
rtplus_in rows = option_map_or group_named (first_of (codes "rtplus") rows) (Some 11)

-- the argument of `--pi`; the task of `slots` says whether it is given, and 0000 stands for none
abbrev pub pi_in : Text → List Row → Option Text
pi_in name rows =
    option_or (first_of (codes "pi") rows) (if bytes_eq name (codes "slots") then Some (codes "0000") else None)

-- the request of a subcommand and its options
abbrev pub asked_of : Text × List Row → Option Requested
asked_of p =
    asked (task_in p.0 p.1) (pi_in p.0 p.1) (rtplus_in p.1) (lose_in p.1) (dwell_in p.1) (file_in p.1)

-- the request of the arguments, as `clap`'s definition reads them
abbrev pub asked_in : List Text → Option Requested
asked_in words = option_and_then asked_of (subcommand_of whole_app words)

-- the arguments are taken, and this is their request
pub record AskFor (words : List Text) (asked : Requested) : Type 0 where
  pub taken : TakesWords words
  pub ask : asked_in words ≡ Some asked

-- ---- other arguments

abbrev pub is_shown : ErrorKind → Bool
is_shown DisplayHelp = true
is_shown DisplayVersion = true
is_shown _ = false

-- `clap`'s definition answers the arguments, always by a kind that passes the test
abbrev pub AreAnswered : (ErrorKind → Bool) → List Text → Type 0
AreAnswered test words =
    let kinds = fault_of whole_app words in
    (nat_lt 0 (length kinds) && list_all test kinds) ≡ true

-- it answers by its help or the version
abbrev pub AskForHelp : List Text → Type 0
AskForHelp words = AreAnswered is_shown words

-- it answers by a refusal
abbrev pub AreRefused : List Text → Type 0
AreRefused words = AreAnswered (λ kind. not (is_shown kind)) words
