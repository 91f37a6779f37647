-- The outcomes of a station's slots, and their output. `sim` writes the reply, the group, and the changes of each
-- receiver's display, with the reasons if the lines say why a text or a name is not shown any more. For radios with the
-- flag bit alone it also compares the views with what was on air. `encode` writes the reply as a comment, and the group
-- as a line of a log. This is the project's own format. Lists have the newest first, so the slot of an outcome is the
-- number of outcomes behind it.
use Rattle.std.specs.Prelude.{◌≡◌, ◌<◌, ◌++◌, [], ◌∷◌, ℕ, zero, suc, Bool, true, false, List, Option, Some, None}
use Rattle.std.specs.Prelude.{bytes_eq, codes, decimal, if◌then◌else◌, length, slice_index_or}
use Rattle.rds_block.specs.declared.group.Group.{Group}
use Rattle.rds_block.specs.Words.{second_word_of}
use Rattle.rds_world.specs.State.{distance}
use Rattle.rds_world.specs.declared.world.Config.{Config}
use Rattle.rds_fields.specs.declared.pair.Which.{Which}
use Rattle.rds_fields.specs.declared.pair.Which.TheVariants.{One, Two}
use Rattle.rds_encoder.specs.Sent.{IsSent}
use Rattle.rds_encoder.specs.declared.reply.Refusal.{Refusal}
use Rattle.rds_encoder.specs.declared.reply.Refusal.TheVariants.{Silent, Held, NoText, OutOfText}
use Rattle.rds_fields.specs.TagGroup.{exchanged_in}
use Rattle.rds_fields.specs.declared.message.Message.{Message}
use Rattle.rds_receiver.specs.Kept.{Displays}
use Rattle.rds_receiver.specs.NotShown.{whys_of}
use Rattle.rds_receiver.specs.Receipts.{Tuning}
use Rattle.rds_receiver.specs.Shown.{ShownView}
use Rattle.rds_receiver.specs.declared.why.WhyNone.TheVariants as why
use Rattle.rds_receiver.specs.declared.why.Whys.{Whys}
use Rattle.rds_safety.specs.Late.{Input}
use Rattle.rds_world.specs.declared.event.Command.{Command}
use Rattle.rds_world.specs.declared.event.Command.TheVariants.{Quiet, Restart, SetText, SetName, SetTags}
use Rattle.rds_world.specs.declared.event.Reception.{Reception}
use Rattle.rds_world.specs.declared.event.Reception.TheVariants as reception
use Rattle.rds_world.specs.declared.reply.Reply.{Reply}
use Rattle.rds_world.specs.declared.reply.Reply.TheVariants.{Restarted, Done, Refused}
use Rattle.rds_world.specs.declared.reply.Reply.TheVariants as reply
use Rattle.rds_world.specs.Event.{Event}
use Rattle.rds_world.specs.Replies.{reply_at}
use Rattle.rds_world.specs.Slots.{entries, input_of, sent_at}
use Rattle.rds_world.specs.WorldAt.{tuned_to}
use Rattle.rds_io.specs.Digits.{word_digits}
use Rattle.rds_view_lines.specs.Output.{air_prefix, change, line_of, nothing_shown, receiver_prefix, slot_prefix}
use Rattle.rds_view_lines.specs.Output.{unless_same}
use Rattle.rds_world.specs.OnAir.{air_of}
use Rattle.rds_script.specs.OnAir.{airings}
use Rattle.rds_script.specs.declared.airing.Airing.{Airing}
use Rattle.rds_script.specs.declared.airing.Airing.TheVariants.{Mix, Old, OnAir, Replaced}
use Rattle.rds_script.specs.declared.airing.Airings.{Airings}
use Rattle.rds_script.specs.declared.form.Form.{Form}
use Rattle.rds_script.specs.declared.form.Form.TheVariants.{Simulation, Log}

-- the view of receiver i; it shows nothing if there is no such receiver
abbrev pub view_at : List ShownView → ℕ → ShownView
view_at views i = slice_index_or views i nothing_shown

-- the outcome of a slot: the command, its reply, the group, and the views of the displays at its end
pub record Outcome : Type 0 where
  pub command : Command
  pub reply : Reply
  pub sent : Option Group
  pub views : List ShownView

-- for how many slots the displays of the receivers keep a text and a name. Radios with the flag bit alone keep none
abbrev pub keep_of : Form → Config → ℕ
keep_of (Log n) config = 0
keep_of (Simulation why n keep) config = if config.kind.is_flag_alone then 0 else keep

-- the view of a display that keeps for n slots, after what its receiver heard in the input
abbrev pub IsDisplayed : ℕ → Config → Input → ShownView → Type 0
IsDisplayed n config input view = Displays n (tuned_to config input) input.heard view

-- the outcome of a slot after these. The displays keep for n slots
pub record IsOutcome (n : ℕ) (config : Config) (e : Event) (before : List Event) (o : Outcome) : Type 0 where
  pub command : o.command ≡ e.command
  pub reply : o.reply ≡ reply_at (distance config) e.command (entries before)
  pub sent : IsSent config.head (sent_at (distance config) e before) o.sent
  pub receivers : length o.views ≡ length e.receptions
  pub views : (i : ℕ) → i < length o.views
      → IsDisplayed n config (input_of (distance config) i (e ∷ before)) (view_at o.views i)

-- these are the outcomes of the slots
abbrev pub AreOutcomes : ℕ → Config → List Event → List Outcome → Type 0
AreOutcomes n config [] [] = Unit {0}
AreOutcomes n config [] (o ∷ older) = ⊥
AreOutcomes n config (e ∷ before) [] = ⊥
AreOutcomes n config (e ∷ before) (o ∷ older) =
    IsOutcome n config e before o × AreOutcomes n config before older

-- the content of a reply line for a text, a name or tags
abbrev pub thing_set : Command → List ℕ
thing_set Quiet = []
thing_set Restart = []
thing_set (SetText x) = codes "text"
thing_set (SetName x) = codes "name"
thing_set (SetTags pair) = codes "tags"

abbrev pub number_of_tag : Which → List ℕ
number_of_tag One = codes "1"
number_of_tag Two = codes "2"

abbrev pub refusal_content : Refusal → List ℕ
refusal_content (Silent k) = codes " silent " ++ decimal k
refusal_content (Held k) = codes " held " ++ decimal k
refusal_content NoText = codes " notext"
refusal_content (OutOfText which) = codes " outoftext " ++ number_of_tag which

-- the thing and the content of a reply line
abbrev pub reply_thing : Command → Reply → List ℕ
reply_thing command reply.Quiet = []
reply_thing command Restarted = codes "restart"
reply_thing command Done = thing_set command
reply_thing command (Refused refusal) = thing_set command

abbrev pub reply_content : Reply → List ℕ
reply_content reply.Quiet = []
reply_content Restarted = []
reply_content Done = codes " ok"
reply_content (Refused refusal) = refusal_content refusal

-- the line of a reply, after this mark; no line if there was no command
abbrev pub reply_line : List ℕ → ℕ → Command → Reply → List ℕ
reply_line mark slot command reply.Quiet = []
reply_line mark slot command Restarted =
    mark ++ line_of (slot_prefix slot) (reply_thing command Restarted) (reply_content Restarted)
reply_line mark slot command Done = mark ++ line_of (slot_prefix slot) (reply_thing command Done) (reply_content Done)
reply_line mark slot command (Refused refusal) =
    mark ++ line_of (slot_prefix slot) (reply_thing command (Refused refusal)) (reply_content (Refused refusal))

-- a block with a space before it
abbrev pub spaced_digits : ℕ → List ℕ
spaced_digits w = codes " " ++ word_digits w

-- the four blocks of a group
abbrev pub block_digits : Group → List ℕ
block_digits g = word_digits g.pi ++ spaced_digits (second_word_of g) ++ spaced_digits g.c ++ spaced_digits g.d

-- the line of the group
abbrev pub sent_line : ℕ → Option Group → List ℕ
sent_line slot None = []
sent_line slot (Some g) = line_of (slot_prefix slot) (codes "sent ") (block_digits g)

-- a slot of a log
abbrev pub log_line : Option Group → List ℕ
log_line None = codes "---- ---- ---- ----\n"
log_line (Some g) = block_digits g ++ codes "\n"

-- why a text and a name are not shown after a slot with this reception, by the input since the last restart: a restart
-- in this slot, or what the receiver heard
abbrev pub whys_after : Reception → Tuning → List (Option Message) → Whys
whys_after reception.Restart t heard = record { text = why.Restarted; name = why.Restarted }
whys_after reception.Lost t heard = whys_of t heard
whys_after (reception.Got back) t heard = whys_of t heard
whys_after (reception.Wrong message) t heard = whys_of t heard

-- the same, if the lines say why
abbrev pub whys_said : Form → Reception → Config → Input → Option Whys
whys_said (Log n) r config input = None
whys_said (Simulation false n keep) r config input = None
whys_said (Simulation true n keep) r config input = Some (whys_after r (tuned_to config input) input.heard)

-- the same for receiver i after these slots, the newest of which has these receptions
abbrev pub whys_at : Form → Config → List Reception → List Event → ℕ → Option Whys
whys_at form config receptions events i =
    whys_said form (slice_index_or receptions i reception.Lost) config (input_of (distance config) i events)

-- the changes of the first n receivers, by their numbers
unfoldable pub receiver_changes : ℕ → ℕ → (ℕ → Option Whys) → List ShownView → List ShownView → List ℕ
receiver_changes slot zero whys before now = []
receiver_changes slot (suc i) whys before now =
    receiver_changes slot i whys before now
    ++ change (receiver_prefix slot i) (whys i) (view_at before i) (view_at now i)

-- the lines of the reply and of the group. The tags are sent in groups nA
abbrev pub answer_lines : Form → ℕ → Command → Reply → Option Group → List ℕ
answer_lines (Simulation why n keep) slot command reply sent =
    reply_line [] slot command reply ++ sent_line slot (exchanged_in n sent)
answer_lines (Log n) slot command reply sent =
    reply_line (codes "# ") slot command reply ++ log_line (exchanged_in n sent)

-- the lines of the slot of an event after these earlier slots and views; a log has no receivers
abbrev pub slot_lines : Form → Config → ℕ → Event → List Event → List ShownView → Outcome → List ℕ
slot_lines form config slot e before shown_before o =
    answer_lines form slot o.command o.reply o.sent
    ++ receiver_changes slot (length o.views) (whys_at form config e.receptions (e ∷ before)) shown_before o.views

-- the views of the receivers at the end
abbrev pub newest_views : List Outcome → List ShownView
newest_views [] = []
newest_views (o ∷ older) = o.views

-- the word for what a part is
abbrev pub airing_word : Airing → List ℕ
airing_word OnAir = codes " on air"
airing_word Replaced = codes " replaced"
airing_word Old = codes " old"
airing_word Mix = codes " mix"

-- the line of a part whose word changed
abbrev pub airing_change : List ℕ → List ℕ → Airing → Airing → List ℕ
airing_change prefix part before now =
    unless_same (bytes_eq (airing_word before) (airing_word now)) (line_of prefix part (airing_word now))

abbrev pub airings_change : List ℕ → Airings → Airings → List ℕ
airings_change prefix before now =
    airing_change prefix (codes "text") before.text now.text ++ airing_change prefix (codes "name") before.name now.name
    ++ airing_change prefix (codes "tag1") before.one now.one ++ airing_change prefix (codes "tag2") before.two now.two

-- the lines of the first n receivers, by their numbers
unfoldable pub airings_changes : ℕ → ℕ → (ℕ → Airings) → (ℕ → Airings) → List ℕ
airings_changes slot zero before now = []
airings_changes slot (suc i) before now =
    airings_changes slot i before now ++ airings_change (receiver_prefix slot i) (before i) (now i)

-- lines that are written for radios with the flag bit alone
abbrev pub if_alone : Bool → List ℕ → List ℕ
if_alone false lines = []
if_alone true lines = lines

-- how n views of a slot compare with what was on air: what changed on air, and which parts of the views are something
-- else than before
abbrev pub air_lines : Config → ℕ → ℕ → Event → List Event → List ShownView → List ShownView → List ℕ
air_lines config slot n e before shown_before shown =
    change (air_prefix slot) None (air_of config before) (air_of config (e ∷ before))
    ++ airings_changes slot n (λ i. airings config before (view_at shown_before i))
    (λ i. airings config (e ∷ before) (view_at shown i))

abbrev pub compared_lines : Config → ℕ → ℕ → Event → List Event → List ShownView → List ShownView → List ℕ
compared_lines config slot n e before shown_before shown =
    if_alone config.kind.is_flag_alone (air_lines config slot n e before shown_before shown)

-- the lines of all slots, the oldest first
abbrev pub lines_of : Form → Config → List Event → List Outcome → List ℕ
lines_of form config [] outcomes = []
lines_of form config (e ∷ before) [] = []
lines_of form config (e ∷ before) (o ∷ older) =
    lines_of form config before older
    ++ (slot_lines form config (length older) e before (newest_views older) o
    ++ compared_lines config (length older) (length o.views) e before (newest_views older) o.views)

-- the output of a station's slots is the lines of their outcomes
pub record EventsWrite (form : Form) (config : Config) (events : List Event) (written : List ℕ) : Type 0 where
  pub outcomes : List Outcome
  pub are : AreOutcomes (keep_of form config) config events outcomes
  pub lines : written ≡ lines_of form config events outcomes
