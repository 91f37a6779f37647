-- What the taker of `slots` takes, and what it has written at the end of a log.
use Rattle.std.proofs.Common.{◌≡◌, ◌≢◌, ◌+◌, ◌-◌, ◌==◌, ◌≤◌, ℕ, zero, suc, Bool, true, false, not, cond, List, [], ◌∷◌}
use Rattle.std.proofs.Common.{◌++◌, Option, Some, None, append_assoc, ap, codes, drop, length, max, take, refl, sym}
use Rattle.std.proofs.Common.{subst, arith, inl, inr, All, nat_lt, ◌⊎◌, ◌*◌, add-one, ◌∙◌, is_some, ◌↔◌, Err, IsTrue}
use Rattle.std.proofs.Common.{MatchResult, Ok, Result}
use Rattle.std.proofs.Math.Nat.{max-zero}
use Rattle.std.specs.List.{list_all}
use Rattle.std.proofs.lemmas.Bool.{cases_lt}
use Rattle.std.proofs.lemmas.List.{append-nil, drop_all, get_or-take, length-take}
use Rattle.std.proofs.lemmas.List.Elements.{All-cons, All-head, All-nil, All-tail, All-take}
use Rattle.rds_block.specs.declared.group.Group.{Group}
use Rattle.rds_fields.proofs.Exchange.{nothing_exchanged_in}
use Rattle.rds_arrivals.specs.Arrivals.{Arrival, and_lost, filled, lost_until, IsBreak, lost_between, lost_within}
use Rattle.rds_arrivals.specs.Stamps.{stamp_in}
use Rattle.rds_arrivals.specs.declared.lost.Break.{Break}
use Rattle.rds_arrivals.specs.declared.lost.Break.TheVariants.{Back, Hour}
use Rattle.rds_arrivals.specs.declared.stamp.Stamp.{Stamp}
use Rattle.rds_log.specs.Fill.{AreFilled, SoFar, gap_lines, lost_lines, more_lines, newest_time, AddsNothing, FillsAll}
use Rattle.rds_log.specs.Fill.{HasLeftOut, IsLeftOut, IsOfAnother, LinesFill, TimesAre, shown}
use Rattle.rds_lines.specs.LineTimes.{break_line, ended_within, time_of}
use Rattle.rds_log.specs.FilledLog.{FilledTextsAreLogs}
use Rattle.rds_lines.specs.LineSays.{LineSays, deciding}
use Rattle.rds_lines.specs.LogLines.{IsLine, Line, line_feed, text_of}
use Rattle.rds_lines.specs.LogSlots.{AreSlots}
use Rattle.rds_log.specs.declared.filler.Filling.{Filling}
use Rattle.rds_lines.specs.declared.log_line.LogLine.TheVariants.{Skip, Slot}
use Rattle.rds_lines.proofs.Cutting.{text_of-more, content_near, same_slot_line}
use Rattle.rds_io.specs.declared.told.WriteFault.{WriteFault}
use Rattle.rds_io.specs.Told.{Traffic}
use Rattle.rds_io.specs.Waits.{IsLost, Waits}
use Rattle.rds_io.proofs.Waiting.{lost_longer}
use Rattle.rds_arrivals.specs.Breaks.{IsBreakOf}
use Rattle.rds_lines.specs.Outputs.{HasTaken, Pushed, RunsAll, RunsUpTo, WrotePart}
use Rattle.rds_log.specs.Inside.Filler.{HasFilled, KeepsTimes, last_time, told_after}
use Rattle.rds_log.specs.Inside.Pace.{PaceStandsAt}
use Rattle.rds_log.specs.declared.pace.Pace.{Pace}
use Rattle.rds_log.specs.declared.filler.Filler.{Filler}
use Rattle.rds_log.specs.declared.filler.Times.{Times}
use Rattle.rds_lines.specs.declared.log_line.LogLine.{LogLine}
use Rattle.rds_lines.specs.OneLog.{same_said}

-- ---- a line as far as its time

no_stamp : stamp_in [] ≡ None
unfolding stamp_in
no_stamp = refl

-- a line with a time goes on after the blocks and a space
pub goes_on : (first : List ℕ) (stamp : Stamp) → time_of first ≡ Some stamp → 21 ≤ length first
goes_on first stamp timed = elim (cases_lt 20 (length first)) [
  | inl more ↦ omega (arith, more)
  | inr few ↦
      let none : stamp_in (drop 20 first) ≡ None = rw (drop_all 20 first few) no_stamp in
      absurd (by (nat_lt (length first) 20) none timed)
]
  where
    by : (b : Bool) → stamp_in (drop 20 first) ≡ None
        → cond b None (ended_within (stamp_in (drop 20 first))) ≡ Some stamp → ⊥
    by b none e = grind arith

-- it is the same slot as far as its time
pub cut_says : (line : Line) (slot : Option Group) (stamp : Stamp) → LineSays line (Slot slot)
    → time_of (take 60 line) ≡ Some stamp
    → LineSays (take (20 + stamp.end) (take 60 line)) (Slot slot)
cut_says line slot stamp says timed =
    let long = goes_on (take 60 line) stamp timed in
    let q = take (20 + stamp.end) (take 60 line) in
    same_slot_line line q slot
    (omega (arith, length-take 60 line, content_near line))
    (omega (arith, length-take (20 + stamp.end) (take 60 line), content_near q))
    (λ i h. rw (
      get_or-take (20 + stamp.end) (take 60 line) i 0 (omega arith),
      get_or-take 60 line i 0
          (omega arith),
    ) refl) says

-- ---- lines more

-- the text has these lines, and ends between lines
record HasCut (text : List ℕ) (slots : List (Option Group)) : Type 0 where
  pub cut : List Line
  pub text_is : text ≡ text_of cut []
  pub lines : All IsLine cut
  pub say : AreSlots 11 cut slots

pub more_text : (text line : List ℕ) (cut : List Line) → text ≡ text_of cut []
    → text ++ (line ++ codes "\n") ≡ text_of (line ∷ cut) []
more_text text line cut is = grind (arith, codes, append_assoc, text_of-more)

with_slot : (text line : List ℕ) (slot : Option Group) (slots : List (Option Group)) → HasCut text slots → IsLine line
    → LineSays line (Slot slot)
    → HasCut (text ++ (line ++ codes "\n")) (slot ∷ slots)
with_slot text line slot slots had is says = record {
  cut = line ∷ had.cut;
  text_is = more_text text line had.cut had.text_is;
  lines = All-cons IsLine line had.cut is had.lines;
  say = inr (slot, slots, says, rw nothing_exchanged_in refl, had.say);
}

with_comment : (text line : List ℕ) (slots : List (Option Group)) → HasCut text slots → IsLine line → LineSays line Skip
    → HasCut (text ++ (line ++ codes "\n")) slots
with_comment text line slots had is says = record {
  cut = line ∷ had.cut;
  text_is = more_text text line had.cut had.text_is;
  lines = All-cons IsLine line had.cut is had.lines;
  say = inl (says, had.say);
}

same_text : (text other : List ℕ) (slots : List (Option Group)) → text ≡ other → HasCut text slots → HasCut other slots
same_text text other slots same had = subst (λ (l : List ℕ). HasCut l slots) same had

-- ---- the lines before an arrival

-- bytes that a test finds without a line feed
feedless : (bytes : List ℕ) → list_all (λ b. not (b == line_feed)) bytes ≡ true → IsLine bytes
feedless [] e = All-nil (λ (x : ℕ). x ≢ line_feed)
feedless (b ∷ rest) e = grind (arith, feedless rest)

dashes : LineSays (codes "---- ---- ---- ----") (Slot None)
dashes = grind arith

with_lost : (n : ℕ) (text : List ℕ) (slots : List (Option Group)) → HasCut text slots
    → HasCut (text ++ lost_lines n) (and_lost n slots)
with_lost zero text slots had = rw append-nil had
with_lost (suc n) text slots had =
    rw (← append_assoc) (with_slot (text ++ lost_lines n) (codes "---- ---- ---- ----") None (and_lost n slots)
    (with_lost n text slots had) (feedless (codes "---- ---- ---- ----") refl) dashes)

with_break : (why : Option Break) (text : List ℕ) (slots : List (Option Group)) → HasCut text slots
    → HasCut (text ++ break_line why) slots
with_break None text slots had = same_text text (text ++ []) slots (sym (append-nil text)) had
with_break (Some Back) text slots had = with_comment text (codes "# time went back") slots had
    (feedless (codes "# time went back") refl) (inr (inr (inl refl)))
with_break (Some Hour) text slots had = with_comment text (codes "# more than an hour passed") slots had
    (feedless (codes "# more than an hour passed") refl) (inr (inr (inl refl)))

more_and_lost : {X : Type 0} (n k sum : ℕ) (slots : List (Option X)) → n + k ≡ sum
    → and_lost n (and_lost k slots) ≡ and_lost sum slots
more_and_lost zero k sum slots is = (let same : k ≡ sum = omega (arith, is) in ap (λ (m : ℕ). and_lost m slots) same)
more_and_lost (suc n) k zero slots is = absurd (omega (arith, is))
more_and_lost (suc n) k (suc sum) slots is = search (more_and_lost n k sum slots (omega (arith, is)))

-- lost slots that follow others
with_more : (why : Option Break) (told lost : ℕ) (text : List ℕ) (slots : List (Option Group))
    → HasCut text (and_lost told slots)
    → HasCut (text ++ more_lines why told lost) (and_lost (max told lost) slots)
with_more why told lost text slots had =
    let sum : lost - told + told ≡ max told lost = omega arith in
    rw (
      ← append_assoc text (break_line why) (lost_lines (lost - told)),
      ← more_and_lost (lost - told) told
          (max told lost) slots sum,
    )
    (with_lost (lost - told) (text ++ break_line why) (and_lost told slots) (with_break why text
    (and_lost told slots) had))

with_gap : (f : Filling) (is_group : Bool) (came : List (Arrival Group)) (told time : ℕ) (text : List ℕ)
    (slots : List (Option Group)) → HasCut text (and_lost told slots)
    → HasCut (text ++ gap_lines f is_group (newest_time came) told time)
    (and_lost (max told (lost_until f.grain f.dwell came time)) slots)
with_gap f is_group came told time text slots had = grind (arith, max-zero, same_text, append-nil, with_more)

-- ---- the whole output

cut_of : (f : Filling) (lines : List Line) (s : SoFar) → All IsLine lines → AreFilled f lines s
    → HasCut s.written (and_lost s.told (filled f.grain f.dwell s.came))
cut_of f [] s all (none, untold, empty) = grind (arith)
cut_of f (line ∷ before) s all (inl (none, rest)) = cut_of f before s (All-tail IsLine line before all) rest
cut_of f (line ∷ before) s all (inr (old, rest, inl adds)) =
    let had = cut_of f before old (All-tail IsLine line before all) rest in
    let is = All-take (λ x. x ≢ line_feed) (20 + adds.stamp.end) (take 60 line)
    (All-take (λ x. x ≢ line_feed) 60 line (All-head IsLine line before all)) in
    let lost = with_gap f true old.came old.told adds.stamp.time old.written (filled f.grain f.dwell old.came) had in
    rw (adds.came, adds.told, adds.writes) (with_slot _ _ (Some adds.group) _ lost is (cut_says line (Some adds.group)
    adds.stamp adds.says adds.timed))
cut_of f (line ∷ before) s all (inr (old, rest, inr adds)) =
    grind (arith, cut_of f before old (All-tail IsLine line before all) rest, with_gap)

pub are_logs : FilledTextsAreLogs
are_logs f lines s all fill = grind (arith, cut_of)

-- ---- what the taker of `slots` takes, and what it has written at the end of a log

-- the output of some lost slots begins that of more
pub lost_split : (i n : ℕ) → i ≤ n → (rest : List ℕ) × (lost_lines n ≡ lost_lines i ++ rest)
lost_split zero zero h = ([], refl)
lost_split (suc i) zero h = absurd (omega (arith, h))
lost_split i (suc n) h = elim (cases_lt n i) [
  | inl more ↦ (let same : i ≡ suc n = omega arith in ([], rw (same, append-nil) refl))
  | inr less ↦
      let (rest, is) = lost_split i n less in
      (rest ++ codes "---- ---- ---- ----\n", rw (is, append_assoc) refl)
]

-- one lost slot more
pub more_lost : (total : List ℕ) (n : ℕ) → (total ++ lost_lines n) ++ codes "---- ---- ---- ----\n" ≡ total
    ++ lost_lines (n + 1)
more_lost total n = rw add-one (append_assoc total (lost_lines n) (codes "---- ---- ---- ----\n"))

-- two more
pub two_more_lost : (total : List ℕ) (n : ℕ)
    → (total ++ lost_lines (2 * n)) ++ codes "---- ---- ---- ----\n---- ---- ---- ----\n" ≡ total
    ++ lost_lines (2 * (n + 1))
two_more_lost total n =
    let one = codes "---- ---- ---- ----\n" in
    let later : 2 * (n + 1) ≡ 2 * n + 1 + 1 = omega arith in
    rw (later, ← more_lost total (2 * n + 1), ← more_lost total (2 * n)) (sym (append_assoc (total ++ lost_lines
    (2 * n)) one one))

-- ---- the output before a group

-- each cause of a break is a break
pub break_is : (earlier later : ℕ) (why : Break) → IsBreakOf earlier later why → IsBreak earlier later
break_is earlier later Back before = inl before
break_is earlier later Hour after = inr after

-- no break
pub gap_within : (f : Filling) (came : Bool) (last told time lost : ℕ) → (IsBreak last time → ⊥)
    → lost ≡ lost_within f.grain (time - last)
    → (gap_lines f came (Some last) told time ≡ more_lines None told lost) × (lost_between f.grain f.dwell last time
    ≡ lost)
gap_within f came last told time lost whole count = grind arith

-- a break
pub gap_across : (f : Filling) (came : Bool) (last told time : ℕ) (why : Break) → IsBreakOf last time why
    → (gap_lines f came (Some last) told time ≡ more_lines (cond came (Some why) None) told f.dwell)
    × (lost_between f.grain f.dwell last time ≡ f.dwell)
gap_across f came last told time why is = grind arith

-- the lost slots are those from the newest group
pub told_is : (f : Filling) (came : List (Arrival Group)) (told time : ℕ)
    → told_after f (newest_time came) told time ≡ max told (lost_until f.grain f.dwell came time)
told_is f came told time = grind arith

-- the same result for the same bytes
pub same_pushed : (w : Traffic) (waiting : List ℕ) (r : Result (Unit {0}) WriteFault) (total other : List ℕ)
    → total ≡ other → Pushed w waiting total r → Pushed w waiting other r
same_pushed w waiting r total other same out = subst (λ (l : List ℕ). Pushed w waiting l r) same out

-- ---- lines

-- a filler with the same settings, which left out a group or did not, as these lines have it
left_out_kept : (s after : Filler) (has : Bool) (lines : List Line)
    → after.filling ≡ s.filling → after.has_left_out ≡ has → IsTrue has ↔ HasLeftOut s.filling.pi lines
    → IsTrue after.has_left_out ↔ HasLeftOut after.filling.pi lines
left_out_kept s after has lines f u same = grind arith

-- a line that adds nothing
pub adds_none : (how : Filling) (s after : Filler) (w : Traffic) (out : List ℕ) (lines : List Line) (line : Line)
    → AddsNothing s.filling line → after.filling ≡ s.filling → after.pace ≡ s.pace → after.told ≡ s.told
    → IsTrue after.has_left_out ↔ HasLeftOut s.filling.pi (line ∷ lines)
    → HasTaken (HasFilled how s) w out lines → HasTaken (HasFilled how after) w out (line ∷ lines)
adds_none how s after w out lines line none f p d u taken =
    let has = taken.took in
    record {
      total = taken.total;
      took = record {
        filling = f ∙ has.filling;
        so_far = has.so_far;
        fill = subst (λ (g : Filling). AreFilled g (line ∷ lines) has.so_far) (sym f) (inl (none, has.fill));
        writes = has.writes;
        pace = rw p has.pace;
        grain = ap (λ (x : Pace). x.grain) p ∙ has.grain ∙ ap (λ (g : Filling). g.grain) (sym f);
        told = d ∙ has.told;
        left_out = left_out_kept s after after.has_left_out (line ∷ lines) f refl u;
      };
      waits = taken.waits;
    }

same_gap : (how : Filling) (s : Filler) (lines : List Line) (total : List ℕ) (has : HasFilled how s lines total)
    (came : Bool) (time : ℕ)
    → gap_lines s.filling came (last_time s) s.told time ≡ gap_lines s.filling came (newest_time has.so_far.came)
    has.so_far.told time
same_gap how s lines total has came time = cc

-- a line of this programme with a time, or one without a group, is no group that is left out
pub none_left_out : (pi : Option ℕ) (line : Line) (lines : List Line) (has : Bool)
    → (IsLeftOut pi line → ⊥) → IsTrue has ↔ HasLeftOut pi lines → IsTrue has ↔ HasLeftOut pi (line ∷ lines)
none_left_out pi line lines has not same = grind arith

-- no line is two things
said_other : (pi : Option ℕ) (line : Line) (said : LogLine)
    → LineSays line said → ((group : Group) → said ≡ Slot (Some group) → ⊥) → IsLeftOut pi line → ⊥
said_other pi line said says other out = other out.group (same_said line said (Slot (Some out.group)) says out.says)

-- a line that is no slot is no group that is left out
pub skipped : (pi : Option ℕ) (line : Line) → LineSays line Skip → IsLeftOut pi line → ⊥
skipped pi line says = said_other pi line Skip says (λ group same. absurd (cc))

-- the slot of a line that is left out is one more group that is, if it has a group
pub left_out_now : (pi : Option ℕ) (line : Line) (lines : List Line) (slot : Option Group) (has after : Bool)
    → LineSays line (Slot slot) → (time_of (take deciding line) ≡ None) ⊎ IsOfAnother pi (take deciding line)
    → IsTrue after ↔ (IsTrue has ⊎ (is_some slot ≡ true)) → IsTrue has ↔ HasLeftOut pi lines
    → IsTrue after ↔ HasLeftOut pi (line ∷ lines)
left_out_now pi line lines (Some group) has after says out count same = grind arith
left_out_now pi line lines None has after says out count same =
    let none = said_other pi line (Slot None) says (λ group bad. absurd (cc)) in
    grind arith

-- a line of this programme with a time is not left out
pub counted : (pi : Option ℕ) (line : Line) (stamp : Stamp) (first : List ℕ) → first ≡ take deciding line
    → time_of first ≡ Some stamp → (IsOfAnother pi first → ⊥) → IsLeftOut pi line → ⊥
counted pi line stamp first is found own out = grind arith

-- what is so far after a line with a whole group, and after one without
abbrev pub after_group : SoFar → Group → ℕ → List ℕ → SoFar
after_group s group time written = record {
  came = record { entry = group; time = time; told = s.told }
      ∷ s.came;
  told = 0;
  written = written;
}

abbrev pub after_time : Filling → SoFar → ℕ → List ℕ → SoFar
after_time f s time written = record {
  came = s.came;
  told = max s.told (lost_until f.grain f.dwell s.came time);
  written = written;
}

-- a line that adds a group, and all its output
pub adds_group : (how : Filling) (s : Filler) (lines : List Line) (total : List ℕ) (line : Line) (group : Group)
    (stamp : Stamp) (first : List ℕ)
    → LineSays line (Slot (Some group)) → first ≡ take deciding line → time_of first ≡ Some stamp
    → (IsOfAnother s.filling.pi first → ⊥) → (has : HasFilled how s lines total)
    → AreFilled s.filling (line ∷ lines) (after_group has.so_far group stamp.time (has.so_far.written
    ++ gap_lines s.filling true (last_time s) s.told stamp.time ++ shown first stamp))
adds_group how s lines total line group stamp first says is timed own has = grind arith

-- a line that tells a time
pub adds_time : (how : Filling) (s : Filler) (lines : List Line) (total : List ℕ) (line : Line) (stamp : Stamp)
    (first : List ℕ)
    → LineSays line (Slot None) → first ≡ take deciding line → time_of first ≡ Some stamp
    → (IsOfAnother s.filling.pi first → ⊥) → (has : HasFilled how s lines total)
    → AreFilled s.filling (line ∷ lines) (after_time s.filling has.so_far stamp.time (has.so_far.written
    ++ gap_lines s.filling false (last_time s) s.told stamp.time))
adds_time how s lines total line stamp first says is timed own has = inr (
  has.so_far,
  has.fill,
  inr record {
    stamp = stamp;
    says = says;
    timed = rw is at timed;
    own = rw is at own;
    came = refl;
    told = refl;
    writes = ap (λ (l : List ℕ). has.so_far.written ++ l) (same_gap how s lines total has false stamp.time);
  },
)

-- the writer failed at the output of a line
fails_at : (how : Filling) (s : Filler) (lines : List Line) (v : Traffic) (so_far : SoFar) → s.filling ≡ how
    → AreFilled s.filling lines so_far → IsLost v so_far.written → WrotePart (LinesFill how) v lines
fails_at how s lines v so_far same fill lose = grind arith

-- at a slot with a time, a failed write leaves a first part of its output
pub fails_at_slot : (how : Filling) (s : Filler) (v : Traffic) (lines : List Line) (total : List ℕ) (line : Line)
    (slot : Option Group) (stamp : Stamp) (first : List ℕ)
    → LineSays line (Slot slot) → first ≡ take deciding line → time_of first ≡ Some stamp
    → (IsOfAnother s.filling.pi first → ⊥) → (has : HasFilled how s lines total)
    → IsLost v (has.so_far.written ++ gap_lines s.filling (is_some slot) (last_time s) s.told stamp.time)
    → WrotePart (LinesFill how) v (line ∷ lines)
fails_at_slot how s v lines total line (Some group) stamp first says is timed own has lose =
    fails_at how s (line ∷ lines) v _ has.filling
    (adds_group how s lines total line group stamp first says is timed own has) (lost_longer v _
    (shown first stamp) lose)
fails_at_slot how s v lines total line None stamp first says is timed own has lose =
    fails_at how s (line ∷ lines) v _ has.filling (adds_time how s lines total line stamp first says is timed own has)
    lose

-- the output of a line without a whole group was added
pub time_done : (how : Filling) (s after : Filler) (v : Traffic) (out : List ℕ) (lines : List Line) (total : List ℕ)
    (line : Line) (slot : Option Group) (stamp : Stamp) (first : List ℕ)
    → LineSays line (Slot slot) → is_some slot ≡ false → first ≡ take deciding line → time_of first ≡ Some stamp
    → (IsOfAnother s.filling.pi first → ⊥) → (has : HasFilled how s lines total)
    → KeepsTimes s after → after.told ≡ told_after s.filling (last_time s) s.told stamp.time
    → Waits v out (has.so_far.written ++ gap_lines s.filling false (last_time s) s.told stamp.time)
    → HasTaken (HasFilled how after) v out (line ∷ lines)
time_done how s after v out lines total line (Some group) stamp first says none is timed own has keeps told waits =
    grind (arith)
time_done how s after v out lines total line None stamp first says none is timed_at own has keeps told waits =
    let written = has.so_far.written ++ gap_lines s.filling false (last_time s) s.told stamp.time in
    let adds = adds_time how s lines total line stamp first says is timed_at own has in
    record {
      total = written;
      took = record {
        filling = keeps.filling ∙ has.filling;
        so_far = after_time s.filling has.so_far stamp.time written;
        fill = subst (λ (g : Filling). AreFilled g (line ∷ lines) (after_time s.filling has.so_far stamp.time written))
            (sym keeps.filling) adds;
        writes = refl;
        pace = rw keeps.pace has.pace;
        grain = grind arith;
        told = grind (arith, told_is);
        left_out = left_out_kept s after s.has_left_out (line ∷ lines) keeps.filling keeps.left_out
            (none_left_out s.filling.pi line lines s.has_left_out
            (counted s.filling.pi line stamp first is timed_at own) has.left_out);
      };
      waits = waits;
    }

-- the output of a line with a group was added, or the writer failed at it
pub group_done : (how : Filling) (s after : Filler) (v : Traffic) (out : List ℕ) (lines : List Line) (total : List ℕ)
    (line : Line) (slot : Option Group) (stamp : Stamp) (first : List ℕ) (r : Result (Unit {0}) WriteFault)
    → LineSays line (Slot slot) → is_some slot ≡ true → first ≡ take deciding line → time_of first ≡ Some stamp
    → (IsOfAnother s.filling.pi first → ⊥) → (has : HasFilled how s lines total)
    → after.filling ≡ s.filling → ((a : Arrival Group) → a.told ≡ s.told → a.time ≡ stamp.time
    → PaceStandsAt after.pace (a ∷ has.so_far.came)) → after.pace.grain ≡ s.pace.grain → after.told ≡ 0
    → after.has_left_out ≡ s.has_left_out
    → Pushed v out (has.so_far.written ++ gap_lines s.filling true (last_time s) s.told stamp.time ++ shown first stamp)
    r
    → MatchResult r (λ _. HasTaken (HasFilled how after) v out (line ∷ lines)) (λ _. WrotePart (LinesFill how) v
    (line ∷ lines))
group_done how s after v out lines total line None stamp first r says some is timed_at own has f p k d u pushed =
    grind (arith)
group_done how s after v out lines total line (Some group) stamp first (Ok done) says some is timed_at own has f p k d
    u pushed =
    let so_far = after_group has.so_far group stamp.time (has.so_far.written ++ gap_lines s.filling true (last_time s)
    s.told stamp.time ++ shown first stamp) in
    record {
      total = so_far.written;
      took = record {
        filling = f ∙ has.filling;
        so_far = so_far;
        fill = subst (λ (g : Filling). AreFilled g (line ∷ lines) so_far) (sym f) (adds_group how s lines total line
            group stamp first says is timed_at own has);
        writes = refl;
        pace = p _ (sym has.told) refl;
        grain = (let same = has.grain in cc);
        told = d;
        left_out = left_out_kept s after s.has_left_out (line ∷ lines) f u
            (none_left_out s.filling.pi line lines s.has_left_out
            (counted s.filling.pi line stamp first is timed_at own) has.left_out);
      };
      waits = pushed;
    }
group_done how s after v out lines total line (Some group) stamp first (Err fault) says some is timed_at own has f p k
    d u pushed =
    fails_at how s (line ∷ lines) v _ has.filling
    (adds_group how s lines total line group stamp first says is timed_at own has) pushed

-- ---- the end

-- the log ended
pub fills_all : (how : Filling) (f : Filler) (r w : Traffic) (times : Times) → (all : RunsAll (HasFilled how f) r w)
    → TimesAre f.filling all.run.lines all.run.took.so_far.came times → FillsAll how r w times
fills_all how f r w times all are = record {
  text = all.run.text;
  lines = all.run.lines;
  read = all.run.read;
  end = all.end;
  are = all.are;
  wrote = record {
    written = all.run.written;
    write = record {
      so_far = all.run.took.so_far;
      fill = rw all.run.took.filling at all.run.took.fill;
      writes = all.run.took.writes;
    };
    wrote = all.run.wrote;
    calm = all.run.write_calm;
  };
  answer = subst (λ (g : Filling). TimesAre g all.run.lines all.run.took.so_far.came times) all.run.took.filling are;
  calm = all.run.read_calm;
}

-- a filler is never done
pub never_done : (how : Filling) (f : Filler) (r w : Traffic)
    → (RunsAll (HasFilled how f) r w × (⊥ → ⊥)) ⊎ (RunsUpTo (HasFilled how f) r w × ⊥)
    → RunsAll (HasFilled how f) r w
never_done how f r w p4 = grind arith
