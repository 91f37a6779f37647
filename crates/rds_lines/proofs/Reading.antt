-- How a source of lines goes on: from line to line, and from chunk to chunk.
use Rattle.std.proofs.Common.{◌≡◌, ◌≢◌, ◌+◌, ◌-◌, ◌<◌, ◌≤◌, ◌⊎◌, ℕ, Bool, List, [], ◌∷◌, ◌++◌, take, drop, length}
use Rattle.std.proofs.Common.{length-append, Option, Some, None, Ok, Err, true, false, append_assoc, add-one, ap, sym}
use Rattle.std.proofs.Common.{◌∙◌, refl, arith, nat_lt}
use Rattle.std.specs.Prelude.{IfErr, IfNone, IfSome, MatchBool, MatchOption, MatchResult, Result}
use Rattle.std.proofs.lemmas.List.{append-nil, drop-drop, drop-take, take-append-drop, take-take}
use Rattle.std.proofs.lemmas.List.Elements.{All-append}
use Rattle.std.proofs.Math.Seq.{drop-cons}
use Rattle.std.proofs.KnownBytes.{Consumes-kept, Consumes-trans}
use Rattle.std.specs.Io.KnownBytes.{Consumes, IsAtEnd, Keeps}
use Rattle.rds_io.specs.Told.{count_next, next_count}
use Rattle.rds_lines.specs.LogLines.{EndsAt, IsLine, Line, line_feed, text_of}
use Rattle.rds_lines.specs.Inside.Cutter.{Closes, CutterStandsAt, IsBadLine}
use Rattle.rds_lines.specs.Reads.{MadeReads, ReadsUpTo}
use Rattle.rds_lines.specs.Inside.Source.{GivesNext, HasLine, HasNoNext, HasMade, IsAtLast, IsInside, IsThrough}
use Rattle.rds_lines.specs.Inside.Source.{ReaderState, SourceStandsAt, since, start_of, start_with, waiting}
use Rattle.rds_io.specs.declared.fault.BadLine as fault
use Rattle.rds_io.specs.declared.fault.LogFault.{LogFault}
use Rattle.rds_io.specs.declared.fault.LogFault.TheVariants.{BadLine, TooLong}
use Rattle.rds_lines.specs.declared.log_line.LogLine.{LogLine}
use Rattle.rds_lines.specs.declared.source.Source.{Source}
use Rattle.rds_lines.proofs.Cutting.{kept_of_more, text_of-more}

-- where the next line ends in the bytes, or that it does not
pub line_told : (bytes : List ℕ) (o : Option ℕ) → IfNone o (IsLine bytes) → IfSome o (EndsAt bytes)
    → MatchOption o (IsLine bytes) (EndsAt bytes)
line_told bytes o none some = grind arith

no_end : (bytes : List ℕ) (o : Option ℕ) → o ≡ None → MatchOption o (IsLine bytes) (EndsAt bytes) → IsLine bytes
no_end bytes o e h = grind arith

an_end : (bytes : List ℕ) (o : Option ℕ) (n : ℕ) → o ≡ Some n → MatchOption o (IsLine bytes) (EndsAt bytes)
    → EndsAt bytes n
an_end bytes o n e h = grind arith

-- a source that is not at its end
inside : (s : Source) (most : ℕ) (start now : ReaderState) (lines : List Line) → s.ended ≡ false
    → SourceStandsAt s most start now lines → IsInside s most start now lines
inside s most start now lines not_ended stands = grind arith

from_inside : (s : Source) (most : ℕ) (start now : ReaderState) (lines : List Line) (b : Bool) → b ≡ false
    → IsInside s most start now lines
    → MatchBool b (IsThrough start now lines × (s.line ≡ None)) (IsInside s most start now lines)
from_inside s most start now lines b e is = grind arith

-- one that is
from_through : (s : Source) (most : ℕ) (start now : ReaderState) (lines : List Line) (b : Bool) → b ≡ true
    → IsThrough start now lines → s.line ≡ None
    → MatchBool b (IsThrough start now lines × (s.line ≡ None)) (IsInside s most start now lines)
from_through s most start now lines b e through none = grind arith

-- a source that knows of a line is not at its end
goes_on : (s : Source) (most n : ℕ) (start now : ReaderState) (lines : List Line) → s.line ≡ Some n
    → SourceStandsAt s most start now lines → s.ended ≡ false
goes_on s most n start now lines e stands = by_end s.ended stands.where_it_is
  where
    by_end : (b : Bool) → MatchBool b (IsThrough start now lines × (s.line ≡ None)) (IsInside s most start now lines)
        → b ≡ false
    by_end true (through, none) = absurd (cc)
    by_end false is = refl

-- no read more
made_so_far : (s after : Source) (most : ℕ) (start now : ReaderState) → after.left ≡ s.left → HasMade s most start now
    → HasMade after most start now
made_so_far s after most start now left m = grind arith

-- the text, cut at the end of the next line
pub cut_line : (lines : List Line) (begun : Line) (bytes : List ℕ) (n : ℕ) → EndsAt bytes n
    → text_of lines begun ++ bytes ≡ text_of ((begun ++ take n bytes) ∷ lines) (drop (n + 1) bytes)
cut_line lines begun bytes n ends = grind (arith, add-one, drop-cons, take-append-drop, append_assoc, text_of-more)

-- what waits after a line and its end
pub wait_on : (chunk : List ℕ) (at count n : ℕ) → at + n < count
    → take (count - (at + n + 1)) (drop (at + n + 1) chunk) ≡ drop (n + 1) (take (count - at) (drop at chunk))
wait_on chunk at count n less =
    let size : n + 1 + (count - (at + n + 1)) ≡ count - at = omega arith in
    let place : at + (n + 1) ≡ at + n + 1 = omega arith in
    cc (drop-drop (n + 1) at chunk, drop-take (n + 1) (count - (at + n + 1)) (drop at chunk))

-- the line that ends so many bytes on, as the code's range has it
pub line_of : (chunk : List ℕ) (at count n : ℕ) → at + n < count
    → take n (take (count - at) (drop at chunk)) ≡ take (at + n - at) (drop at chunk)
line_of chunk at count n less = grind (arith, take-take)

-- the first bytes of the line that these bytes end
start_is : (s : Source) (lines : List Line) (begun last : Line) → CutterStandsAt s.cutter lines begun
    → start_with s last ≡ take 60 (begun ++ last)
start_is s lines begun last cutter = ap (λ (l : Line). take 60 (l ++ last)) cutter.kept ∙ kept_of_more begun last

-- where the newest line starts is known, or its first bytes were copied
abbrev pub IsStartKept : Source → Source → List ℕ → Type 0
IsStartKept s after last = ((after.start.place ≡ s.at) × (s.cutter.kept.items ≡ [])) ⊎ ((after.start.place ≡ 65536)
    × (after.start.copy.items ≡ start_with s last))

starts : (s after : Source) (n : ℕ) → s.at + n < s.count → s.count ≤ 65536 → after.chunk ≡ s.chunk
    → after.at ≡ s.at + n + 1
    → IsStartKept s after (take n (waiting s)) → start_of after ≡ start_with s (take n (waiting s))
starts s after n less room chunk at p7 = grind (arith, nat_lt, line_of)

-- the start of a last line that was begun before
last_start : (s after : Source) (lines : List Line) (begun : Line) → CutterStandsAt s.cutter lines begun → begun ≢ []
    → after.at ≤ 65536 → IsStartKept s after [] → start_of after ≡ start_with s []
last_start s after lines begun cutter some room p7 = grind arith

-- the next line was closed, and says this
gives_line : (s after : Source) (most n : ℕ) (start now : ReaderState) (lines : List Line) (said : LogLine)
    → SourceStandsAt s most start now lines → s.line ≡ Some n
    → s.at + n < s.count → ((begun : Line) → CutterStandsAt s.cutter lines begun → IsLine (take n (waiting s))
    → Closes after.cutter lines (begun ++ take n (waiting s)) said)
    → after.chunk ≡ s.chunk → after.at ≡ s.at + n + 1 → after.count ≡ s.count → after.left ≡ s.left
    → after.ended ≡ s.ended
    → MatchOption after.line (IsLine (waiting after)) (EndsAt (waiting after))
    → start_of after ≡ start_with s (take n (waiting s)) → GivesNext after most start now lines (Some said)
gives_line s after most n start now lines said stands line less closes chunk at count left ended next first =
    let not_ended = goes_on s most n start now lines line stands in
    let is = inside s most start now lines not_ended stands in
    let ends = an_end (waiting s) s.line n line is.holds.line in
    let closed = closes is.holds.begun is.holds.cutter ends.line in
    let whole = is.holds.begun ++ take n (waiting s) in
    let rest : waiting after ≡ drop (n + 1) (waiting s) = rw (chunk, at, count) (wait_on s.chunk s.at s.count n less) in
    let reads = stands.reads in
    let enough = is.enough in (
      whole,
      closed.says,
      record {
        reads = made_so_far s after most start now left reads;
        where_it_is = from_inside after most start now (whole ∷ lines) after.ended (ended ∙ not_ended) record {
          text = is.text;
          read = is.read;
          enough = omega (arith, enough, left);
          holds = record {
            begun = [];
            cut = rw rest (is.holds.cut ∙ cut_line lines is.holds.begun (waiting s) n ends
                ∙ sym (text_of-more (whole ∷ lines) [] (drop (n + 1) (waiting s))));
            cutter = closed.stands;
            line = next;
          };
        };
      },
      first ∙ start_is s lines is.holds.begun (take n (waiting s)) is.holds.cutter,
    )

-- the next line is bad
gives_bad : (s after : Source) (most n number : ℕ) (start now : ReaderState) (lines : List Line)
    → SourceStandsAt s most start now lines → s.line ≡ Some n
    → ((begun : Line) → CutterStandsAt s.cutter lines begun → IsLine (take n (waiting s))
    → IsBadLine number lines (begun ++ take n (waiting s)))
    → ((begun : Line) → CutterStandsAt s.cutter lines begun
    → after.cutter.kept.items ≡ take 60 (begun ++ take n (waiting s)))
    → HasNoNext most start now lines after.cutter.kept.items (BadLine number)
gives_bad s after most n number start now lines stands line bad first =
    let is = inside s most start now lines (goes_on s most n start now lines line stands) stands in
    let ends = an_end (waiting s) s.line n line is.holds.line in (
      is.text,
      is.read,
      (
        record {
          line = is.holds.begun ++ take n (waiting s);
          rest = line_feed ∷ drop (n + 1) (waiting s);
          cut = is.holds.cut ∙ cut_line lines is.holds.begun (waiting s) n ends;
          ends = refl;
          bad = bad is.holds.begun is.holds.cutter ends.line;
        },
        first is.holds.begun is.holds.cutter,
      ),
      stands.reads.calm,
    )

-- the next line, whatever it is
pub gives_either : (s after : Source) (most n : ℕ) (start now : ReaderState) (lines : List Line)
    (result : Result LogLine fault.BadLine) → SourceStandsAt s most start now lines → s.line ≡ Some n
    → s.at + n < s.count → ((begun : Line) → CutterStandsAt s.cutter lines begun → IsLine (take n (waiting s))
    → MatchResult result (Closes after.cutter lines (begun ++ take n (waiting s))) (λ bad. IsBadLine bad.number lines
    (begun ++ take n (waiting s))))
    → ((begun : Line) → CutterStandsAt s.cutter lines begun
    → IfErr result (λ _. after.cutter.kept.items ≡ take 60 (begun ++ take n (waiting s))))
    → after.chunk ≡ s.chunk → after.at ≡ s.at + n + 1 → after.count ≡ s.count → after.left ≡ s.left
    → after.ended ≡ s.ended
    → MatchOption after.line (IsLine (waiting after)) (EndsAt (waiting after)) → s.count ≤ 65536
    → IsStartKept s after (take n (waiting s))
    → MatchResult result (λ said. GivesNext after most start now lines (Some said)) (λ bad. HasNoNext most start now
    lines after.cutter.kept.items (BadLine bad.number))
gives_either s after most n start now lines (Ok said) stands line less closes first chunk at count left ended next
    room kept =
    gives_line s after most n start now lines said stands line less closes chunk at count left ended next
    (starts s after n less room chunk at kept)
gives_either s after most n start now lines (Err bad) stands line less closes first chunk at count left ended next
    room kept =
    gives_bad s after most n bad.number start now lines stands line closes first

-- all of the chunk is of the line that is begun
pub takes_rest : (s : Source) (lines : List Line) (text : List ℕ) (h : HasLine s lines text) → s.line ≡ None
    → (text ≡ text_of lines (h.begun ++ waiting s)) × IsLine (waiting s)
takes_rest s lines text h none = (h.cut ∙ text_of-more lines h.begun (waiting s), no_end (waiting s) s.line none h.line)

-- no line is there, and the lines so far are told
pub reads_up_to : (s : Source) (most least : ℕ) (start now after : ReaderState) (lines : List Line)
    → SourceStandsAt s most start now lines → s.ended ≡ false → s.line ≡ None
    → Keeps now.left after.left → least + s.left ≤ most → ReadsUpTo (since start after) least lines
reads_up_to s most least start now after lines stands not_ended none keeps less =
    let is = inside s most start now lines not_ended stands in
    let (cut, rest) = takes_rest s lines is.text is.holds none in
    record {
      begun = is.holds.begun ++ waiting s;
      read = Consumes-kept start.left now.left after.left _ (rw cut at is.read) keeps;
      enough = omega (arith, is.enough, ap length cut);
      lines_are = is.holds.cutter.lines;
      line_is = All-append (λ x. x ≢ line_feed) is.holds.begun (waiting s) is.holds.cutter.line rest;
    }

-- one read more
pub made_more : (s after : Source) (most : ℕ) (start now later : ReaderState) → HasMade s most start now
    → after.left + 1 ≡ s.left → later.reads ≡ next_count now.reads
    → later.failures ≡ now.failures → HasMade after most start later
made_more s after most start now later m fewer counts calm = record {
  made = m.made + 1;
  leaves = omega (arith, m.leaves);
  counted = count_next start.reads m.made now.reads later.reads m.counted counts;
  calm = calm ∙ m.calm;
}

-- a read that failed
pub made_in_vain : {X : Type 0} (s : Source) (most : ℕ) (start now : ReaderState) (after : ℕ)
    (result : Result X LogFault) → HasMade s most start now → 0 < s.left
    → after ≡ next_count now.reads → result ≢ Err TooLong → MadeReads most start.reads after result
made_in_vain s most start now after result m some counts other =
    let counted = count_next start.reads m.made now.reads after m.counted counts in
    grind arith

-- a read that gave nothing
pub reads_none : (s after : Source) (most : ℕ) (start now later : ReaderState) (lines : List Line)
    → SourceStandsAt s most start now lines → s.ended ≡ false → s.line ≡ None
    → (IsLine (waiting s) → (closed : List Line) (begun : Line) → CutterStandsAt s.cutter closed begun
    → CutterStandsAt after.cutter closed (begun ++ waiting s))
    → after.left + 1 ≡ s.left → later.reads ≡ next_count now.reads → later.failures ≡ now.failures
    → Consumes now.left later.left [] → IsAtEnd later.left
    → IsAtLast after most start later lines
reads_none s after most start now later lines stands not_ended none keeps fewer counts calm gave end =
    let is = inside s most start now lines not_ended stands in
    let (cut, rest) = takes_rest s lines is.text is.holds none in
    let more = made_more s after most start now later stands.reads fewer counts calm in
    let read = rw (append-nil _) at (Consumes-trans start.left now.left later.left _ [] (rw cut at is.read) gave) in
    let cutter = keeps rest lines is.holds.begun is.holds.cutter in
    grind arith

-- a read that gave bytes
pub reads_more : (s after : Source) (most : ℕ) (start now later : ReaderState) (lines : List Line)
    → SourceStandsAt s most start now lines → s.ended ≡ false → s.line ≡ None
    → (IsLine (waiting s) → (closed : List Line) (begun : Line) → CutterStandsAt s.cutter closed begun
    → CutterStandsAt after.cutter closed (begun ++ waiting s))
    → after.left + 1 ≡ s.left → after.ended ≡ false → later.reads ≡ next_count now.reads → later.failures ≡ now.failures
    → Consumes now.left later.left (waiting after) → 0 < length (waiting after)
    → MatchOption after.line (IsLine (waiting after)) (EndsAt (waiting after))
    → SourceStandsAt after most start later lines
reads_more s after most start now later lines stands not_ended none keeps fewer still counts calm gave some next =
    let is = inside s most start now lines not_ended stands in
    let (cut, rest) = takes_rest s lines is.text is.holds none in
    record {
      reads = made_more s after most start now later stands.reads fewer counts calm;
      where_it_is = from_inside after most start later lines after.ended still record {
        text = is.text ++ waiting after;
        read = Consumes-trans start.left now.left later.left is.text (waiting after) is.read gave;
        enough = omega (arith, is.enough, length-append is.text (waiting after));
        holds = record {
          begun = is.holds.begun ++ waiting s;
          cut = rw cut refl;
          cutter = keeps rest lines is.holds.begun is.holds.cutter;
          line = next;
        };
      };
    }

-- the end, where no line is begun
pub ends_between : (s after : Source) (most : ℕ) (start now : ReaderState) (lines : List Line)
    (last : IsAtLast s most start now lines) → last.begun ≡ [] → after.left ≡ s.left
    → after.ended ≡ true → after.line ≡ None → GivesNext after most start now lines None
ends_between s after most start now lines last empty left ended none = grind arith

-- the end, which closes a line
pub ends_line : (s after : Source) (most : ℕ) (start now : ReaderState) (lines : List Line) (said : LogLine)
    (last : IsAtLast s most start now lines) → last.begun ≢ []
    → Closes after.cutter lines (last.begun ++ []) said → after.left ≡ s.left → after.ended ≡ true → after.line ≡ None
    → after.at ≤ 65536 → IsStartKept s after [] → GivesNext after most start now lines (Some said)
ends_line s after most start now lines said last some closed left ended none room kept =
    grind (arith, append-nil, made_so_far, from_through, last_start, start_is)

-- the end closes a bad line
pub ends_bad : (s : Source) (kept : List ℕ) (most number : ℕ) (start now : ReaderState) (lines : List Line)
    (last : IsAtLast s most start now lines) → IsBadLine number lines (last.begun ++ [])
    → kept ≡ take 60 (last.begun ++ []) → HasNoNext most start now lines kept (BadLine number)
ends_bad s kept most number start now lines last bad first = (
  text_of lines last.begun,
  last.read,
  (
    record {
      line = last.begun;
      rest = [];
      cut = sym (append-nil (text_of lines last.begun));
      ends = last.end;
      bad = rw (append-nil last.begun) at bad;
    },
    rw (append-nil last.begun) at first,
  ),
  last.reads.calm,
)
