-- Lemmas: no spacing below the dwell and the lateness is enough. `AAAACCC` is on air in slot 0 alone and `BBBBDDD` in
-- slot j + 1 alone, both with flag 0. The receiver begins in slot k. It gets the first segment of `AAAACCC`, then
-- nothing in n slots, then the second segment of `BBBBDDD`. For it the two came less than its dwell apart, so it shows
-- `AAAADDD`, which nobody set. If j is n + k, the first came k slots late and the second on time. By a clock of its own
-- any j will do.
use Rattle.std.proofs.Common.{◌≡◌, ◌⊎◌, ◌+◌, ◌-◌, ◌<◌, ℕ, zero, suc, true, false, List, [], ◌∷◌, length, slice_index}
use Rattle.std.proofs.Common.{Option, Some, None, refl, ap, inl, inr, arith}
use Rattle.std.specs.FinMap.{empty, get, insert}
use Rattle.rds_fields.specs.declared.message.Message.{Message}
use Rattle.rds_fields.specs.declared.message.Message.TheVariants.{Text}
use Rattle.rds_fields.specs.declared.pair.Which.TheVariants.{One, Two}
use Rattle.rds_fields.specs.Tag.{PairFields}
use Rattle.rds_assembly.specs.Body.{segment_of, text_body}
use Rattle.rds_assembly.specs.Cells.{Cells}
use Rattle.rds_assembly.specs.OwnSegments.{all_text}
use Rattle.rds_assembly.specs.ServiceLaws.{no_name_of_none}
use Rattle.rds_assembly.specs.Value.{IsText, is_text_byte}
use Rattle.rds_assembly.specs.Whole.{IsWholeText}
use Rattle.rds_encoder.specs.Plan.{Broadcast, HasNumber}
use Rattle.rds_encoder.specs.Spaced.{IsSpaced}
use Rattle.rds_receiver.specs.Receipts.{Segment, name_fragment, segments, text_fragment}
use Rattle.rds_receiver.specs.declared.fragment.Fragment.{Fragment}
use Rattle.rds_receiver.specs.Run.{run, run_at}
use Rattle.rds_receiver.specs.Shown.{ShowsView, ShownView}
use Rattle.rds_receiver.specs.Tags.{item_of, pair_held, tag_of}
use Rattle.rds_safety.specs.Late.{HasEntry, Input, IsHeardLate, SentIn}
use Rattle.rds_safety.specs.Lawful.{HasOne, HasFragment, HasTags, IsLawful, names, texts}
use Rattle.rds_safety.specs.Laws.{ShowsAMix}
use Rattle.rds_safety.specs.Marks.{IsMarkIn, Mark, Nothing, Sends, Tagged, marks, name_mark, text_mark}
use Rattle.rds_safety.specs.Plans.{AreLawful}
use Rattle.rds_safety.specs.Safe.{AreSafeViews, Listener, ListensTo}
use Rattle.rds_safety.proofs.OneBroadcast.{get-put}
use Rattle.rds_safety.proofs.Entries.{input_of, one_more}

-- a segment of one character, and one of three and a carriage return
abbrev pub four : ℕ → List ℕ
four a = a ∷ a ∷ a ∷ a ∷ []

abbrev pub three_and_end : ℕ → List ℕ
three_and_end b = b ∷ b ∷ b ∷ 13 ∷ []

-- the text of such segments
abbrev pub text_of_two : ℕ → ℕ → List ℕ
text_of_two a b = a ∷ a ∷ a ∷ a ∷ b ∷ b ∷ b ∷ []

-- `AAAACCC`, `BBBBDDD`, and the first segment of the one with the second of the other
abbrev pub older_text : List ℕ
older_text = text_of_two 65 67

abbrev pub newer_text : List ℕ
newer_text = text_of_two 66 68

abbrev pub mix : List ℕ
mix = text_of_two 65 68

abbrev pub first_fragment : Fragment
first_fragment = record { flag = false; address = 0; bytes = four 65 }

abbrev pub last_fragment : Fragment
last_fragment = record { flag = false; address = 1; bytes = three_and_end 68 }

abbrev pub first_message : Option Message
first_message = Some (Text false 0 (four 65))

abbrev pub last_message : Option Message
last_message = Some (Text false 1 (three_and_end 68))

of_seven : (P : ℕ → Type 0) (a b : ℕ) → P a → P b → (i : ℕ) → i < 7 → P (slice_index (text_of_two a b) i)
of_seven P a b p q i h = grind arith

-- the text of two such bytes is a text
pub is_text : (a b : ℕ) → a < 256 → b < 256 → is_text_byte a ≡ true → is_text_byte b ≡ true → IsText (text_of_two a b)
is_text a b p q x y = search (arith, of_seven)

-- the plan
abbrev pub older : Broadcast
older = record { start = 0; end = 0; flag = false; bytes = older_text }

abbrev pub newer : ℕ → Broadcast
newer c = record { start = c; end = c; flag = false; bytes = newer_text }

abbrev pub plan : ℕ → List Broadcast
plan c = newer c ∷ older ∷ []

-- the plan has two broadcasts, the older one with number 0 and the newer one with number 1
pub which : (c k : ℕ) (b : Broadcast) → HasNumber (plan c) k b → ((k ≡ 1) × (b ≡ newer c)) ⊎ ((k ≡ 0) × (b ≡ older))
which c k b p = grind arith

spaced : (c : ℕ) → 0 < c → IsSpaced c (plan c)
spaced c later = grind (arith)

-- the first segment, then nothing in j slots
abbrev pub quiet : ℕ → List (Option Message)
quiet zero = first_message ∷ []
quiet (suc j) = None ∷ quiet j

abbrev pub quiet_origins : ℕ → List (Option ℕ)
quiet_origins zero = Some 0 ∷ []
quiet_origins (suc j) = None ∷ quiet_origins j

-- j slots without a group behind the first one make a log of one slot more
pub quiet_long : (j : ℕ) → length (quiet j) ≡ suc j
quiet_long zero = refl
quiet_long (suc j) = ap suc (quiet_long j)

marks_long : (j : ℕ) → length (marks text_mark (quiet j)) ≡ suc j
marks_long zero = refl
marks_long (suc j) = ap suc (marks_long j)

pub quiet_texts : (j t : ℕ) (m : Mark) → IsMarkIn (marks text_mark (quiet j)) t m
    → (m ≡ Nothing) ⊎ ((t ≡ 0) × (m ≡ Sends first_fragment))
quiet_texts zero t m s = grind arith
quiet_texts (suc j) t m s = grind (arith, quiet_texts j t m)

quiet_names : (j t : ℕ) (m : Mark) → IsMarkIn (marks name_mark (quiet j)) t m → m ≡ Nothing
quiet_names zero t m s = grind arith
quiet_names (suc j) t m s = grind (arith, quiet_names j t m)

-- what was sent: after these slots the second segment
abbrev pub log : ℕ → List (Option Message)
log j = last_message ∷ quiet j

-- the plan is lawful for the log with a spacing of j + 1 slots
pub texts_lawful : (j : ℕ) → IsLawful (j + 1) texts (plan (j + 1)) (marks text_mark (log j))
texts_lawful j = search (arith, spaced, which, is_text, fragments, tags)
  where
    fragments : (t : ℕ) (p : Fragment) → IsMarkIn (marks text_mark (log j)) t (Sends p)
        → HasOne (plan (j + 1)) (HasFragment texts t p)
    fragments t p (inl s) =
        let same : p ≡ last_fragment = (let e = s.1 in cc) in
        let slot : t ≡ j + 1 = omega (arith, s.0, marks_long j) in
        record {
          number = 1;
          broadcast = newer (j + 1);
          planned = inl (refl, refl);
          is = rw (same, slot) record { covers = omega arith; flag = refl; fragment = grind arith };
        }
    fragments t p (inr s) = elim (quiet_texts j t (Sends p) s) [
      | inl none ↦ absurd (cc)
      | inr one ↦
          let same : p ≡ first_fragment = (let e = one.1 in cc) in
          record {
            number = 0;
            broadcast = older;
            planned = inr (inl (refl, refl));
            is = rw (same, one.0) record { covers = omega arith; flag = refl; fragment = grind arith };
          }
    ]

    tags : (t : ℕ) (pair : PairFields) → IsMarkIn (marks text_mark (log j)) t (Tagged pair)
        → HasOne (plan (j + 1)) (HasTags (j + 1) t pair)
    tags t pair s = absurd (grind (arith, quiet_texts j t (Tagged pair)))

names_lawful : (d j : ℕ) → IsLawful d names [] (marks name_mark (log j))
names_lawful d j = grind (arith, spaced, quiet_names)

-- what the receiver got, from slot k on
abbrev pub heard : ℕ → List (Option Message)
heard n = last_message ∷ quiet n

abbrev pub input : ℕ → ℕ → ℕ → Input
input k n j = input_of k (heard n) (Some (j + 1) ∷ quiet_origins n)

-- slot 0 has the first message, whatever follows
pub first_sent : (j : ℕ) → HasEntry 0 (quiet j) 0 first_message
first_sent zero = grind arith
first_sent (suc j) = inr (first_sent j)

-- all that was heard came from slot 0
pub all_from_first : (k n u s : ℕ) → HasEntry k (quiet_origins n) u (Some s) → s ≡ 0
all_from_first k zero u s p = grind arith
all_from_first k (suc n) u s p = grind (arith, all_from_first k n u s)

quiet_late : (k n : ℕ) (sent : List (Option Message)) → SentIn sent 0 first_message
    → IsHeardLate k sent (input_of k (quiet n) (quiet_origins n))
quiet_late k zero sent s = grind (arith)
quiet_late k (suc n) sent s = one_more k sent k (quiet n) (quiet_origins n) None None (quiet_late k n sent s) refl tt
    (λ r u s e a. absurd (cc))

is_late : (k n : ℕ) → IsHeardLate k (log (n + k)) (input k n (n + k))
is_late k n = one_more k (log (n + k)) k (quiet n) (quiet_origins n) (Some (n + k + 1)) last_message
    (quiet_late k n (log (n + k)) (inr (first_sent (n + k))))
    (inl (omega (arith, quiet_long (n + k)), refl)) (omega (arith, quiet_long n), omega (arith, quiet_long n))
    (λ r u s e a. grind (arith, all_from_first k n u s a))

-- its run is both segments
abbrev pub first_segment : ℕ → Segment
first_segment k = record { slot = k + 0; fragment = first_fragment }

abbrev pub last_segment : ℕ → Segment
last_segment t = record { slot = t; fragment = last_fragment }

quiet_segments : (k n : ℕ) → segments text_fragment k (quiet n) ≡ first_segment k ∷ []
quiet_segments k zero = refl
quiet_segments k (suc n) = quiet_segments k n

-- no segment of a name was heard
pub no_segments : (k n : ℕ) → segments name_fragment k (quiet n) ≡ []
no_segments k zero = refl
no_segments k (suc n) = no_segments k n

-- so it shows the mix until the last segment is as old as the dwell
pub mixed_by : (k n now : ℕ) → now < k + length (quiet n) + (n + 2)
    → run (n + 2) now (segments text_fragment k (heard n)) ≡ last_segment (k + length (quiet n)) ∷ first_segment k ∷ []
mixed_by k n now soon = grind (arith, quiet_segments k n, quiet_long n)

mixed : (k n : ℕ) → run_at text_fragment (n + 2) k (heard n) ≡ last_segment (k + length (quiet n)) ∷ first_segment k
    ∷ []
mixed k n = mixed_by k n (k + length (quiet n)) (omega arith)

no_name : (k n : ℕ) → run_at name_fragment (n + 2) k (heard n) ≡ []
no_name k n = rw (no_segments k n)

abbrev pub both_cells : Cells
both_cells = insert (insert empty 0 (four 65)) 1 (three_and_end 68)

both_held : (a : ℕ) → a < 2 → get both_cells a ≡ Some (segment_of (text_body mix) a)
both_held a h = grind (arith, get-put)

-- the cells of both broadcasts hold a whole text, the mix
pub mix_is_whole : IsWholeText both_cells mix
mix_is_whole = all_text both_cells mix (is_text 65 68 (omega arith) (omega arith) refl refl) record { held = both_held }

abbrev pub view : ℕ → ℕ → ShownView
view k n = record {
  text = Some mix;
  name = None;
  item = item_of (Some mix) (pair_held (n + 2) k (heard n));
  one = tag_of One (Some mix) (pair_held (n + 2) k (heard n));
  two = tag_of Two (Some mix) (pair_held (n + 2) k (heard n));
}

-- a receiver that heard both messages shows the mix
pub shows : (k n : ℕ) → ShowsView (n + 2) k (heard n) (view k n)
shows k n =
    record {
      text = rw (mixed k n) mix_is_whole;
      name = rw (no_name k n) no_name_of_none;
      item = refl;
      one = refl;
      two = refl;
    }

abbrev receiver : ℕ → ℕ → ℕ → Listener
receiver k n j = record { input = input k n j; view = view k n }

listens : (k n : ℕ) → ListensTo k (n + 2) (n + k + 1) (log (n + k)) (receiver k n (n + k))
listens k n = record { late = is_late k n; now = omega (arith, quiet_long n); shows = shows k n }

-- no broadcast of the plan is the mix
pub of_none : (c k : ℕ) (b : Broadcast) → HasNumber (plan c) k b → b.bytes ≡ mix → ⊥
of_none c k b p same = grind (arith, which c k b p)

not_safe : (c d m t : ℕ) (sent : List (Option Message)) (r : Listener) → r.view.text ≡ Some mix
    → AreSafeViews d m t record { text = plan c; name = [] } sent (r ∷ []) → ⊥
not_safe c d m t sent r shown safe = grind (arith)

pub lawful : (j : ℕ) → AreLawful (j + 1) record { text = plan (j + 1); name = [] } (log j)
lawful j = record { text = texts_lawful j; name = names_lawful (j + 1) j }

-- a receiver that listens in this way to that log, and shows the mix
pub mixes : (n j now : ℕ) (Listens : ℕ → List (Option Message) → Listener → Type 0) (r : Listener)
    → r.view.text ≡ Some mix → Listens now (log j) r → ShowsAMix (j + 1) n Listens
mixes n j now Listens r shown listens = record {
  plans = record { text = plan (j + 1); name = [] };
  log = log j;
  lawful = lawful j;
  t = now;
  receiver = r;
  listens = listens;
  mix = mix;
  shown = shown;
  of_none = of_none (j + 1);
  fails = λ d. not_safe (j + 1) d n now (log j) r shown;
}

at_two_or_more : (n k : ℕ) → ShowsAMix (n + k + 1) (n + 2) (ListensTo k (n + 2))
at_two_or_more n k = mixes (n + 2) (n + k) (n + k + 1) (ListensTo k (n + 2)) (receiver k n (n + k)) refl (listens k n)

-- a spacing of one slot less lets a receiver at most k slots late show a mix
pub one_slot_less : (m k : ℕ) → 1 < m → ShowsAMix (m + k - 1) m (ListensTo k m)
one_slot_less m k h =
    let e : m - 2 + 2 ≡ m = omega arith in
    let slots : m - 2 + k + 1 ≡ m + k - 1 = omega arith in
    rw (e, slots) at (at_two_or_more (m - 2) k)
