-- Lemmas: a plan that is lawful for what is judged of a recording is lawful for the recording with its early tags too.
use Rattle.std.proofs.Common.{◌≡◌, ℕ, suc, true, List, [], ◌∷◌, Option, length, refl, ap, inl, inr, arith}
use Rattle.rds_fields.specs.declared.message.Message.{Message}
use Rattle.rds_fields.specs.Tag.{PairFields}
use Rattle.rds_receiver.specs.declared.fragment.Fragment.{Fragment}
use Rattle.rds_safety.specs.Lawful.{IsAfterFragment, Kind}
use Rattle.rds_safety.specs.Marks.{IsMarkIn, Sends, Tagged, marks, name_mark, text_mark}
use Rattle.rds_safety.specs.Plans.{AreLawfulAs, Plans}
use Rattle.rds_audit.specs.Recording.{from_first_text, has_text}
use Rattle.rds_audit.proofs.Keeping.{early, sent_before}

judged_long : (log : List (Option Message)) → length (marks text_mark (from_first_text log)) ≡ length (marks text_mark log)
judged_long [] = refl
judged_long (x ∷ older) = ap suc (judged_long older)

-- a fragment stays
fragment_judged : (log : List (Option Message)) (s : ℕ) (p : Fragment) → IsMarkIn (marks text_mark log) s (Sends p)
    → IsMarkIn (marks text_mark (from_first_text log)) s (Sends p)
fragment_judged [] s p h = h
fragment_judged (x ∷ before) s p h = grind (arith, fragment_judged before s p, judged_long)

-- behind a fragment tags count
text_judged : (log : List (Option Message)) (s : ℕ) (p : Fragment) → IsMarkIn (marks text_mark log) s (Sends p)
    → has_text (from_first_text log) ≡ true
text_judged [] s p h = absurd h
text_judged (x ∷ before) s p h = grind (arith, text_judged before s p)

-- tags behind a fragment stay
tags_judged : (log : List (Option Message)) (s : ℕ) (pair : PairFields) → IsMarkIn (marks text_mark log) s (Tagged pair)
    → IsAfterFragment (marks text_mark log) s → IsMarkIn (marks text_mark (from_first_text log)) s (Tagged pair)
tags_judged [] s pair h after = h
tags_judged (x ∷ before) s pair (inl h) after =
    let sent = sent_before (text_mark x) (marks text_mark before) after.slot (Sends after.fragment)
    (omega (arith, after.before, h.0)) after.is_sent in
    grind (arith, text_judged before after.slot after.fragment sent, judged_long)
tags_judged (x ∷ before) s pair (inr h) after =
    let sent = sent_before (text_mark x) (marks text_mark before) after.slot (Sends after.fragment)
    (omega (arith, after.before, early (marks text_mark before) s (Tagged pair) h)) after.is_sent in
    inr (tags_judged before s pair h record { slot = after.slot; fragment = after.fragment; is_sent = sent; before = after.before })

names_judged : (log : List (Option Message)) → marks name_mark (from_first_text log) ≡ marks name_mark log
names_judged [] = refl
names_judged (x ∷ before) = grind (arith, names_judged before)

after_judged : (log : List (Option Message)) (s : ℕ) → IsAfterFragment (marks text_mark log) s
    → IsAfterFragment (marks text_mark (from_first_text log)) s
after_judged log s after = record {
  slot = after.slot;
  fragment = after.fragment;
  is_sent = fragment_judged log after.slot after.fragment after.is_sent;
  before = after.before;
}

-- a plan that is lawful for what is judged is lawful for all
pub lawful_for_all : (kind : Kind) (d : ℕ) (plans : Plans) (log : List (Option Message))
    → AreLawfulAs kind d plans (from_first_text log) → AreLawfulAs kind d plans log
lawful_for_all kind d plans log law = record {
  text = record {
    spaced = law.text.spaced;
    values = law.text.values;
    fragments = λ s p h. law.text.fragments s p (fragment_judged log s p h);
    tags = λ s pair h after. law.text.tags s pair (tags_judged log s pair h after) (after_judged log s after);
  };
  name = rw (names_judged log) at law.name;
}
