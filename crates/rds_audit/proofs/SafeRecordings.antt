-- Lemmas: a recording that passes is safe for the receivers of the log as it is. Each of them is a receiver of the log with
-- lost slots in front, which it did not hear.
use Rattle.std.proofs.Common.{◌≡◌, ◌+◌, ◌<◌, ℕ, List, [], ◌∷◌, Option, Some, None, length, map, option_map, refl}
use Rattle.std.proofs.Common.{ap, ◌∙◌, inl, inr, arith}
use Rattle.std.proofs.lemmas.List.{length-append, length-map, length-replicate}
use Rattle.std.proofs.lemmas.List.Elements.{All-map, All-weaker}
use Rattle.rds_fields.specs.declared.message.Message.{Message}
use Rattle.rds_safety.specs.Late.{HasEntry, IsHeardInOrder, IsOfItsOrigin, SentIn}
use Rattle.rds_safety.specs.Laws.{ASlowClockIsAnOwnClock, LateIsBySlowClock, LawfulPlansAreSafeByOwnClocksAs}
use Rattle.rds_safety.specs.OwnClock.{ListensByOwnClock}
use Rattle.rds_safety.specs.Safe.{Listener, ListensTo}
use Rattle.rds_audit.specs.Forms.{text_kind}
use Rattle.rds_audit.specs.declared.text_form.TextForm.{TextForm}
use Rattle.rds_audit.specs.AuditLaws.{IsSafeRecording, PassesExactlyByPlans, PlansOfARecordingAreSafe}
use Rattle.rds_audit.specs.AuditLaws.{WhatPassesAsARecordingIsSafe, later}
use Rattle.rds_audit.specs.Recording.{from_first_text, judged_as, preceded}
use Rattle.rds_audit.specs.declared.log_start.LogStart.{LogStart}
use Rattle.rds_audit.specs.declared.log_start.LogStart.TheVariants.{Running}
use Rattle.rds_audit.specs.Rules.{LogPasses}
use Rattle.rds_audit.proofs.Settled.{lawful_for_all}

length_preceded : (n : ℕ) (log : List (Option Message)) → length (preceded n log) ≡ length log + n
length_preceded n log = grind (arith, length-append, length-replicate)

-- what was sent is sent n slots later
sent_later : (n : ℕ) (log : List (Option Message)) (s : ℕ) (entry : Option Message) → SentIn log s entry
    → SentIn (preceded n log) (s + n) entry
sent_later n [] s entry h = absurd h
sent_later n (newest ∷ before) s entry (inl h) = inl (omega (arith, h.0, length_preceded n before), h.1)
sent_later n (newest ∷ before) s entry (inr h) = inr (sent_later n before s entry h)

-- ---- origins n slots later

abbrev origins_later : ℕ → List (Option ℕ) → List (Option ℕ)
origins_later n origins = map (option_map (λ (s : ℕ). s + n)) origins

record WasOrigin (n first : ℕ) (origins : List (Option ℕ)) (t : ℕ) (origin : Option ℕ) : Type 0 where
  was : Option ℕ
  came : HasEntry first origins t was
  is : origin ≡ option_map (λ (s : ℕ). s + n) was

was_origin : (n first : ℕ) (origins : List (Option ℕ)) (t : ℕ) (origin : Option ℕ)
    → HasEntry first (origins_later n origins) t origin → WasOrigin n first origins t origin
was_origin n first [] t origin h = absurd h
was_origin n first (o ∷ origins) t origin (inl h) = record {
  was = o;
  came = inl (h.0 ∙ ap (λ (i : ℕ). first + i) (length-map origins (option_map (λ (s : ℕ). s + n))), refl);
  is = h.1;
}
was_origin n first (o ∷ origins) t origin (inr h) = grind (arith, was_origin n first origins t origin h)

record WasSent (n first : ℕ) (origins : List (Option ℕ)) (t s : ℕ) : Type 0 where
  slot : ℕ
  from : HasEntry first origins t (Some slot)
  is : s ≡ slot + n

was_sent : (n first : ℕ) (origins : List (Option ℕ)) (t s : ℕ) → HasEntry first (origins_later n origins) t (Some s)
    → WasSent n first origins t s
was_sent n first origins t s h = (let w = was_origin n first origins t (Some s) h in by w.was w.came w.is)
  where
    by : (o : Option ℕ) → HasEntry first origins t o → Some s ≡ option_map (λ (s : ℕ). s + n) o
        → WasSent n first origins t s
    by None a e = absurd (cc)
    by (Some r) a e = record { slot = r; from = a; is = (let same : s ≡ r + n = cc in same) }

-- ---- a receiver of the log is one of the log with slots in front

order_later : (n : ℕ) (log : List (Option Message)) (r : Listener) → IsHeardInOrder log r.input
    → IsHeardInOrder (preceded n log) (later n r).input
order_later n log r order = record {
  beside = length-map r.input.origins (option_map (λ (s : ℕ). s + n)) ∙ order.beside;
  each = λ t origin entry a b. each t origin entry (was_origin n r.input.first r.input.origins t origin a) b;
  rising = λ t u a b p q less.
      let x = was_sent n r.input.first r.input.origins t a p in
      let y = was_sent n r.input.first r.input.origins u b q in
      omega (arith, x.is, y.is, order.rising t u x.slot y.slot x.from y.from less);
}
  where
    each : (t : ℕ) (origin : Option ℕ) (entry : Option Message) → WasOrigin n r.input.first r.input.origins t origin
        → HasEntry r.input.first r.input.heard t entry → IsOfItsOrigin (preceded n log) origin entry
    each t origin entry w b = by w.was w.came w.is
      where
        by : (was : Option ℕ) → HasEntry r.input.first r.input.origins t was → origin ≡ option_map (λ (s : ℕ). s + n) was
            → IsOfItsOrigin (preceded n log) origin entry
        by None came is = rw is (order.each t None entry came b)
        by (Some s) came is = rw is (sent_later n log s entry (order.each t (Some s) entry came b))

listens_later : (d m now n : ℕ) (log : List (Option Message)) (r : Listener) → ListensByOwnClock d m now log r
    → ListensByOwnClock d m (now + n) (preceded n log) (later n r)
listens_later d m now n log r listens = record {
  heard = record {
    order = order_later n log r listens.heard.order;
    between = λ t u a b p q near.
        let x = was_sent n r.input.first r.input.origins t a p in
        let y = was_sent n r.input.first r.input.origins u b q in
        omega (arith, x.is, y.is, listens.heard.between t u x.slot y.slot x.from y.from near);
    since = λ t s p near.
        let x = was_sent n r.input.first r.input.origins t s p in
        omega (arith, x.is, listens.heard.since t x.slot x.from near);
    past = λ t s p. (let x = was_sent n r.input.first r.input.origins t s p
        in omega (arith, x.is, listens.heard.past t x.slot x.from));
  };
  shows = listens.shows;
}

-- ---- the law

pub safe_by_own_clocks : ((form : TextForm) → LawfulPlansAreSafeByOwnClocksAs (text_kind form))
    → PlansOfARecordingAreSafe
safe_by_own_clocks own form d m now n plans log receivers lawful all =
    own form d m (now + n) plans (preceded n log) (map (later n) receivers)
    (lawful_for_all (text_kind form) d plans (preceded n log) lawful)
    (All-map (ListensByOwnClock d m (now + n) (preceded n log)) (later n) receivers
    (All-weaker (ListensByOwnClock d m now log) (λ r. ListensByOwnClock d m (now + n) (preceded n log) (later n r))
    (listens_later d m now n log) receivers all))

late_is_own : LateIsBySlowClock → ASlowClockIsAnOwnClock → (m k t : ℕ) (log : List (Option Message)) (r : Listener)
    → ListensTo k m t log r → ListensByOwnClock (m + k) m t log r
late_is_own late slow m k t log r listens =
    let by = late k m t log r.input listens.late listens.now in
    record { heard = slow k m t log r.input by.0 by.1; shows = listens.shows }

pub safe_recording : PassesExactlyByPlans → PlansOfARecordingAreSafe → LateIsBySlowClock → ASlowClockIsAnOwnClock
    → WhatPassesAsARecordingIsSafe
safe_recording law own late slow form m k log pos p =
    let w = (law form (m + k) (from_first_text (preceded (m + k) log)) (omega arith)).0 p in
    search (arith, late_is_own)
