use Rattle.std.proofs.Common.{◌≡◌, ◌∙◌, ◌∷◌, ◌+◌, ◌-◌, ◌<◌, ◌≤◌, [], All, List, None, Option, ap, arith, inl, inr}
use Rattle.std.proofs.Common.{length, refl, suc, sym}
use Rattle.std.proofs.lemmas.Bool.{cases_lt}
use Rattle.std.proofs.lemmas.List.Elements.{All-nil}
use Rattle.rds_block.specs.declared.group.Group.{Group}
use Rattle.rds_receiver.specs.Receipts.{tuned}
use Rattle.rds_receiver.specs.ReceiverAt.{ReceiverAt, TakesSlot}
use Rattle.rds_witness.specs.Covered.{CoversInput, IsAt, IsCovered}
use Rattle.rds_witness.specs.Lost.{got, got-more}
use Rattle.rds_witness.specs.Search.{IsChecked}
use Rattle.rds_witness.specs.declared.burst.Burst.{Burst}
use Rattle.rds_witness.specs.declared.covering.Lossy.{Lossy}
use Rattle.rds_witness.proofs.HeldParts.{at_first, at_next, by_first, covered_first, covers_itself, covers_next}
use Rattle.rds_witness.proofs.Rulings.{got_before, got_long, got_together, heard_next, lost_next}
use Rattle.rds_witness.proofs.sweep.Sweep.next.Goals as goal

pub returns-clause-stands : goal.returns-clause-stands
returns-clause-stands c pi m n log is old =
    let t = tuned pi m in
    let group = c.args.group.now in
    let was = c.args.self.now.whole in
    let whole = c.take_slot.new.one in
    let step = c.take_slot.ensures in
    let begins = c.lose_first.new.begins in
    let loses : TakesSlot was.receiver begins.receiver None = c.lose_first.ensures.stands in
    let after : ReceiverAt t whole.receiver (got [] log (n + 1)) =
    rw (got-more [] log n, ← is) (step.stands t (got [] log n) old.whole) in
    let its : IsAt t (n + 1) whole =
    record { input = got [] log (n + 1); long = got_long [] log (n + 1); stands = after } in
    let was_at : IsAt t n was = record { input = got [] log n; long = got_long [] log n; stands = old.whole } in
    let none : (items : List Lossy) → items ≡ [] → All (IsAt t (n + 1)) items =
    λ items nothing. rw nothing (All-nil (IsAt t (n + 1))) in
    let old_losing = c.args.self.now.losing.items in
    let were_hearing : c.as_slice.result.now ≡ c.args.self.now.hearing.items = c.as_slice.ensures.value in
    let were_losing : c.as_slice-2.result.now ≡ old_losing = c.as_slice-2.ensures.value in
    let still_losing : c.as_slice-3.result.now ≡ old_losing = c.as_slice-3.ensures.value in
    let go_on = c.in_ok-keep_after_slot.ensures.covers pi m n (rw were_hearing old.hearing_at)
    (at_first t (n + 1) whole _ its (none _ c.clear.ensures.items)) in
    let begin = c.in_ok-keep_after_slot-2.ensures.covers pi m n (rw were_losing old.losing_at) go_on.at in
    let one_more = c.in_ok-keep.ensures.covers pi m (n + 1) (at_first t (n + 1) whole _ its
    (none _ c.clear-2.ensures.items)) (at_next pi m n was begins None loses was_at) in
    let lose_more = c.in_ok-keep_after_slot-3.ensures.covers pi m n (rw still_losing old.losing_at) one_more.at in
    let hearing = c.keep_after_slot-2.new.kept.items in
    let losing = c.keep_after_slot-3.new.kept.items in
    let end_hearing : c.replace-losing.new.dest.items ≡ hearing = ap (λ v. v.items) c.replace-losing.ensures.after in
    let end_losing : c.replace.new.dest.items ≡ losing = ap (λ v. v.items) c.replace.ensures.after in
    let lost_first : (input : List (Option Group)) → length input ≡ n → CoversInput t input was
    → IsCovered t (whole ∷ losing) (None ∷ input) =
    λ input long covers. lose_more.stays (None ∷ input) (one_more.more (None ∷ input) (omega (arith, long))
    (covers_next pi m was begins None input loses covers)) in
    let lost : (input : List (Option Group)) (burst : Burst) → input ≡ got (burst ∷ []) log n → burst.first ≤ n
    → n ≤ burst.last → IsCovered t (was ∷ old_losing) input
    → IsCovered t (whole ∷ c.replace.new.dest.items) (got (burst ∷ []) log (n + 1)) =
    λ input burst same from to covered.
    let long : length input ≡ n = ap length same ∙ got_long (burst ∷ []) log n in
    rw (end_losing, ← lost_next burst log n from to, ← same)
    (by_first t was old_losing input (IsCovered t (whole ∷ losing) (None ∷ input)) covered (lost_first input long)
    (λ others. lose_more.more input long (rw still_losing others))) in
    let heard : (burst : Burst) (set : List Lossy) → burst.last < n → IsCovered t (was ∷ set) (got (burst ∷ []) log n)
    → (IsCovered t set (got (burst ∷ []) log n) → IsCovered t (whole ∷ hearing) (group ∷ got (burst ∷ []) log n))
    → IsCovered t (whole ∷ c.replace-losing.new.dest.items) (got (burst ∷ []) log (n + 1)) =
    λ burst set behind covered others.
    let input = got (burst ∷ []) log n in
    rw (end_hearing, ← heard_next burst log n group behind is)
    (by_first t was set input (IsCovered t (whole ∷ hearing) (group ∷ input)) covered
    (λ covers. covered_first t whole hearing (group ∷ input)
    (covers_next pi m was whole group input step.stands covers)) others) in
    record {
      whole = after;
      losing_at = rw end_losing (λ k d less. lose_more.at (suc k) d (omega arith));
      hearing_at = rw end_hearing (λ k d less. begin.at (suc k) d (omega arith));
      lose = λ burst order behind. elim (cases_lt burst.first n) [
        | inl before ↦ (
            let shorter : Burst = record { first = burst.first; last = n - 1 } in
            lost (got (shorter ∷ []) log n) burst (got_together shorter burst log n refl (omega arith) (omega arith))
            (omega arith) (omega arith) (old.lose shorter (omega arith) (omega arith)))
        | inr from ↦ lost (got [] log n) burst (sym (got_before burst log n from)) (omega arith) (omega arith)
            (covered_first t was old_losing (got [] log n) (covers_itself pi m (got [] log n) was old.whole))
      ];
      hear = λ burst order behind. elim (cases_lt (burst.last + 1) n) [
        | inl before ↦ heard burst c.args.self.now.hearing.items (omega arith) (old.hear burst order before)
            (λ others. begin.stays _ (go_on.more (got (burst ∷ []) log n) (got_long (burst ∷ []) log n)
            (rw were_hearing others)))
        | inr from ↦ heard burst old_losing (omega arith) (old.lose burst order (omega arith))
            (λ others. begin.more (got (burst ∷ []) log n) (got_long (burst ∷ []) log n) (rw were_losing others))
      ];
    }

pub returns-clause-checked : goal.returns-clause-checked
returns-clause-checked c pi m n k log old losing hearing =
    let t = tuned pi m in
    let none : (items : List Lossy) → items ≡ [] → All (IsChecked t log k) items =
    λ items nothing. rw nothing (All-nil (IsChecked t log k)) in
    let were_hearing = c.as_slice.ensures.value in
    let were_losing = c.as_slice-2.ensures.value in
    let still_losing = c.as_slice-3.ensures.value in
    let go_on = c.in_ok-keep_after_slot.ensures.checked pi m n k log (rw were_hearing old.hearing_at)
    (rw were_hearing hearing) (none _ c.clear.ensures.items) in
    let begin = c.in_ok-keep_after_slot-2.ensures.checked pi m n k log (rw were_losing old.losing_at)
    (rw were_losing losing) go_on in
    let one_more = c.in_ok-keep.ensures.checked t log k (none _ c.clear-2.ensures.items)
    (λ alike. let changed = c.lose_first.ensures.changed in absurd (cc)) in
    let lose_more = c.in_ok-keep_after_slot-3.ensures.checked pi m n k log (rw still_losing old.losing_at)
    (rw still_losing losing) one_more in
    grind (arith)
