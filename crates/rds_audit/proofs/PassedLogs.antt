-- Lemmas: a log passes exactly if it has plans, and then it is safe.
use Rattle.std.proofs.Common.{ℕ, List, [], ◌∷◌, length, inl, inr, arith, ◌+◌, ◌<◌, Option, ◌≡◌, ◌≢◌, ◌⊎◌, ◌≤◌, sym}
use Rattle.std.proofs.Common.{subst}
use Rattle.rds_encoder.specs.Plan.{Broadcast, Covers, HasNumber}
use Rattle.rds_encoder.specs.Spaced.{IsSpaced}
use Rattle.rds_receiver.specs.declared.fragment.Fragment.{Fragment}
use Rattle.rds_audit.specs.AuditLaws.{AreReignsOf, AreTheReigns, IsReignOf, SomeReign, IsSafeLog, PassesExactlyByPlans}
use Rattle.rds_audit.specs.Dense.{IsDense, HasPlans, TagsAreAfter}
use Rattle.rds_safety.specs.Lawful.{IsLawful, Kind, names, padded_texts, texts}
use Rattle.rds_safety.specs.Laws.{PlanLaws, LawfulPlansAreSafeAs, LawfulPlansAreSafeByOwnClocksAs}
use Rattle.rds_safety.specs.Marks.{Mark, marks, name_mark, text_mark, Nothing, Sends, Tagged}
use Rattle.rds_audit.specs.Reigns.{Reign, reigns, AlternateFlags, IsOfEachTwo, after_fragment, after_tags}
use Rattle.rds_audit.proofs.Planning.{are_reigns_of, passes, HoldsFragment, fragment_held, has_plan, has_plan_of_reigns}
use Rattle.rds_audit.proofs.Keeping.{after_later}
use Rattle.rds_audit.proofs.Planning.{plan_from}
use Rattle.rds_fields.specs.declared.message.Message.{Message}
use Rattle.rds_audit.specs.Forms.{text_kind}
use Rattle.rds_audit.specs.declared.text_form.TextForm.{TextForm}
use Rattle.rds_audit.specs.Rules.{LogPasses, CanBeBroadcast}
use Rattle.std.specs.List.{AllByRecursion}
use Rattle.rds_fields.specs.Tag.{PairFields}
use Rattle.rds_encoder.specs.Laws.{ANumberIsBelowTheLength}
use Rattle.rds_receiver.specs.Receipts.{name_fragment, text_fragment}
use Rattle.rds_safety.specs.FlagAlone.{HearsEach, HearsOneBetween, IsHeardFrom, IsNews, TurnsTheFlag}
use Rattle.rds_safety.specs.FlagLaws.{NamesByFlagAreOfTheirSource, TagsByFlagAreOfTheirText}
use Rattle.rds_safety.specs.FlagLaws.{TextsByFlagAreOfTheirSource}
use Rattle.rds_safety.specs.Late.{Input}
use Rattle.rds_audit.specs.FlagLaws.{HasNoPause, HearsEachReign, IsSafeByFlag, IsSoonAfter}
use Rattle.rds_audit.specs.declared.text_form.TextForm.TheVariants.{Plain}

-- ---- each broadcast with a sent fragment has a reign

module _ (laws : PlanLaws) (d : ℕ) (kind : Kind) (plan : List Broadcast) (spaced : IsSpaced d plan) where
  has_reign : (n k t : ℕ) (b : Broadcast) (p : Fragment) (rs : List Reign) → AreReignsOf d kind plan n rs
      → HasNumber plan k b → Covers b t → SomeReign (HoldsFragment t p) rs
      → SomeReign (IsReignOf d kind b) rs
  has_reign n k t b p [] a q c h = absurd h
  has_reign n k t b p (r ∷ older) a q c (inr h) = inr (has_reign a.0 k t b p older a.5 q c h)
  has_reign n k t b p (r ∷ older) a q c (inl h) = grind (arith)

-- the reigns are the broadcasts of each lawful and dense plan
pub the_reigns : PlanLaws → (d : ℕ) (kind : Kind) (plan : List Broadcast) (sent : List Mark) → IsLawful d kind plan sent
    → IsDense d plan sent → AreTheReigns d kind plan sent
the_reigns laws d kind plan sent law dense = record {
  each = are_reigns_of laws d kind plan sent law dense;
  all = λ k b t p q has s. has_reign laws d kind plan law.spaced (length plan) k t b p (reigns d sent)
      (are_reigns_of laws d kind plan sent law dense) q has.covers (fragment_held d sent t p s);
}

-- ---- a log passes exactly if it has plans, and then it is safe

no_tags_of_names : (log : List (Option Message)) → TagsAreAfter (marks name_mark log)
no_tags_of_names [] t pair h = absurd h
no_tags_of_names (x ∷ before) t pair (inl h) = absurd (grind (arith, h.1))
no_tags_of_names (x ∷ before) t pair (inr h) = after_later (name_mark x) _ t (no_tags_of_names before t pair h)

module _ (laws : PlanLaws) (form : TextForm) (d : ℕ) (log : List (Option Message)) where
  log_has_plans : 0 < d → LogPasses form d log → HasPlans form d log
  log_has_plans pos p =
      let text = has_plan laws.below d (text_kind form) (marks text_mark log) pos p.text in
      let name = has_plan laws.below d names (marks name_mark log) pos p.name in
      record {
        plans = record { text = text.plan; name = name.plan };
        lawful = record { text = text.lawful; name = name.lawful };
        dense = record { text = text.dense; name = name.dense };
        tagged = text.tagged;
      }

  plans_pass : HasPlans form d log → LogPasses form d log
  plans_pass h = search (arith, passes, no_tags_of_names)

pub passes_by_plans : PlanLaws → PassesExactlyByPlans
passes_by_plans laws form d log pos = (log_has_plans laws form d log pos, plans_pass laws form d log)

-- both laws of plans, for texts of this form
pub by_form : (P : Kind → Type 0) → P texts → P padded_texts → (form : TextForm) → P (text_kind form)
by_form P plain padded form = grind (arith)

-- a log that passes is safe
pub safe_log : PassesExactlyByPlans → ((form : TextForm) → LawfulPlansAreSafeAs (text_kind form))
    → ((form : TextForm) → LawfulPlansAreSafeByOwnClocksAs (text_kind form))
    → (form : TextForm) (m k : ℕ) (log : List (Option Message)) → 0 < m → LogPasses form (m + k) log
    → IsSafeLog form m k log
safe_log law safe own form m k log pos p =
    let w = (law form (m + k) log (omega arith)).0 p in
    search arith

-- ---- a log that passes, and whose flag turns from each reign to the next one, is safe for receivers with the flag bit
-- alone that hear a segment of each reign

-- the broadcast made of a reign
abbrev broadcast_of : Reign → List ℕ → Broadcast
broadcast_of r value = record { start = r.start; end = r.last; flag = r.flag; bytes = value }

-- a property of each two reigns is one of each two broadcasts of their plan
of_each_two : (P : Broadcast → Broadcast → Type 0) → ANumberIsBelowTheLength
    → (d : ℕ) (kind : Kind) (rs : List Reign) (a : AllByRecursion (CanBeBroadcast d kind) rs)
    → IsOfEachTwo (λ r next. (x y : List ℕ) → P (broadcast_of r x) (broadcast_of next y)) rs
    → (k : ℕ) (b c : Broadcast) → HasNumber (plan_from d kind rs a) k b → HasNumber (plan_from d kind rs a) (k + 1) c
    → P b c
of_each_two P below d kind [] a all k b c p q = absurd p
of_each_two P below d kind (r ∷ []) a all k b c (inl p) (inl q) = absurd (omega (arith, p.0, q.0))
of_each_two P below d kind (r ∷ []) a all k b c (inl p) (inr q) = absurd q
of_each_two P below d kind (r ∷ []) a all k b c (inr p) q = absurd p
of_each_two P below d kind (r ∷ e ∷ older) a all k b c (inl p) (inl q) = absurd (omega (arith, p.0, q.0))
of_each_two P below d kind (r ∷ e ∷ older) a all k b c (inl p) (inr q) = search (arith, plan_from)
of_each_two P below d kind (r ∷ e ∷ older) a all k b c (inr p) (inr q) =
    search (arith, of_each_two P below d kind (e ∷ older) a.1 all.1 k b c p q)
of_each_two P below d kind (r ∷ e ∷ older) a all k b c (inr (inr p)) (inl q) = grind (arith, plan_from)
of_each_two P below d kind (r ∷ e ∷ older) a all k b c (inr (inl p)) (inl q) = grind (arith)

-- one property follows from another
of_each_two_too : (P Q : Reign → Reign → Type 0) → ((r next : Reign) → P r next → Q r next) → (rs : List Reign)
    → IsOfEachTwo P rs → IsOfEachTwo Q rs
of_each_two_too P Q so [] all = tt
of_each_two_too P Q so (r ∷ []) all = tt
of_each_two_too P Q so (r ∷ e ∷ older) all = (so e r all.0, of_each_two_too P Q so (e ∷ older) all.1)

turns : ANumberIsBelowTheLength
    → (d : ℕ) (kind : Kind) (rs : List Reign) (a : AllByRecursion (CanBeBroadcast d kind) rs) → AlternateFlags rs
    → TurnsTheFlag (plan_from d kind rs a)
turns below d kind rs a alternate =
    of_each_two (λ b c. (b.flag ≢ c.flag) ⊎ ((b.bytes ≡ c.bytes) ⊎ (c.bytes ≡ []))) below d kind rs a
    (of_each_two_too (λ r next. r.flag ≢ next.flag) (λ r next. (x y : List ℕ) → (r.flag ≢ next.flag)
    ⊎ ((x ≡ y) ⊎ (y ≡ []))) (λ r next differ x y. inl differ) rs alternate)

hears_each : ANumberIsBelowTheLength
    → (d now : ℕ) (kind : Kind) (pick : Message → Option Fragment) (input : Input) (rs : List Reign)
    (a : AllByRecursion (CanBeBroadcast d kind) rs)
    → HearsEachReign pick now input rs → HearsEach IsNews pick (plan_from d kind rs a) now input
hears_each below d now kind pick input rs a each k b next t s p q news heard before begun =
    (of_each_two (λ b c. (t s : ℕ) → IsHeardFrom pick input t s → s < b.start → c.start ≤ now
    → HearsOneBetween pick input b.start (b.end + 1)) below d kind rs a
    (of_each_two_too (λ r next. (t s : ℕ) → IsHeardFrom pick input t s → s < r.start → next.start ≤ now
    → HearsOneBetween pick input r.start (r.last + 1))
    (λ r next. (x y : List ℕ) → (t s : ℕ) → IsHeardFrom pick input t s → s < r.start → next.start ≤ now
    → HearsOneBetween pick input r.start (r.last + 1))
    (λ r next so x y. so) rs each)
    k b next p q) t s heard before begun

-- a log that passes is safe for radios with the flag alone, if it turns the flag
pub safe_by_flag : PlanLaws → TextsByFlagAreOfTheirSource → NamesByFlagAreOfTheirSource → TagsByFlagAreOfTheirText
    → (d : ℕ) (log : List (Option Message)) → 0 < d → LogPasses Plain d log → IsSafeByFlag d log
safe_by_flag laws safe_texts safe_names safe_tags d log some passes =
    let text = has_plan_of_reigns laws.below d texts (marks text_mark log) some passes.text in
    let name = has_plan_of_reigns laws.below d names (marks name_mark log) some passes.name in
    let text_turns : AlternateFlags (reigns d (marks text_mark log)) → TurnsTheFlag text.0.plan =
    λ alternate. search (arith, turns) in
    let name_turns : AlternateFlags (reigns d (marks name_mark log)) → TurnsTheFlag name.0.plan =
    λ alternate. search (arith, turns) in
    let text_each : (now : ℕ) (input : Input) → HearsEachReign text_fragment now input (reigns d (marks text_mark log))
    → HearsEach IsNews text_fragment text.0.plan now input =
    λ now input each. subst (λ (plan : List Broadcast). HearsEach IsNews text_fragment plan now input) (sym text.1)
    (hears_each laws.below d now texts text_fragment input (reigns d (marks text_mark log)) passes.text.reigns each) in
    let name_each : (now : ℕ) (input : Input) → HearsEachReign name_fragment now input (reigns d (marks name_mark log))
    → HearsEach IsNews name_fragment name.0.plan now input =
    λ now input each. subst (λ (plan : List Broadcast). HearsEach IsNews name_fragment plan now input) (sym name.1)
    (hears_each laws.below d now names name_fragment input (reigns d (marks name_mark log)) passes.name.reigns each) in
    record {
      plans = record { text = text.0.plan; name = name.0.plan };
      lawful = record { text = text.0.lawful; name = name.0.lawful };
      dense = record { text = text.0.dense; name = name.0.dense };
      texts = λ alternate now r listens each. search arith;
      names = λ alternate now r listens each. search arith;
      tags = λ alternate now r listens each before. search arith;
    }

-- ---- without a pause the flag turns from each reign to the next one

after_fragment_alternate : (d slot : ℕ) (p : Fragment) (rs : List Reign) → IsSoonAfter d slot rs → AlternateFlags rs
    → AlternateFlags (after_fragment d slot p rs)
after_fragment_alternate d slot p rs soon all = grind (arith)

after_tags_alternate : (slot : ℕ) (pair : PairFields) (rs : List Reign) → AlternateFlags rs
    → AlternateFlags (after_tags slot pair rs)
after_tags_alternate slot pair rs all = grind (arith)

-- without a pause the flag turns from each reign to the next one
pub alternate : (d : ℕ) (sent : List Mark) → HasNoPause d sent → AlternateFlags (reigns d sent)
alternate d [] no_pause = tt
alternate d (Nothing ∷ before) no_pause = alternate d before no_pause
alternate d (Sends p ∷ before) no_pause = search (arith, alternate d before no_pause.1, after_fragment_alternate)
alternate d (Tagged pair ∷ before) no_pause = search (arith, alternate d before no_pause, after_tags_alternate)
