use Rattle.std.proofs.Common.{rules, ◌≡◌, ◌<◌, ◌≤◌, ℕ, List, Option, Some, None, ap, arith, sym, ◌∙◌, min, length}
use Rattle.std.proofs.Common.{refl, take}
use Rattle.std.proofs.lemmas.Bool.Decides.{nat_tests}
use Rattle.std.proofs.lemmas.List.{take_min}
use Rattle.rds_arrivals.specs.Stamps.{stamp_in}
use Rattle.rds_arrivals.specs.declared.stamp.Stamp.{Stamp}
use Rattle.rds_ffi.specs.Times.{time_in}
use Rattle.rds_ffi.proofs.arrivals.rdsrt_time_in.Goals as goal

no_time : (text : List ℕ) → stamp_in (take 41 text) ≡ None → time_in text ≡ None
no_time text is = rw is refl

too_long : (text : List ℕ) (stamp : Stamp) → stamp_in (take 41 text) ≡ Some stamp → 40 < stamp.end → time_in text ≡ None
too_long text stamp is long = grind (arith, nat_tests)

is_time : (text : List ℕ) (stamp : Stamp) → stamp_in (take 41 text) ≡ Some stamp → stamp.end ≤ 40
    → time_in text ≡ Some stamp
is_time text stamp is short = grind (arith, nat_tests)

-- the bytes that are read are the first 41
cut_at : (text : List ℕ) (count : ℕ) (found : Option Stamp) → count ≡ min 41 (length text)
    → found ≡ stamp_in (take count text) → stamp_in (take 41 text) ≡ found
cut_at text count found is value = sym (ap stamp_in (ap (λ n. take n text) is ∙ take_min 41 text)) ∙ sym value

pub returns-in_default-clause-none : goal.returns-in_default-clause-none
returns-in_default-clause-none c =
    let cut = cut_at c.args.text.now c.min-count.result c.stamp_in.result c.min-count.ensures c.stamp_in.ensures.value in
    (λ other. rw (no_time c.args.text.now (cut ∙ c.in_default.is)) (search rules))

pub returns-then-stamp-gt-LONGEST_TIME-clause-none : goal.returns-then-stamp-gt-LONGEST_TIME-clause-none
returns-then-stamp-gt-LONGEST_TIME-clause-none c =
    let cut = cut_at c.args.text.now c.min-count.result c.stamp_in.result c.min-count.ensures c.stamp_in.ensures.value in
    let long = too_long c.args.text.now c.in-Some.stamp (cut ∙ c.in-Some.is) c.if-stamp-gt-LONGEST_TIME.true in
    (λ other. rw long (search rules))

pub returns-clause-found : goal.returns-clause-found
returns-clause-found c =
    let cut = cut_at c.args.text.now c.min-count.result c.stamp_in.result c.min-count.ensures c.stamp_in.ensures.value in
    let is = is_time c.args.text.now c.in-Some.stamp (cut ∙ c.in-Some.is) c.if-stamp-gt-LONGEST_TIME.false in
    (λ ok. rw is refl)

pub returns-clause-there : goal.returns-clause-there
returns-clause-there c =
    let cut = cut_at c.args.text.now c.min-count.result c.stamp_in.result c.min-count.ensures c.stamp_in.ensures.value in
    let is = is_time c.args.text.now c.in-Some.stamp (cut ∙ c.in-Some.is) c.if-stamp-gt-LONGEST_TIME.false in
    (λ ok. rw is (search rules))
