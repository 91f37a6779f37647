use Rattle.std.proofs.Common.{◌≡◌, arith, inl, inr}
use Rattle.std.proofs.lemmas.Bool.{cases_lt}
use Rattle.rds_witness.proofs.search.first_doubt.Goals as goal

pub loop-place-init : goal.loop-place-init
loop-place-init c t n log at seen checked k d less = absurd (omega (arith, less))

pub loop-place-preserved : goal.loop-place-preserved
loop-place-preserved c t n log at seen checked k d less =
    let place = c.loop-place.place in
    let one = c.receiver_at-one.result.now in
    let its = checked place one (omega arith) in
    let here = c.has_all.ensures c.if-not-has_all.false t log seen (rw (c.receiver_at-one.ensures one) at its) in
    elim (cases_lt k place) [
      | inl before ↦ c.loop-place.invariant t n log at seen checked k d before
      | inr from ↦ (let same : k ≡ place = omega arith in rw (same, c.receiver_at-one.ensures d) here)
    ]

pub returns : goal.returns
returns c none t n log at seen checked k d less = c.loop-place.invariant t n log at seen checked k d (omega arith)
