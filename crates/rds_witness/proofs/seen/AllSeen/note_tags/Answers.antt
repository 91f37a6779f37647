use Rattle.std.proofs.Common.{◌≡◌, ◌∙◌, ◌+◌, All, Some, ap, arith, length}
use Rattle.rds_fields.specs.Tag.{PairFields}
use Rattle.rds_witness.specs.Search.{IsOfRun}
use Rattle.rds_witness.proofs.seen.AllSeen.note_tags.Goals as goal

pub loop-place-preserved : goal.loop-place-preserved
loop-place-preserved c = record {
  pairs = c.note_with.ensures.pairs ∙ c.loop-place.invariant.pairs;
  seen = λ t log inside stands seen pairs.
      let n = c.args.slot + 1 in
      let pair = c.pair_at-pair.result in
      let same : c.as_slice.result.now ≡ c.args.self.now.pairs.items = c.as_slice.ensures.value
      ∙ ap (λ v. v.items) c.loop-place.invariant.pairs in
      let now : All (IsOfRun t log n) c.as_slice.result.now = rw same pairs in
      let here = now c.loop-place.place pair (omega (arith, c.len-place-end.ensures, ap length same)) in
      let its : IsOfRun t log n pair = rw (c.pair_at-pair.ensures pair) at here in
      c.in_ok-note_with.ensures.seen t log inside stands (λ held is. rw (some_same is) at its)
      (c.loop-place.invariant.seen t log inside stands seen pairs);
}
  where
    some_same : {a b : PairFields} → Some a ≡ Some b → a ≡ b
    some_same is = cc

pub returns : goal.returns
returns c t log inside stands seen pairs = grind (arith)
