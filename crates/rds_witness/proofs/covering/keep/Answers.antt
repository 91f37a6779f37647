use Rattle.std.proofs.Common.{◌∷◌, arith, refl, Contains}
use Rattle.std.proofs.lemmas.List.Elements.{All-push}
use Rattle.rds_receiver.specs.Receipts.{tuned}
use Rattle.rds_witness.specs.Search.{IsChecked}
use Rattle.rds_witness.proofs.HeldParts.{contains_next, keeps_more, keeps_part}
use Rattle.rds_witness.proofs.covering.keep.Goals as goal

pub returns-then-is_receiver_part-clause-covers : goal.returns-then-is_receiver_part-clause-covers
returns-then-is_receiver_part-clause-covers c pi m n at its =
    keeps_part (tuned pi m) n (c.args.whole.now ∷ c.args.kept.now.items) c.args.one.now _ (0, omega arith, refl)
    (c.is_receiver_part.ensures c.if-is_receiver_part.true pi m) at

pub returns-then-is_receiver_part-2-clause-covers : goal.returns-then-is_receiver_part-2-clause-covers
returns-then-is_receiver_part-2-clause-covers c pi m n at its =
    let whole = c.args.whole.now in
    let kept = c.args.kept.now.items in
    let slice = c.as_slice.ensures in
    let count = c.len-place-end.ensures in
    let by = c.receiver_at.result.now in
    let there : Contains c.as_slice.result.now by = (c.loop-place.place, omega arith, c.receiver_at.ensures by) in
    keeps_part (tuned pi m) n (whole ∷ kept) c.args.one.now by (contains_next whole kept by (rw slice.value at there))
    (c.is_receiver_part-in-loop-place.ensures c.if-is_receiver_part-2.true pi m) at

pub returns-clause-covers : goal.returns-clause-covers
returns-clause-covers c pi m n at its =
    let whole = c.args.whole.now in
    let kept = c.args.kept.now.items in
    rw c.in_ok-push.ensures.items (keeps_more (tuned pi m) n (whole ∷ kept) c.args.one.now at its)

pub returns-clause-checked : goal.returns-clause-checked
returns-clause-checked c t log k all its =
    rw c.in_ok-push.ensures.items (All-push (IsChecked t log k) c.args.kept.now.items c.args.one.now
    all its)
