use Rattle.circular_buffer.proofs.Places.{slice_get-set_other}
use Rattle.std.proofs.Common.{◌≡◌, Some, length, List, ap, arith, inl, inr, slice_get}
use Rattle.std.proofs.lemmas.Bool.{cases_lt}
use Rattle.std.proofs.lemmas.Option.{slice_get_read}
use Rattle.rds_world.specs.declared.event.Reception.{Reception}
use Rattle.rds_world.specs.Due.{last_named}
use Rattle.rds_world.proofs.Received.{due_past, named_past, same_reception, of_first, written}
use Rattle.rds_world.proofs.reach.reaches_after.Goals as goal

pub returns-in_default-clause-due : goal.returns-in_default-clause-due
returns-in_default-clause-due c before have = grind (arith, slice_get_read, same_reception)

pub loop-i-preserved : goal.loop-i-preserved
loop-i-preserved c =
    let i = c.loop-i.i in
    let late = c.args.late in
    let new = c.in-Some.reach in
    let told : c.as_slice-receptions.result.now ≡ c.args.event.now.receptions = search arith in
    let many = ap (λ (xs : List Reception). length xs) told in
    let same = same_reception c.args.event.now c.as_slice-receptions.result.now i c.index-receptions-i.result told
    c.loop-i-test.true c.index-receptions-i.is in
    let at : slice_get c.args.reaches.now i ≡ Some c.index-reaches-i.result = search (arith, slice_get_read) in
    record {
      due = λ before have k less. elim (cases_lt k i) [
        | inl earlier ↦ c.loop-i.invariant.due before have k earlier
        | inr later ↦ (
            let here : k ≡ i = omega (arith, less, later) in
            let exact = c.after.ensures.due (length before) (last_named i before) (have.each i c.index-reaches-i.result
            at) in
            search arith
            )
      ];
      done = λ before have k reach less e. elim (cases_lt k i) [
        | inl earlier ↦ search (arith, slice_get-set_other)
        | inr later ↦ (
            let here : k ≡ i = omega arith in
            let is_new : new ≡ reach = search (arith, written) in
            let old = have.each i c.index-reaches-i.result at in
            let next = rw c.in-Some.is at (c.after.ensures.reach (length before) (last_named i before)
            (named_past i before) old) in
            search arith
            )
      ];
    }

pub returns-clause-due : goal.returns-clause-due
returns-clause-due c before have i =
    let told : c.as_slice-receptions.result.now ≡ c.args.event.now.receptions = search arith in
    grind (arith, due_past c.args.late c.args.event.now before i, c.loop-i.invariant.due before have i)

pub returns-clause-reaches : goal.returns-clause-reaches
returns-clause-reaches c before have = record {
  each = λ i reach e.
      let told : c.as_slice-receptions.result.now ≡ c.args.event.now.receptions = search arith in
      let first = of_first (length c.args.reaches.now) c.loop-i.next i reach e in
      grind (arith, c.loop-i.invariant.done before have i reach);
}
