use Rattle.std.proofs.Common.{arith, ◌∙◌, sym}
use Rattle.rds_receiver.specs.Borrowed.{view_of}
use Rattle.rds_script.proofs.Periods.{one_view, parts_same}
use Rattle.rds_script.proofs.airs.is_same.Goals as goal
use Rattle.rds_script.proofs.airs.is_same.Goals.{else-same-via-then-same+then-same-2+then-same-3+else-same-4}
use Rattle.rds_script.proofs.airs.is_same.Goals.{else-same-via-then-same+then-same-2+else-same-3}
use Rattle.rds_script.proofs.airs.is_same.Goals.{else-same-via-then-same+else-same-2, else-same-via-else-same}
use Rattle.rds_view_lines.specs.NoChange.{same_item}

pub returns-then-same-4 : goal.returns-then-same-4
returns-then-same-4 c = (
  λ same. one_view _ _ _ c.same_parts-same.ensures c.if-same.true c.if-same-2.true c.if-same-3.true c.if-same-4.true
      (sym c.eq.ensures ∙ same),
  λ same. grind (arith, same_item),
)

pub returns : goal.returns
returns c =
    let all = parts_same (view_of c.args.view) (view_of c.args.other) c.same_parts-same.result c.same_parts-same.ensures
    in (
      λ never. absurd (cc),
      λ same. elim c.else-same.branch [
        | else-same-via-then-same+then-same-2+then-same-3+else-same-4 w ↦ (let e = all same in cc w.if-same-4.false)
        | else-same-via-then-same+then-same-2+else-same-3 w ↦ (let e = all same in cc w.if-same-3.false)
        | else-same-via-then-same+else-same-2 w ↦ (let e = all same in cc w.if-same-2.false)
        | else-same-via-else-same w ↦ (let e = all same in cc w.if-same.false)
      ],
    )
