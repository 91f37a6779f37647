use Rattle.std.proofs.Common.{◌≡◌, ◌∙◌, ◌∷◌, ◌++◌, ◌+◌, ◌-◌, ◌<◌, ℕ, true, List, ap, arith, get_or, length, replicate}
use Rattle.std.proofs.Common.{rules, sym, take, option_copied}
use Rattle.rds_receiver.specs.Borrowed.{view_of}
use Rattle.rds_receiver.specs.Shown.{ShownView}
use Rattle.rds_view_lines.specs.KeptView.{view_kept}
use Rattle.rds_view_lines.specs.Part.{same_parts}
use Rattle.rds_script.specs.Inside.Compared.{airs_in, goes_on}
use Rattle.rds_script.specs.declared.airs.Period.{Period}
use Rattle.rds_script.proofs.Periods.{airs_to, either_assoc, either_none, none_seen, period_seen}
use Rattle.rds_script.proofs.airs.Airs.parts_back.Goals as goal
use Rattle.rds_script.proofs.airs.Airs.parts_back.Goals.{else-left-eq0-via-then-left-eq0+else-not-goes_on}
use Rattle.rds_script.proofs.airs.Airs.parts_back.Goals.{else-left-eq0-via-else-left-eq0}

-- the periods that are still to be searched: this one is the next
next : (items : List Period) (i : ℕ) (s : Period) → i < length items → s ≡ get_or items (length items - 1 - i) s
    → airs_in (take (length items - i) items) ≡ (view_kept s.air ∷ replicate s.more (view_kept s.air))
    ++ airs_in (take (length items - (i + 1)) items)
next items i s within at = grind (arith, airs_to)

pub returns-then-not-goes_on : goal.returns-then-not-goes_on
returns-then-not-goes_on c =
    let s = c.index-period.result.now in
    let long : length c.args.self.now.periods.items ≡ c.len.result = omega (
      arith,
      c.len.ensures,
      c.args.self.now.periods.ok.0,
    ) in
    let here = next c.args.self.now.periods.items c.loop-i.i s (omega arith) (rw long c.index-period.ensures) in
    let ends = none_seen c.args.lookback (view_of c.args.view) (view_kept s.air) (option_copied c.loop-i.text) in
    grind (arith, either_none, ends)

pub loop-i-preserved : goal.loop-i-preserved
loop-i-preserved c =
    let items = c.args.self.now.periods.items in
    let s = c.index-period.result.now in
    let view = view_of c.args.view in
    let text = option_copied c.loop-i.text in
    let within : c.loop-i.i < length items = omega (arith, c.loop-i-test.true, c.len-i-end.ensures) in
    let long : length items ≡ c.len.result = omega (arith, c.len.ensures, c.args.self.now.periods.ok.0) in
    let here = next items c.loop-i.i s within (rw long c.index-period.ensures) in
    let air : option_copied c.view-air.result.text ≡ (view_kept s.air).text = ap (λ (v : ShownView). v.text)
    c.view-air.ensures in
    let on : c.loop-i.left ≡ 0 → goes_on c.args.lookback text (view_kept s.air).text ≡ true = λ zero.
    elim c.else-left-eq0.branch [
      | else-left-eq0-via-then-left-eq0+else-not-goes_on w ↦ (
          let yes : w.goes_on.result ≡ true = search rules in
          sym (w.goes_on.ensures ∙ ap (goes_on c.args.lookback text) air) ∙ yes
          )
      | else-left-eq0-via-else-left-eq0 w ↦ absurd (omega (arith, w.if-left-eq0.false, zero))
    ] in
    let seen = period_seen c.args.lookback view (view_kept s.air) c.loop-i.left s.more text
    (airs_in (take (length items - (c.loop-i.i + 1)) items)) on in
    let same : c.same_parts.result ≡ same_parts view (view_kept s.air) = c.same_parts.ensures ∙ ap (same_parts view)
    c.view-air.ensures in
    let left : c.loop-i.left - 1 - s.more ≡ c.saturating_sub-left.result = omega (
      arith,
      c.saturating_sub-left.ensures,
      c.saturating_sub.ensures,
    ) in
    grind (arith, either_assoc)
