use Rattle.std.proofs.Common.{◌≡◌, ◌∙◌, ap, arith, option_copied, refl, subst}
use Rattle.rds_fields.specs.declared.pair.Which.TheVariants.{One, Two}
use Rattle.rds_receiver.specs.Shown.{ShownView}
use Rattle.rds_receiver.specs.Tags.{tag_of}
use Rattle.rds_ffi.specs.Viewed.{IsTagOf}
use Rattle.rds_ffi.proofs.view.show_text.Goals as goal

-- views with the same parts
same_parts : (v w : ShownView) → v.text ≡ w.text → v.name ≡ w.name → v.item ≡ w.item → v.one ≡ w.one → v.two ≡ w.two
    → v ≡ w
same_parts v w text name item one two = grind (arith)

pub returns-then-is_kept-clause-shown : goal.returns-then-is_kept-clause-shown
returns-then-is_kept-clause-shown c t input s = (_, c.text-text.ensures.shown t input s, rw c.if-is_kept.true refl)

pub returns-clause-shown : goal.returns-clause-shown
returns-clause-shown c t input s =
    let text = c.text-text.ensures.shown t input s in
    let shown = option_copied c.text-text.result in (
      shown,
      text,
      rw c.if-is_kept.false (same_parts _ _ c.plain_text-view.ensures.same refl
          (c.plain_item-view.ensures.same ∙ c.item.ensures t input s shown text)
          (rw c.plain_text-view.ensures.same (c.plain_tag-view.ensures.same ∙ ap (tag_of One shown)
          (c.pair.ensures t input s)))
          (rw c.plain_text-view.ensures.same (c.plain_tag-view-2.ensures.same ∙ ap (tag_of Two shown)
          (c.pair-2.ensures t input s)))),
    )

pub returns-clause-tags : goal.returns-clause-tags
returns-clause-tags c not_kept t input s = record {
  one = subst (λ p. IsTagOf One p c.plain_tag-view.result) (c.pair.ensures t input s) c.plain_tag-view.ensures.of_pair;
  two = subst (λ p. IsTagOf Two p c.plain_tag-view-2.result) (c.pair-2.ensures t input s)
      c.plain_tag-view-2.ensures.of_pair;
}
