use Rattle.std.proofs.Common.{◌≡◌, ◌∙◌, ℕ, Bool, List, Option, None, ap, false, if◌then◌else◌, refl, true}
use Rattle.rds_fields.specs.Tag.{PairFields}
use Rattle.rds_receiver.specs.Counts.{keeping}
use Rattle.rds_receiver.specs.Shown.{ShownView, view_with}
use Rattle.rds_ffi.specs.Viewed.{name_viewed, viewed}
use Rattle.rds_ffi.specs.declared.view.RdsrtView.{RdsrtView}
use Rattle.rds_ffi.proofs.view.show.Goals as goal

-- first the name and then the text
both : (old named : ShownView) (keeps_text keeps_name : Bool) (text name : Option (List ℕ)) (pair : Option PairFields)
    → named ≡ record old { name = if keeps_name then old.name else name }
    → keeping record { text = keeps_text; name = true } named (view_with text None pair)
    ≡ keeping record { text = keeps_text; name = keeps_name } old (view_with text name pair)
both old named true keeps_name text name pair e =
    ap (λ v. keeping record { text = true; name = true } v (view_with text None pair)) e
both old named false keeps_name text name pair e =
    ap (λ v. keeping record { text = false; name = true } v (view_with text None pair)) e

-- the view with another name
named_view : (old named : RdsrtView) (name : Option (List ℕ)) → named ≡ record old { name = named.name }
    → name_viewed named.name ≡ name → viewed named ≡ record (viewed old) { name = name }
named_view old named name others is =
    ap viewed others ∙ ap (λ (x : Option (List ℕ)). record (viewed old) { name = x }) is

pub returns-clause-shown : goal.returns-clause-shown
returns-clause-shown c t input s =
    let (text, is_text, shown) = c.show_text.ensures.shown t input s in
    let (name, is_name, named) = c.show_name.ensures.shown t input s in (
      view_with text name _,
      record { text = is_text; name = is_name; item = refl; one = refl; two = refl },
      shown ∙ both (viewed c.args.view.now) _ c.args.kept.text c.args.kept.name text name _
          (named_view c.args.view.now _ _ c.show_name.ensures.others named),
    )
