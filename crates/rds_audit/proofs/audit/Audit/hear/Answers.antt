use Rattle.std.proofs.Common.{arith, ◌≡◌, ◌∙◌, Some, ap, inl, inr, refl, sym}
use Rattle.std.specs.Prelude.{unwrap_or}
use Rattle.rds_fields.specs.declared.message.Message.TheVariants.{Tags}
use Rattle.rds_receiver.specs.Receipts.{name_of, text_of}
use Rattle.rds_audit.specs.Listing.{none_broken}
use Rattle.rds_audit.proofs.ListingSteps.{names_listed, nothing_listed, text_open, texts_listed}
use Rattle.rds_audit.proofs.SpanSteps.{announcement_counts, name_counts, tags_complete, tags_count, tags_silent}
use Rattle.rds_audit.proofs.SpanSteps.{text_counts}
use Rattle.rds_audit.proofs.audit.Audit.hear.Goals as goal

pub returns-in-Text-clause-lists : goal.returns-in-Text-clause-lists
returns-in-Text-clause-lists c =
    let is : c.args.message ≡ text_of c.new.result = c.in-Text.is ∙ sym (ap text_of c.new.ensures.place) in
    rw is (texts_listed c.args.self.now _ _ (Some (text_of c.new.result))
    (unwrap_or c.take_text.result none_broken) refl (λ judged h. text_counts _ judged _ _ _) c.take_text.ensures)

pub returns-in-Name-clause-lists : goal.returns-in-Name-clause-lists
returns-in-Name-clause-lists c =
    let is : c.args.message ≡ name_of c.new-in-Name.result = search arith in
    rw is (names_listed c.args.self.now _ (Some (name_of c.new-in-Name.result))
    (unwrap_or c.take.result none_broken) refl (λ judged h. name_counts _ judged _ _ _) c.take.ensures)

pub returns-then-awaits_text-clause-lists : goal.returns-then-awaits_text-clause-lists
returns-then-awaits_text-clause-lists c =
    let early = c.awaits_text.ensures.early c.if-awaits_text.true in
    rw c.in-Tags.is
    (nothing_listed _ _ none_broken refl
    (λ judged h. tags_silent _ judged c.in-Tags.pair early.0
    (sym (text_open _ judged _ h) ∙ early.1)))

pub returns-else-awaits_text-clause-lists : goal.returns-else-awaits_text-clause-lists
returns-else-awaits_text-clause-lists c =
    rw c.in-Tags.is (texts_listed c.args.self.now _ _ (Some (Tags c.in-Tags.pair))
    c.take_text_tags.result refl
    (λ judged h. elim (c.awaits_text.ensures.begun c.if-awaits_text.false) [
      | inl complete ↦ tags_complete _ judged c.in-Tags.pair complete
      | inr open_now ↦ tags_count _ judged c.in-Tags.pair (sym (text_open _ judged _ h) ∙ open_now)
    ]) c.take_text_tags.ensures)

pub returns-in-Announce-clause-lists : goal.returns-in-Announce-clause-lists
returns-in-Announce-clause-lists c =
    grind (arith, nothing_listed, announcement_counts, c.in-Announce.is)
