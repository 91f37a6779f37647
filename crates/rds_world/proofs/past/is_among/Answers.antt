use Rattle.std.proofs.Common.{◌≡◌, Some, true, arith, ◌∙◌, ap, sym, option_copied, slice_get}
use Rattle.std.proofs.lemmas.Option.{get_or_from_slice_get, slice_get_read}
use Rattle.rds_fields.specs.contracts.message.MessagePartialEq.TheImpl.{eq-value}
use Rattle.rds_fields.specs.declared.message.Message.{Message}
use Rattle.rds_world.proofs.Received.{same_by_test}
use Rattle.rds_world.proofs.past.is_among.Goals as goal

pub returns-in-Some-Some : goal.returns-in-Some-Some
returns-in-Some-Some c =
    let message = c.args.message.now in
    let test : eq-value.it c.in-Some-Some.before message ≡ true = sym c.eq.ensures ∙ c.if-eq.true in
    let at : slice_get c.args.wrong.now.items c.loop-i.i ≡ Some (Some message) =
    sym c.get.ensures ∙ ap option_copied c.in-Some-Some.is ∙ ap Some c.in-Some-Some.field-0-is
    ∙ ap (λ (x : Message). Some (Some x)) (same_by_test c.in-Some-Some.before message test) in
    grind (arith, same_by_test, get_or_from_slice_get)

pub returns : goal.returns
returns c = grind (arith, slice_get_read)
