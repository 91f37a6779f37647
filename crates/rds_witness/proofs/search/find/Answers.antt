use Rattle.std.proofs.Common.{◌≡◌, ◌+◌, ◌<◌, ◌∙◌, [], List, Option, arith, inl, inr, length, sym}
use Rattle.std.proofs.lemmas.Bool.{cases_lt}
use Rattle.rds_block.specs.declared.group.Group.{Group}
use Rattle.rds_receiver.specs.Receipts.{tuned}
use Rattle.rds_witness.specs.Covered.{CoversInput, IsInputPart}
use Rattle.rds_witness.specs.Lost.{got}
use Rattle.rds_witness.specs.Mix.{until}
use Rattle.rds_witness.specs.Search.{ShowOnlySeen, ShowsOnlySeen}
use Rattle.rds_witness.specs.declared.covering.Lossy.{Lossy}
use Rattle.rds_witness.proofs.HeldParts.{same_part, input_through}
use Rattle.rds_witness.proofs.Rulings.{got_long, only_later, until_later, no_mix, now_before_until}
use Rattle.std.proofs.lemmas.List.Elements.{All-nil}
use Rattle.rds_witness.proofs.search.find.Goals as goal

pub loop-slot-init : goal.loop-slot-init
loop-slot-init c = grind (arith, tuned, until)

pub loop-slot-preserved : goal.loop-slot-preserved
loop-slot-preserved c =
    let pi = c.args.pi in
    let m = c.args.dwell in
    let t = tuned pi m in
    let log = c.args.log.now in
    let n = c.loop-slot.slot in
    let before = c.loop-slot.invariant in
    let stands = c.in_ok-next.ensures.stands pi m n log c.received.ensures before.stands in
    let whole = c.next.new.self.whole in
    let slots = c.slots_until-slots.result in
    let is : slots ≡ until m log n = c.slots_until-slots.ensures.value in
    let soon : n < slots = rw is (now_before_until m log n stands.whole.holds.display.lasts c.loop-slot-test.true) in
    let at_slots : (items : List Lossy) → ShowOnlySeen t log (until m log n) items → ShowOnlySeen t log slots items =
    λ items only. rw is only in
    let checked = c.in_ok-next.ensures.checked pi m n slots log before.stands (at_slots _ before.losing)
    (at_slots _ before.hearing) in
    let show = c.doubt_of.ensures c.in_default.is t (n + 1) log stands c.in_ok-all.ensures checked.0 checked.1 in
    let later : (items : List Lossy) → ShowOnlySeen t log slots items → ShowOnlySeen t log (until m log (n + 1)) items =
    λ items only k d less. only_later t log slots (until m log (n + 1)) _ (omega (arith, until_later m log n, is))
    (only k d less) in
    let same_whole : (input : List (Option Group)) → length input ≡ n + 1 → CoversInput t input whole
    → IsInputPart t input (got [] log (n + 1)) = λ input long covers.
    let same = same_part pi m whole.receiver covers.other (got [] log (n + 1)) covers.stands stands.whole
    (sym covers.part.long ∙ long ∙ sym (got_long [] log (n + 1))) in
    input_through t whole.receiver input covers.other (got [] log (n + 1)) covers.stands covers.part same in
    record {
      stands = stands;
      losing = later _ show.0;
      hearing = later _ show.1;
      none = λ burst slot thing less mix. elim (cases_lt slot n) [
        | inl before_slot ↦ before.none burst slot thing before_slot mix
        | inr from ↦ (
            let here : n ≡ slot = omega arith in
            rw here at (no_mix t log n slots is soon c.in_ok-all.ensures.1 whole c.next.new.self.hearing.items
            same_whole stands.hear show.1 burst thing) mix)
      ];
    }

pub returns : goal.returns
returns c burst slot thing less mix = c.loop-slot.invariant.none burst slot thing (omega arith) mix
