use Rattle.std.proofs.Common.{◌++◌, ◌∙◌, ℕ, [], List, ap, sym}
use Rattle.std.proofs.lemmas.List.{append-nil}
use Rattle.rds_receiver.specs.Receipts.{tuned}
use Rattle.rds_witness.specs.Lost.{got-more}
use Rattle.rds_witness.proofs.Mixes.{adds_slot, stays_none, no_mixes, stands_more}
use Rattle.rds_witness.proofs.lose_log.play_slot.Goals as goal

pub returns-then-not-changed-clause-stands : goal.returns-then-not-changed-clause-stands
returns-then-not-changed-clause-stands c =
    stands_more _ _ _ _ _ _ c.requires.got (c.slot_blocks-changed.ensures.stands _ _ c.requires.stands)

pub returns-in_err-extend_from_slice-clause-stands : goal.returns-in_err-extend_from_slice-clause-stands
returns-in_err-extend_from_slice-clause-stands c =
    stands_more _ _ _ _ _ _ c.requires.got (c.slot_blocks-changed.ensures.stands _ _ c.requires.stands)

pub returns-clause-stands : goal.returns-clause-stands
returns-clause-stands c =
    stands_more _ _ _ _ _ _ c.requires.got (c.slot_blocks-changed.ensures.stands _ _ c.requires.stands)

pub returns-then-not-changed-clause-lines : goal.returns-then-not-changed-clause-lines
returns-then-not-changed-clause-lines c =
    let candidate = c.args.candidate.now in
    let t = tuned candidate.pi candidate.dwell in
    let next = got-more candidate.lost.now candidate.log.now candidate.slot in
    let same = c.slot_blocks-changed.ensures.same c.if-not-changed.true in
    adds_slot t candidate.ahead _ _ candidate.slot _ [] _ (no_mixes t candidate.ahead _ _ [] candidate.slot
    (stays_none t candidate.ahead _ _ candidate.slot (λ view is. rw (next, ← c.requires.got)
    (same view t _ c.requires.stands is)))) (sym (append-nil c.args.lines.now.items))

pub push_mixes_of-requires-clause-around : goal.push_mixes_of-requires-clause-around
push_mixes_of-requires-clause-around c =
    let candidate = c.args.candidate.now in
    let t = tuned candidate.pi candidate.dwell in
    let stands = stands_more t _ _ _ _ _ c.requires.got (c.slot_blocks-changed.ensures.stands _ _ c.requires.stands) in
    record {
      inside = c.requires.inside;
      was = c.view-before.ensures t _ c.requires.stands;
      is = c.view-after.ensures t _ stands;
    }

pub returns-clause-lines : goal.returns-clause-lines
returns-clause-lines c =
    let candidate = c.args.candidate.now in
    let t = tuned candidate.pi candidate.dwell in
    adds_slot t candidate.ahead candidate.log.now candidate.lost.now candidate.slot c.args.lines.now.items
    c.push_mixes_of.new.lines c.extend_from_slice.new.self.items (rw c.requires.words at c.push_mixes_of.ensures)
    (c.in_ok-extend_from_slice.ensures.items ∙ ap (λ (l : List ℕ). c.args.lines.now.items ++ l) c.bytes.ensures)
