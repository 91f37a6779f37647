use Rattle.std.proofs.Common.{arith, ◌∙◌, ◌+◌, ap, subst, sym, ℕ, option_map}
use Rattle.std.proofs.lemmas.Slice.Eq.{bytes_eq-Decides}
use Rattle.rds_receiver.specs.Borrowed.{view_of}
use Rattle.rds_witness.specs.Borrowed.{thing_of}
use Rattle.rds_witness.specs.Firsts.{IsFirstSoFar, key_of, slot_at}
use Rattle.rds_witness.proofs.Mixes.{with_kind, without_kind}
use Rattle.rds_witness.proofs.firsts.Firsts.note_kind.Goals as goal

pub returns-in_default : goal.returns-in_default
returns-in_default c t log is all thing = grind (arith, option_map, thing_of, without_kind, view_of)

pub returns : goal.returns
returns c t log is all thing =
    let view = view_of c.args.view in
    let shown = thing_of c.in-Some.thing in
    let same = bytes_eq-Decides (key_of shown) (key_of thing) in
    let kind = c.in-Some.ensures.kind in
    let first = slot_at c.args.self.now (key_of thing) in
    let had = subst (λ (k : ℕ). IsFirstSoFar t log c.args.slot view k thing first) (sym kind) (all thing) in
    let has = with_kind t log c.args.slot view is shown c.in-Some.ensures.has thing _ same.0 same.1 first had in
    subst (λ (k : ℕ). IsFirstSoFar t log c.args.slot view (k + 1) thing (slot_at c.note_thing.new.self (key_of thing)))
    kind (subst (IsFirstSoFar t log c.args.slot view _ thing) (sym (c.in_ok-note_thing.ensures (key_of thing))) has)
