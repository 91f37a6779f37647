use Rattle.std.proofs.Common.{[], ◌+◌, subst, sym}
use Rattle.rds_witness.specs.Borrowed.{thing_of}
use Rattle.rds_witness.specs.Lost.{got}
use Rattle.rds_witness.specs.Search.{IsSeenBefore}
use Rattle.rds_witness.specs.declared.thing.Thing as declared
use Rattle.rds_witness.proofs.seen.Seen.has.Goals as goal

pub returns-in-Text : goal.returns-in-Text
returns-in-Text c holds t log n its before =
    let seen = c.args.self.now in
    let is = c.view-view.ensures t (got [] log (seen.slot + 1)) its.stands in
    rw c.in-Text.is
    record { slot = seen.slot; view = _; before = before; is = is; shows = c.is_text.ensures.0 holds }

pub returns-in-Name : goal.returns-in-Name
returns-in-Name c holds t log n its before =
    let seen = c.args.self.now in
    let is = c.view-view.ensures t (got [] log (seen.slot + 1)) its.stands in
    rw c.in-Name.is
    record { slot = seen.slot; view = _; before = before; is = is; shows = c.is_text-in-Name.ensures.0 holds }

pub returns-in-Tag : goal.returns-in-Tag
returns-in-Tag c holds t log n its before =
    let seen = c.args.self.now in
    let (pair, x, which, held, shown, cut) = c.is_of_pair.ensures holds in
    subst (λ (g : declared.Thing). IsSeenBefore t log n (thing_of g)) (sym c.in-Tag.is)
    record {
      slot = seen.slot;
      before = before;
      view = _;
      is = c.view-view.ensures t
          (got [] log (seen.slot + 1)) its.stands;
      text = x;
      shown = shown;
      pair = pair;
      of_run = its.pair pair held;
      which = which;
      cut = cut;
    }
