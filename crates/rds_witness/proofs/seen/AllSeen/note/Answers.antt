use Rattle.std.proofs.Common.{[], ◌∙◌, ◌+◌, All, arith, refl, subst, sym}
use Rattle.rds_witness.specs.Lost.{got}
use Rattle.rds_witness.specs.Search.{IsOfRun, IsSeen}
use Rattle.rds_witness.proofs.seen.AllSeen.note.Goals as goal

pub returns : goal.returns
returns c t log inside stands seen pairs =
    let n = c.args.slot + 1 in
    let with_pair = c.in_ok-keep_pair.ensures.pairs t log n (λ held is. record {
      slot = c.args.slot;
      before = omega arith;
      held = sym (c.pair.ensures t (got [] log n) stands) ∙ is;
      same = refl;
    }) pairs in
    let seen_one = c.in_ok-note_with.ensures.seen t log inside stands (λ held is. absurd (cc))
    (subst (λ v. All (IsSeen t log) v.items) (sym c.keep_pair.ensures.seen) seen) in
    let pairs_one = subst (λ v. All (IsOfRun t log n) v.items) (sym c.note_with.ensures.pairs) with_pair in
    let all = c.in_ok-note_tags.ensures t log inside stands seen_one pairs_one in
    (all.0, all.1, (_, c.view-view.ensures t (got [] log n) stands))
