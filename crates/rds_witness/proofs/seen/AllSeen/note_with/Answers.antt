use Rattle.std.proofs.Common.{◌≡◌, ◌++◌, ◌∷◌, ◌∙◌, [], ap}
use Rattle.std.proofs.lemmas.List.Elements.{All-push}
use Rattle.rds_witness.specs.Search.{IsSeen}
use Rattle.rds_witness.specs.declared.seen.Seen.{Seen}
use Rattle.rds_witness.proofs.seen.AllSeen.note_with.Goals as goal

pub returns-clause-seen : goal.returns-clause-seen
returns-clause-seen c t log inside stands of_run all =
    let more : Seen = record { slot = c.args.slot; receiver = c.args.whole.now; pair = c.args.pair } in
    let its : IsSeen t log more = record {
      inside = inside;
      stands = stands;
      pair = of_run;
    } in
    let items : c.push.new.self.items ≡ c.args.self.now.seen.items ++ more ∷ [] =
    c.in_ok-push.ensures.items ∙ ap (λ seen. seen.items ++ more ∷ []) c.is_new.ensures.seen in
    rw items (All-push (IsSeen t log) c.args.self.now.seen.items more all its)
