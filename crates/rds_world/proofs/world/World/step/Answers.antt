use Rattle.std.proofs.Common.{◌≡◌, ◌++◌, ◌∷◌, ℕ, List, length, take, drop, sym, ◌∙◌, subst, refl, arith}
use Rattle.std.specs.Prelude.{slice_index_or}
use Rattle.std.proofs.Math.Seq.{take-append_seam}
use Rattle.rds_world.specs.declared.event.Reception.{Reception}
use Rattle.rds_world.specs.declared.event.Reception.TheVariants.{Lost}
use Rattle.rds_world.specs.Due.{IsDue, IsDueToAll, last_named}
use Rattle.rds_world.specs.Event.{Event}
use Rattle.rds_safety.specs.Late.{Input}
use Rattle.rds_world.specs.Slots.{commanded, entries, input_of, log, received}
use Rattle.rds_world.specs.WorldAt.{AllHaveHeard, AreLastSent, HavePasts, HaveReaches, WorldAt}
use Rattle.rds_world.specs.State.{WorldState, distance}
use Rattle.rds_world.specs.Wrong.{IsFitToAll}
use Rattle.rds_world.proofs.Received.{one_more_sent, by_own, stepped}
use Rattle.rds_world.proofs.world.World.step.Goals as goal

pub returns-clause-stands : goal.returns-clause-stands
returns-clause-stands c config events st =
    let at = rw (← c.self.view_is) at st in
    let own = by_own config _ events at in
    let world = c.self.inside in
    let set = world.config in
    let late = set.late in
    let apart = distance set in
    let before = entries events in
    let e : Event = c.args.event.now in
    let now : Event = record {
      command = c.event.inside.command;
      free = c.event.inside.free;
      receptions = c.event.inside.receptions.items;
    } in
    let same : now ≡ e = c.event.view_is in
    let due : IsDueToAll late e events = c.in-Ok.ensures.due events own.reaches in
    let due_now : IsDueToAll late now events = subst (λ (x : Event). IsDueToAll late x events) (sym same) due in
    let done = c.obey-reply.ensures.stands before own.encoder in
    let ticked = c.tick-sent.ensures.stands set.head apart (commanded now.command before) done in
    let sent = c.tick-sent.ensures.sent set.head apart (commanded now.command before) done in
    let all_sent = log apart (now ∷ events) in
    let kept : AreLastSent set all_sent c.push.new.self.items = grind (arith, one_more_sent) in
    let told = sym c.as_slice-receptions.ensures.value in
    let due_told = subst (λ (xs : List Reception). (i : ℕ)
    → IsDue late (length events) (last_named i events) (slice_index_or xs i Lost)) told due_now in
    let heard = c.hand_out_first-self-inside.ensures.heard (length events) all_sent (λ i. input_of apart i events)
    (λ i. last_named i events) kept due_told own.receivers in
    let window = set.kind.window in
    let kept_wrong : HavePasts window events c.as_slice.result.now = search arith in
    let fit : IsFitToAll window now events =
    subst (λ (x : Event). IsFitToAll window x events) (sym same) (c.in_ok-check_wrong.ensures.fit events kept_wrong) in
    let noted = c.note_wrong.new.pasts in
    let rest = drop (length noted) world.pasts.items in
    let as_many : length noted ≡ world.pasts.len = c.note_wrong.ensures.count ∙ c.as_mut_slice.ensures.len in
    let all_noted : noted ≡ take world.pasts.len (noted ++ rest) = grind (arith, take-append_seam) in
    let pasts : HavePasts window (now ∷ events) (take world.pasts.len (noted ++ rest)) = grind (arith) in
    let old : WorldState = record {
      config = set;
      encoder = world.encoder;
      receivers = take world.count world.receivers;
      changed = world.changes.each;
      reaches = take world.count world.reaches;
      pasts = world.pasts.items;
      sent = world.recent.items;
    } in
    let new : WorldState = record {
      config = set;
      encoder = c.tick-sent.new.self;
      receivers = take world.count c.hand_out_first-self-inside.new.receivers;
      changed = c.hand_out_first-self-inside.result.each;
      reaches = take world.count c.in-Ok.reaches;
      pasts = take world.pasts.len (noted ++ rest);
      sent = c.push.new.self.items;
    } in
    let inputs : ℕ → Input = λ i. received (slice_index_or now.receptions i Lost) (length events) all_sent
    (input_of apart i events) in
    let all : AllHaveHeard set inputs new.receivers =
    rw c.as_slice-receptions.ensures.value at heard in
    let many : length (take world.count world.reaches) ≡ world.count = grind (arith) in
    let reaches : HaveReaches late (now ∷ events) new.reaches = grind (arith) in
    let unchanged =
    rw c.as_slice-receptions.ensures.value at (c.hand_out_first-self-inside.ensures.same (length events) all_sent
    (λ i. input_of apart i events) (λ i. last_named i events) kept due_told own.receivers) in
    subst (λ (x : Event). WorldAt config new (x ∷ events)) same
    (stepped config old new events now at refl c.obey-reply.ensures.value due_now fit ticked all reaches pasts kept
    unchanged)

pub returns-clause-safe : goal.returns-clause-safe
returns-clause-safe c config events st = c.only_what_was_on_air_is_shown.ensures config _ _
    (returns-clause-stands c config events st)
