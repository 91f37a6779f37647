use Rattle.std.proofs.Common.{arith, [], ◌≡◌, ◌+◌, ◌<◌, ℕ, List, ◌∷◌, length, reverse, take, ◌∙◌, subst, refl}
use Rattle.std.proofs.Common.{below_more, ◌≤◌, slice_index_or}
use Rattle.std.proofs.lemmas.List.{reverse-append, take_more}
use Rattle.std.proofs.lemmas.Option.{slice_get_read}
use Rattle.rds_world.specs.Event.{Event}
use Rattle.rds_world.specs.Replies.{IsFirstRefused, IsStepRefused, IsTaken}
use Rattle.rds_world.specs.SafeSlots.{OnlyWhatWasOnAirIsShown}
use Rattle.rds_world.specs.declared.reply.StepRefused.{StepRefused}
use Rattle.rds_world.specs.declared.world.Config.{Config}
use Rattle.rds_world.proofs.slots.play.Goals as goal

one_later : (xs : List Event) (i : ℕ) (x : Event) → i < length xs → x ≡ slice_index_or xs i x
    → x ∷ reverse (take i xs) ≡ reverse (take (i + 1) xs)
one_later xs i x h e = grind (arith, take_more xs i x h, reverse-append (take i xs) (x ∷ []))

first_refused : (p : Config) (count receivers : ℕ) (events : List Event) (i : ℕ) (e : Event) (why : StepRefused)
    → receivers ≤ 8 → count ≡ receivers → i < length events
    → e ≡ slice_index_or events i e → ((place : ℕ) → place < i → IsTaken p receivers events place)
    → IsStepRefused p count e (reverse (take i events)) why → IsFirstRefused p receivers events i why
first_refused p count receivers events i e why few same there is earlier refused = grind (arith, slice_get_read)

pub loop-i-preserved : goal.loop-i-preserved
loop-i-preserved c =
    let config = c.args.config in
    let i = c.loop-i.i in
    let events = c.args.events.now in
    let before = reverse (take i events) in
    let later = one_later events i c.index-events-i.result c.loop-i-test.true c.index-events-i.is in
    let step = c.in-Ok-step.ensures in
    let taken = rw c.loop-i.invariant.count at (step.refused config before c.loop-i.invariant.stands) in
    let at =
    slice_get_read events (length events) i c.index-events-i.result refl c.loop-i-test.true c.index-events-i.is in
    record {
      stands = rw later at (step.stands config before c.loop-i.invariant.stands);
      safe = subst (λ (xs : List Event). OnlyWhatWasOnAirIsShown config xs c.step.new.self.receivers) later
          (step.safe config before c.loop-i.invariant.stands);
      count = step.count ∙ c.loop-i.invariant.count;
      few = c.loop-i.invariant.few;
      good = below_more _ _ c.loop-i.invariant.good (rw at taken);
    }

pub returns-in-Err-Late-clause-refused : goal.returns-in-Err-Late-clause-refused
returns-in-Err-Late-clause-refused c = grind (arith, first_refused)

pub returns-in-Err-Wrong-clause-refused : goal.returns-in-Err-Wrong-clause-refused
returns-in-Err-Wrong-clause-refused c = grind (arith, first_refused)

pub returns-in-Err-WrongConfirmed-clause-refused : goal.returns-in-Err-WrongConfirmed-clause-refused
returns-in-Err-WrongConfirmed-clause-refused c = grind (arith, first_refused)
