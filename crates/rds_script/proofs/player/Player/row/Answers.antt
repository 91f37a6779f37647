use Rattle.std.proofs.Common.{◌≡◌, ◌⊎◌, ◌<◌, ◌∙◌, ◌+◌, ℕ, List, Option, Some, ap, arith, length, refl, rules, subst}
use Rattle.std.proofs.Common.{sym, true}
use Rattle.std.proofs.lemmas.Result.{err_from_is_err_and}
use Rattle.csv.specs.Records.{fields_of}
use Rattle.rds_world.specs.Event.{Event}
use Rattle.rds_script.specs.Inside.Player.{HasWatched, IsFirstOrAlone, Played}
use Rattle.rds_script.specs.Inside.Watched.{views_kept}
use Rattle.rds_script.specs.Outcomes.{Outcome}
use Rattle.rds_script.specs.Rows.{IsAllowed}
use Rattle.rds_script.specs.declared.player.Player.{Player}
use Rattle.rds_script.specs.declared.watched.Watched.{Watched}
use Rattle.rds_script.proofs.PlayedRows.{IsReady, as_many_rows, is_ready, kept_for, names_receivers, not_taken}
use Rattle.rds_script.proofs.PlayedRows.{plays_on}
use Rattle.rds_script.proofs.PlayedRows.{refused_row}
use Rattle.rds_script.proofs.player.Player.row.Goals as goal

pub returns-then-not-allows-clause-refused : goal.returns-then-not-allows-clause-refused
returns-then-not-allows-clause-refused c played s =
    names_receivers played.config played.form (fields_of c.args.row.now) played.records c.read_event.new.event
    c.in_default.ensures.says (λ allowed.
    let no = c.if-not-allows.true in
    let asked : c.len-receivers.result ≡ length c.read_event.new.event.receptions = search rules in
    let yes_allowed = c.allows.ensures.1 (rw (s.form_is, asked) allowed) in
    cc)

-- there is no memory: for a world, or for what was on air
no_memory : (played : Played) (events : List Event) (outcomes : List Outcome) (watched : Option Watched)
    → length played.records ≡ length events
    → HasWatched (kept_for played) played.config played.receivers watched events outcomes → IsFirstOrAlone watched
    → (length played.records ≡ 0) ⊎ (played.config.kind.is_flag_alone ≡ true)
no_memory played events outcomes watched counted none first = grind arith

pub returns-in_err-begin-clause-refused : goal.returns-in_err-begin-clause-refused
returns-in_err-begin-clause-refused c played s = grind (arith, as_many_rows, err_from_is_err_and, no_memory)

pub returns-in-Ok-clause-stands : goal.returns-in-Ok-clause-stands
returns-in-Ok-clause-stands c played s =
    let (w, same, begun) = c.in_ok-begin.ensures.begins in
    let found = sym (ap (λ (p : Player). p.watched) same) ∙ c.in-Some.is in
    let is : w ≡ c.in-Some.watched = (cc) in
    let form = ap (λ (p : Player). p.form) same in
    let slot = ap (λ (p : Player). p.slot) same in
    let allowed : IsAllowed c.args.self.now.form c.len-receivers.result = search rules in
    let r = subst (IsReady played s.events s.outcomes c.len-receivers.result) is
    (is_ready c.args.self.now.watched w played c.len-receivers.result s.events s.outcomes s.allowed (rw s.form_is
    at allowed) s.rows s.are s.watched (rw (s.form_is, s.config_is) at begun)) in
    let all = plays_on c.play.result c.args.self.now
    record c.begin.new.self { watched = Some c.play.new.self; slot = c.begin.new.self.slot + 1; wait = c.play.new.wait }
    played s r.receivers (views_kept c.in-Some.watched) c.play.new.self (fields_of c.args.row.now)
    c.read_event.new.event c.args.lines.now c.play.new.lines form (ap (λ (p : Player). p.config) same)
    (ap (λ n. n + 1) slot) refl
    r.allowed (c.play.ensures.keep ∙ r.keep) r.rows c.in_default.ensures.says r.same
    (c.play.ensures.taken played.config r.receivers s.events r.stands)
    (c.play.ensures.stands played.config r.receivers s.events r.stands)
    (rw (form, s.form_is, slot, r.keep) at (c.play.ensures.outcome played.config r.receivers s.events r.stands)) in
    rw c.in-Ok.is at all

pub returns-in-Err-play-clause-refused : goal.returns-in-Err-play-clause-refused
returns-in-Err-play-clause-refused c played s =
    let (w, same, begun) = c.in_ok-begin.ensures.begins in
    let found = sym (ap (λ (p : Player). p.watched) same) ∙ c.in-Some.is in
    let is : w ≡ c.in-Some.watched = (cc) in
    let allowed : IsAllowed c.args.self.now.form c.len-receivers.result = search rules in
    let asked : c.len-receivers.result ≡ length c.read_event.new.event.receptions = search rules in
    let r = subst (IsReady played s.events s.outcomes c.len-receivers.result) is
    (is_ready c.args.self.now.watched w played c.len-receivers.result s.events s.outcomes s.allowed (rw s.form_is
    at allowed) s.rows s.are s.watched (rw (s.form_is, s.config_is) at begun)) in
    refused_row c.text_is_read_one_way.ensures played.form played.config r.receivers (fields_of c.args.row.now)
    played.records c.read_event.new.event s.events r.rows c.in_default.ensures.says
    (subst (λ (n : ℕ). (0 < length played.records) ⊎ (r.receivers ≡ n)) asked r.how)
    (not_taken played.config r.receivers c.read_event.new.event s.events c.in-Err-play.why
    (c.in-Err-play.ensures.refused played.config r.receivers s.events r.stands))
