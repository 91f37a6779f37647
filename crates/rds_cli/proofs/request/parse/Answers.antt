use Rattle.std.proofs.Common.{arith, ◌≡◌, ◌∙◌, Option, None, Some, ap, inl, inr, map, not, subst, sym, option_and_then}
use Rattle.std.proofs.Common.{option_map}
use Rattle.std.specs.Box.{box_value}
use Rattle.std.proofs.lemmas.Bool.{not-true}
use Rattle.clap.specs.Words.{App, HasKind, fault_of, found_of, is_simple, is_simple_and_free, kind_of, rows_of}
use Rattle.clap.specs.Words.{Kinds, subcommand_of}
use Rattle.clap.specs.declared.parser.matches.ArgMatches.TheViews.{out-ArgMatches, out-SubCommand}
use Rattle.rds_cli.specs.CommandLine.{audit_app, asked_of, decode_app, is_shown, judging_app, late_app, log_app}
use Rattle.rds_cli.specs.CommandLine.{log_readers_app, shown_app, sim_app, slots_app, station_app, timed_app, witness_app}
use Rattle.rds_cli.proofs.ErrorKinds.{answered_by}
use Rattle.rds_cli.proofs.request.parse.Goals as goal

pub returns-clause-kinds : goal.returns-clause-kinds
unfolding log_app shown_app decode_app late_app station_app sim_app slots_app timed_app judging_app audit_app log_readers_app
    witness_app
returns-clause-kinds c =
    sym (ap (λ (a : App). fault_of a (map (λ w. w.now) c.args.words.now)) c.in_ok-whole.ensures.app)
    ∙ c.in-Ok.ensures.kinds (ap is_simple_and_free c.in_ok-whole.ensures.app)

pub returns-in-Err-clause-kinds : goal.returns-in-Err-clause-kinds
unfolding log_app shown_app decode_app late_app station_app sim_app slots_app timed_app judging_app audit_app log_readers_app
    witness_app
returns-in-Err-clause-kinds c =
    subst (λ (a : App). HasKind (fault_of a (map (λ w. w.now) c.args.words.now)) c.in-Err.error)
    c.in_ok-whole.ensures.app (c.in-Err.ensures.kinds (ap is_simple_and_free c.in_ok-whole.ensures.app))

-- an error without a kind means that memory ran out
pub returns-in-Err-clause-err : goal.returns-in-Err-clause-err
returns-in-Err-clause-err c none =
    elim (subst (λ (kinds : Kinds). HasKind kinds c.in-Err.error) none (returns-in-Err-clause-kinds c)) [
      | inl memory ↦ memory
      | inr kind ↦ absurd kind
    ]

-- two parts of what is there
both_parts : {A B C : Type 0} (f : A → B) (g : A → C) (o : Option A) (x : B) (y : C) → Some x ≡ option_map f o
    → Some y ≡ option_map (λ (p : B × C). p.1) (option_map {U = B × C} (λ a. (f a, g a)) o)
    → option_map {U = B × C} (λ a. (f a, g a)) o ≡ Some (x, y)
both_parts f g o x y p q = grind (arith)

-- no part of what is not there
no_part : {A B C : Type 0} (f : A → B) (g : A → C) (o : Option A) → None ≡ option_map f o → option_map g o ≡ None
no_part f g o p = grind (arith)

pub returns-in_default-clause-ok : goal.returns-in_default-clause-ok
unfolding log_app shown_app decode_app late_app station_app sim_app slots_app timed_app judging_app audit_app log_readers_app
    witness_app
returns-in_default-clause-ok c =
    let found = (out-ArgMatches c.in-Ok.matches).subcommand in
    let nothing = no_part (λ b. (out-SubCommand (box_value b)).name.now)
    (λ b. ((out-SubCommand (box_value b)).name.now, rows_of (found_of (out-SubCommand (box_value b)).matches)))
    found c.in_default.ensures.name in
    let (_, rows) = c.in-Ok.ensures.matches (ap is_simple c.in_ok-whole.ensures.app) in
    ap (option_and_then asked_of) (sym nothing ∙ rows
    ∙ ap (λ (a : App). subcommand_of a (map (λ w. w.now) c.args.words.now)) c.in_ok-whole.ensures.app)

pub returns-in_default-clause-kinds : goal.returns-in_default-clause-kinds
unfolding log_app shown_app decode_app late_app station_app sim_app slots_app timed_app judging_app audit_app log_readers_app
    witness_app
returns-in_default-clause-kinds c =
    sym (ap (λ (a : App). fault_of a (map (λ w. w.now) c.args.words.now)) c.in_ok-whole.ensures.app)
    ∙ c.in-Ok.ensures.kinds (ap is_simple_and_free c.in_ok-whole.ensures.app)

pub returns-in_default-clause-taken : goal.returns-in_default-clause-taken
returns-in_default-clause-taken c = returns-in_default-clause-kinds c

pub returns-clause-ok : goal.returns-clause-ok
unfolding log_app shown_app decode_app late_app station_app sim_app slots_app timed_app judging_app audit_app log_readers_app
    witness_app
returns-clause-ok c =
    let found = (out-ArgMatches c.in-Ok.matches).subcommand in
    let there = both_parts (λ b. (out-SubCommand (box_value b)).name.now)
    (λ b. rows_of (found_of (out-SubCommand (box_value b)).matches)) found _ _ c.in-Some.ensures.name
    c.in-Some.ensures.rows in
    let (_, rows) = c.in-Ok.ensures.matches (ap is_simple c.in_ok-whole.ensures.app) in
    c.request_of.ensures ∙ ap (option_and_then asked_of) (sym there ∙ rows
    ∙ ap (λ (a : App). subcommand_of a (map (λ w. w.now) c.args.words.now)) c.in_ok-whole.ensures.app)

pub returns-clause-taken : goal.returns-clause-taken
returns-clause-taken c = returns-clause-kinds c

pub returns-in-Err-clause-help : goal.returns-in-Err-clause-help
returns-in-Err-clause-help c asks = elim (returns-in-Err-clause-kinds c) [
  | inl memory ↦ inl memory
  | inr kind ↦ inr (answered_by is_shown (map (λ w. w.now) c.args.words.now) (kind_of c.in-Err.error) asks kind)
]

pub returns-in-Err-clause-refused : goal.returns-in-Err-clause-refused
returns-in-Err-clause-refused c refused = elim (returns-in-Err-clause-kinds c) [
  | inl memory ↦ inl memory
  | inr kind ↦ inr (not-true (is_shown (kind_of c.in-Err.error))
      (answered_by (λ k. not (is_shown k)) (map (λ w. w.now) c.args.words.now) (kind_of c.in-Err.error) refused kind))
]
