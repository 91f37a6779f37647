use Rattle.std.proofs.Common.{refl}
use Rattle.clap.proofs.OnLiterals.{clap_on_literals}
use Rattle.rds_cli.specs.CommandLine.{audit_app, decode_app, judging_app, late_app, log_app, log_readers_app, sim_app}
use Rattle.rds_cli.specs.CommandLine.{shown_app, slots_app, station_app, timed_app, witness_app}
use Rattle.rds_cli.proofs.laws.words_of_the_examples.Goals as goal

pub returns : goal.returns
unfolding clap_on_literals log_app shown_app decode_app late_app station_app sim_app slots_app timed_app judging_app audit_app
    log_readers_app witness_app
returns c = record {
  decode = record { taken = refl; ask = refl };
  decode_other = record { taken = refl; ask = refl };
  decode_dwell = record { taken = refl; ask = refl };
  decode_spelling = record { taken = refl; ask = refl };
  encode = record { taken = refl; ask = refl };
  sim = record { taken = refl; ask = refl };
  sim_tp = record { taken = refl; ask = refl };
  audit = record { taken = refl; ask = refl };
  audit_late = record { taken = refl; ask = refl };
  audit_running = record { taken = refl; ask = refl };
  audit_padded = record { taken = refl; ask = refl };
  audit_all = record { taken = refl; ask = refl };
  witness = record { taken = refl; ask = refl };
  witness_lose = record { taken = refl; ask = refl };
  witness_flag_alone = record { taken = refl; ask = refl };
  witness_without_spans = record { taken = refl; ask = refl };
  decode_rtplus = record { taken = refl; ask = refl };
  slots_rtplus = refl;
  decode_lose = refl;
  slots = record { taken = refl; ask = refl };
  slots_grain = record { taken = refl; ask = refl };
  slots_pi = record { taken = refl; ask = refl };
  large_grain = refl;
  sim_late = record { taken = refl; ask = refl };
  sim_of_eleven = record { taken = refl; ask = refl };
  decode_short = record { taken = refl; ask = refl };
  sim_short = record { taken = refl; ask = refl };
  decode_quiet = record { taken = refl; ask = refl };
  decode_json_notes = record { taken = refl; ask = refl };
  decode_confirm = record { taken = refl; ask = refl };
  decode_file = record { taken = refl; ask = refl };
  decode_standard_input = record { taken = refl; ask = refl };
  slots_file = record { taken = refl; ask = refl };
  two_files = refl;
  decode_why = record { taken = refl; ask = refl };
  decode_keep = record { taken = refl; ask = refl };
  long_keep = refl;
  audit_keep = refl;
  audit_why = refl;
  small_window = refl;
  large_window = refl;
  audit_confirm = refl;
  sim_flag_alone = record { taken = refl; ask = refl };
  sim_why = record { taken = refl; ask = refl };
  sim_confirm = record { taken = refl; ask = refl };
  sim_keep = record { taken = refl; ask = refl };
  sim_long_keep = refl;
  sim_quiet = record { taken = refl; ask = refl };
  slots_json_notes = record { taken = refl; ask = refl };
  help = refl;
  help_of_one = refl;
  version = refl;
  no_dwell = refl;
  no_programme = refl;
  no_subcommand = refl;
  too_late = refl;
  help_word = refl;
  help_word_of_one = refl;
  help_word_of_none = refl;
  large_type = refl;
}
