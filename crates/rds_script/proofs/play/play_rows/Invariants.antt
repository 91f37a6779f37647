use Rattle.std.proofs.Common.{◌≡◌, ◌+◌, ◌≤◌, [], List, length, ℕ, Option}
use Rattle.rds_io.specs.Told.{traffic}
use Rattle.rds_script.specs.declared.play.Playing.{Playing}
use Rattle.rds_script.specs.Inside.Player.{PlayedSoFar, PlayerStandsAt, ScriptStandsAt, nothing_played}
use Rattle.rds_script.specs.Rows.{Record}
use Rattle.rds_script.proofs.play.play_rows.Given as goal

abbrev pub invariant-loop-turn : goal.invariant-loop-turn
invariant-loop-turn g l = record {
  room : length l.lines + 17592 ≤ 65536;
  slot : l.player.slot ≡ l.turn;
  played : (how : Playing) (known : Option (List ℕ)) → PlayerStandsAt l.initial.player (nothing_played how)
      → ScriptStandsAt g.R.Read.remaining known l.initial.script []
      → (records : List Record) × ScriptStandsAt g.R.Read.remaining known l.script records × (length records ≡ l.turn)
      × PlayedSoFar how l.player records (traffic g.W.Write.contents g.W.TellingWrite.failures l.initial.writer
      l.writer) l.lines;
}
