use Rattle.std.proofs.Common.{ℕ, arith, length-drop, ◌∙◌}
use Rattle.std.proofs.lemmas.List.{length-take}
use Rattle.rds_io.proofs.Appending.{Appends-take}
use Rattle.rds_io.proofs.told.put.Goals as goal

pub loop-sent-preserved : goal.loop-sent-preserved
loop-sent-preserved g c = record {
  within = omega (arith, length-take {A = ℕ}, length-drop {A = ℕ}, c.in-Some.ensures);
  appended = Appends-take _ _ _ _ _ c.args.bytes.now c.loop-sent.invariant.appended c.in-Some.ensures.4;
  unfailed = c.in-Some.ensures.1 ∙ c.loop-sent.invariant.unfailed;
}
