use Rattle.std.proofs.Common.{arith, length, refl, ℕ}
use Rattle.std.proofs.lemmas.Grind.{common_steps}
use Rattle.std.proofs.lemmas.List.{drop-replicate}
use Rattle.rds_ffi.proofs.label.label_of.Goals as goal

pub returns : goal.returns
returns c = record {
  count = refl;
  bytes = grind (arith, common_steps);
  zeros = rw (← drop-replicate {X = ℕ} (length c.args.name.now) 31 0) (grind (arith, common_steps));
  ended = c.requires;
}
