use Rattle.std.proofs.Common.{arith, inr, length, refl, ℕ}
use Rattle.std.proofs.lemmas.Grind.{common_steps}
use Rattle.std.proofs.lemmas.List.{drop-replicate}
use Rattle.rds_ffi.proofs.view.plain_text.Goals as goal

pub returns-clause-plain : goal.returns-clause-plain
returns-clause-plain c = record {
  flag = inr refl;
  none = λ e. absurd (omega (arith, e));
  within = c.requires c.in-Some.text c.in-Some.is;
  zeros = rw (← drop-replicate {X = ℕ} (length c.in-Some.text.now) 64 0) (grind (arith, common_steps));
}
