use Rattle.std.proofs.Common.{◌≡◌, ℕ, ◌/◌, ◌%◌, inl, inr, List, sym, ◌∙◌, arith}
use Rattle.std.proofs.lemmas.Bool.{cases_lt}
use Rattle.std.proofs.lemmas.List.{length-take-le}
use Rattle.std.proofs.lemmas.Nat.{and_mask}
use Rattle.rds_assembly.specs.Held.{held_cells}
use Rattle.rds_assembly.specs.Whole.{IsWholeName}
use Rattle.rds_assembly.proofs.HeldLemmas.{AreSetBelow, byte_set, spelled}
use Rattle.rds_assembly.proofs.type_name.TypeNameService.length.Goals as goal

-- the two lowest bits
both_set : (mask : ℕ) → mask % 4 ≡ 3 → AreSetBelow mask 8
both_set mask e i h = elim (cases_lt i 4) [
  | inl l ↦ (let at : i / 4 ≡ 0 = omega arith in rw at (omega arith))
  | inr l ↦ (let at : i / 4 ≡ 1 = omega arith in rw at (omega arith))
]

both_there : (mask : ℕ) (bytes x : List ℕ) → IsWholeName (held_cells mask bytes) x → mask % 4 ≡ 3
both_there mask bytes x w = grind (arith, byte_set)

pub returns-then-mask-eq3-clause-whole : goal.returns-then-mask-eq3-clause-whole
returns-then-mask-eq3-clause-whole c =
    let long = c.told-_bytes in
    record {
      eight = length-take-le 8 c.args._bytes.now (omega arith);
      spelled = spelled c.args.mask c.args._bytes.now 8 (omega arith) long
          (both_set c.args.mask (sym (and_mask c.args.mask 2) ∙ c.if-mask-eq3.true));
    }

pub returns-else-mask-eq3-clause-none : goal.returns-else-mask-eq3-clause-none
returns-else-mask-eq3-clause-none c x w = c.if-mask-eq3.false (and_mask c.args.mask 2 ∙ both_there c.args.mask
    c.args._bytes.now x w)
