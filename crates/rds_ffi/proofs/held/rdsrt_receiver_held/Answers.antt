use Rattle.std.proofs.Common.{ap, ◌∙◌, arith, bit_and}
use Rattle.std.specs.Int.{bit_at}
use Rattle.rds_ffi.specs.declared.held.RdsrtSegments.{RdsrtSegments}
use Rattle.rds_ffi.proofs.HeldSegments.{of_name, of_run}
use Rattle.rds_ffi.proofs.held.rdsrt_receiver_held.Goals as goal

pub returns-clause-held : goal.returns-clause-held
returns-clause-held c t input s =
    let text = rw c.text_age.ensures at c.held_in-text.ensures in
    let name = rw c.name_age.ensures at c.held_in-name.ensures in
    record {
      text = of_run 16 _ _ _ _ _ c.args.receiver.now.display.text _ (omega arith)
          (λ a h. ap (λ (r : RdsrtSegments). bit_at r.held a) text) (ap (λ (r : RdsrtSegments). r.age) text)
          s.holds.display.text;
      name = of_run 2 _ _ _ _ _ c.args.receiver.now.display.name _ (omega arith)
          (λ a h. ap (λ (r : RdsrtSegments). bit_at (bit_and r.held 3) a) name
          ∙ of_name c.args.receiver.now.display.name.mask a h)
          (ap (λ (r : RdsrtSegments). r.age) name) s.holds.display.name;
    }
