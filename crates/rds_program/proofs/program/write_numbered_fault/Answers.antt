use Rattle.std.proofs.Common.{◌≡◌, ◌++◌, ℕ, List, ap, codes, decimal}
use Rattle.std.proofs.lemmas.List.{append_assoc}
use Rattle.rds_program.specs.Run.{mark_of}
use Rattle.rds_program.proofs.program.write_numbered_fault.Goals as goal

pub returns : goal.returns
returns g c =
    let line : c.bytes.result.now ≡ mark_of c.args.task ++ (c.args.text.now ++ decimal c.args.number) ++ codes "\n" =
    rw (
      c.bytes.ensures,
      c.push-3.ensures,
      c.push_number.ensures.decimal,
      c.push-2.ensures,
      c.push.ensures,
      c.new-line.ensures,
      c.mark.ensures.mark,
    ) (ap (λ (x : List ℕ). x ++ codes "\n")
    (append_assoc (mark_of c.args.task) c.args.text.now (decimal c.args.number))) in
    rw line at c.write_line.ensures
