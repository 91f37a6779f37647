use Rattle.std.proofs.Common.{◌≤◌, [], arith, sym}
use Rattle.std.proofs.lemmas.List.{get_or_past}
use Rattle.rds_ffi.specs.Names.{type_names}
use Rattle.rds_ffi.proofs.label.type_of.Goals as goal

pub returns-in-64-to-255-clause-name : goal.returns-in-64-to-255-clause-name
returns-in-64-to-255-clause-name c =
    let past : 64 ≤ c.args.content_type = omega (arith, c.in-64-to-255) in
    sym (get_or_past type_names c.args.content_type [] past)
