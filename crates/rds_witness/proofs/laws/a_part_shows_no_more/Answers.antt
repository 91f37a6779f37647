use Rattle.std.proofs.Common.{arith}
use Rattle.rds_receiver.specs.Receipts.{name_fragment, text_fragment}
use Rattle.rds_receiver.specs.Run.{cells_of, run_at}
use Rattle.rds_witness.proofs.HeldParts.{part_cells, part_heard, whole_name, whole_text, tag_part_heard}
use Rattle.rds_witness.proofs.laws.a_part_shows_no_more.Goals as goal

pub returns-clause-stays : goal.returns-clause-stays
returns-clause-stays c = part_heard

pub returns-clause-tags_stay : goal.returns-clause-tags_stay
returns-clause-tags_stay c = tag_part_heard

pub returns-clause-texts : goal.returns-clause-texts
returns-clause-texts c m one other x part shown =
    grind (arith, whole_text, cells_of, run_at, text_fragment, part_cells)

pub returns-clause-names : goal.returns-clause-names
returns-clause-names c m one other x part shown =
    grind (arith, whole_name, cells_of, run_at, name_fragment, part_cells)
