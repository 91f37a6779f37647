use Rattle.std.proofs.Common.{arith}
use Rattle.std.specs.Int.{from_bool}
use Rattle.rds_block.specs.SecondWord.{second_word_joined, from_bool-lt}
use Rattle.rds_block.proofs.group.Group.to_blocks.Goals as goal

pub returns : goal.returns
returns c =
    let g = c.args.self.now in
    let e = second_word_joined g.number (from_bool g.version) (from_bool g.tp) g.pty g.low (omega arith)
    (from_bool-lt g.version) (from_bool-lt g.tp) (omega arith) (omega arith) in
    record { words = record { blocks = cc; number = omega arith; pty = omega arith; low = omega arith } }
