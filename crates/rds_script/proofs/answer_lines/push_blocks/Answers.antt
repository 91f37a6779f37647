use Rattle.std.proofs.Common.{◌≡◌, refl, rules}
use Rattle.rds_block.specs.Words.{words_of}
use Rattle.rds_script.proofs.answer_lines.push_blocks.Goals as goal

pub returns-clause-blocks : goal.returns-clause-blocks
returns-clause-blocks g c =
    let words : c.to_blocks.result ≡ words_of c.args.group.now = search rules in
    rw (c.push.ensures, c.digits_of_four-d.ensures, words) refl
