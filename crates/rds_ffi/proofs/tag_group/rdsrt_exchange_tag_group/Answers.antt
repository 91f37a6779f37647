use Rattle.std.proofs.Common.{◌≡◌, ◌∙◌, refl, subst}
use Rattle.rds_block.specs.SecondWord.{same_group}
use Rattle.rds_block.specs.Words.{AreWordsOf}
use Rattle.rds_fields.specs.TagGroup.{exchanged}
use Rattle.rds_ffi.proofs.tag_group.rdsrt_exchange_tag_group.Goals as goal

pub returns-clause-exchanged : goal.returns-clause-exchanged
returns-clause-exchanged c done group words =
    let one : c.from_blocks.result ≡ group = same_group _ c.from_blocks.result group c.from_blocks.ensures.words
    words in
    let number : c.in-Some.tags ≡ c.args.number = c.in-Some.ensures.value in
    let all : c.exchange.result ≡ exchanged c.args.number group =
    c.exchange.ensures ∙ rw (number, one) refl in
    subst (AreWordsOf c.to_blocks.result) all c.to_blocks.ensures.words
