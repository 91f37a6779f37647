use Rattle.std.proofs.Common.{◌∙◌, ap₂, map, refl, sym}
use Rattle.rds_receiver.specs.Kept.{beside, last, name_moment, text_moment}
use Rattle.rds_receiver.proofs.Counting.{both_on, ended_on, gone_on, name_stays, text_stays}
use Rattle.rds_receiver.proofs.keeping.Keeping.count.Goals as goal

pub returns-clause-counts : goal.returns-clause-counts
returns-clause-counts c t input s now before is goes counts =
    let (text, text_same) = gone_on _ _ _ c.count-text.result _ (text_moment now) (map text_moment before) counts.text
    (text_stays now before goes) (c.text_flag.ensures t input s ∙ sym is.text) c.count-text.ensures.quiet
    (λ some. c.count-text.ensures.counted some (last (map text_moment before)) counts.text) in
    let (name, name_same) = gone_on _ _ _ c.count-name.result _ (name_moment now) (map name_moment before) counts.name
    (name_stays now before goes) (c.name_flag.ensures t input s ∙ sym is.name) c.count-name.ensures.quiet
    (λ some. c.count-name.ensures.counted some (last (map name_moment before)) counts.name) in
    rw c.ended_of.ensures
    (ended_on _ _ _ _ now before (both_on c.args.self.now _ _ t.dwell t.first _ now before is refl text name)
    (λ kept_text kept_name. ap₂ beside (text_same kept_text) (name_same kept_name)))
