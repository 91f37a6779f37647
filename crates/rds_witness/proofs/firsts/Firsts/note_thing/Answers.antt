use Rattle.std.proofs.Common.{◌∙◌, sym}
use Rattle.rds_witness.proofs.Mixes.{kept_at, noted_at}
use Rattle.rds_witness.proofs.firsts.Firsts.note_thing.Goals as goal

pub returns-then-contains_key : goal.returns-then-contains_key
returns-then-contains_key c q = rw (← c.key_of-key.ensures c.requires) (kept_at c.args.self.now c.key_of-key.result.items
    c.args.slot (sym c.contains_key.ensures ∙ c.if-contains_key.true) q)

pub returns : goal.returns
returns c q = rw (← c.key_of-key.ensures c.requires) (noted_at c.args.self.now (record {
  slots = c.insert.new.self;
}) c.key_of-key.result c.args.slot
    (sym c.contains_key.ensures ∙ c.if-contains_key.false) c.in_ok-insert.ensures.updates q)
