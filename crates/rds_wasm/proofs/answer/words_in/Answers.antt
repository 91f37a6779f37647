use Rattle.std.proofs.Common.{◌≡◌, ◌∷◌, arith, rules}
use Rattle.rds_wasm.specs.Page.{words_in}
use Rattle.rds_wasm.proofs.Cuts.{cut_at_feed, not_cut, one_more, the_last}
use Rattle.rds_wasm.proofs.answer.words_in.Goals as goal

pub loop-word-preserved : goal.loop-word-preserved
loop-word-preserved c =
    let at = c.in-Some.ensures.byte (omega arith) (λ w o f. f) in
    let cut : words_in c.loop-word.rest.now ≡ c.in-Some.word.now ∷ words_in c.in-Some.after.now = rw (at.0, at.1)
    (cut_at_feed c.loop-word.rest.now at.2) in (
      search rules,
      rw c.in_ok-push.ensures.items (one_more c.loop-word.words.items c.in-Some.word c.loop-word.rest.now
          c.in-Some.after.now c.args.text.now c.loop-word.invariant.1 cut),
    )

pub returns : goal.returns
returns c =
    let none = c.in_default.ensures.byte (omega arith) (λ w o f. f) in
    rw c.in_ok-push-2.ensures.items (the_last c.loop-word.words.items c.loop-word.rest c.args.text.now
    c.loop-word.invariant.1 (not_cut c.loop-word.rest.now none))
