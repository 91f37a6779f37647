use Rattle.std.proofs.Common.{◌++◌, ◌-◌, ◌∙◌, ℕ, ap, append_assoc}
use Rattle.std.proofs.lemmas.Result.{err_from_is_err_and}
use Rattle.rds_io.proofs.Waiting.{lost_longer}
use Rattle.rds_lines.specs.LineTimes.{break_line}
use Rattle.rds_log.specs.Fill.{lost_lines}
use Rattle.rds_log.proofs.Filled.{same_pushed}
use Rattle.rds_log.proofs.filler.Filler.push_more.Goals as goal

pub returns-in_err-push_comment-clause-pushed : goal.returns-in_err-push_comment-clause-pushed
returns-in_err-push_comment-clause-pushed g c start total has =
    let p = err_from_is_err_and c.from_residual.result c.from_residual.ensures.1 in
    rw p.1 (rw append_assoc at (lost_longer _ _ (lost_lines (c.args.lost - c.args.self.now.told))
    (c.in_err-push_comment.ensures start total has)))

pub returns-clause-pushed : goal.returns-clause-pushed
returns-clause-pushed g c start total has =
    let more = c.saturating_sub-more.result in
    same_pushed _ _ c.push_lost.result _ _
    (append_assoc total (break_line c.args.why) (lost_lines more)
    ∙ ap (λ (n : ℕ). total ++ (break_line c.args.why ++ lost_lines n)) c.saturating_sub-more.ensures)
    (c.push_lost.ensures start _ (c.in_ok-push_comment.ensures start total has))
