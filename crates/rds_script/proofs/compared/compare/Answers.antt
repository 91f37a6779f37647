use Rattle.std.proofs.Common.{◌∙◌, ◌∷◌, ◌++◌, [], Bool, Option, ap, length, map, subst, sym}
use Rattle.rds_view_lines.specs.KeptView.{view_shown}
use Rattle.rds_script.specs.Inside.Compared.{IsCompared}
use Rattle.rds_script.specs.Outcomes.{air_lines, if_alone}
use Rattle.rds_script.specs.declared.compared.Compared.{Compared}
use Rattle.rds_script.proofs.compared.compare.Goals as goal

pub returns-in-Some : goal.returns-in-Some
returns-in-Some c config [] st = tt
returns-in-Some c config (e ∷ before) st = λ views were are is.
    let n = length (map view_shown c.args.shown.now) in
    let had = subst (λ (o : Option Compared). IsCompared config n before views o) c.in-Some.is is in
    let goes = c.push.ensures.goes_on config (e ∷ before) st views (were had.0) (are had.0) had.1 in (
      (had.0, goes.0),
      goes.1 ∙ ap (λ (alone : Bool). c.args.lines.now
          ++ if_alone alone (air_lines config c.args.slot n e before views (map view_shown c.args.shown.now)))
          (sym had.0),
    )
