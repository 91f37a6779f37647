use Rattle.std.proofs.Common.{ap, sym, ◌∙◌, ◌+◌, rules, tests, ◌==◌, option_map}
use Rattle.std.proofs.lemmas.Iterator.{YieldsList-from_slice}
use Rattle.std.proofs.lemmas.Iterator.Search.{position_from_yields_List}
use Rattle.rds_charset.proofs.table.CodeRange.byte_of.Goals as goal

pub returns-in_err-place : goal.returns-in_err-place
returns-in_err-place c =
    c.from_residual.ensures ∙ ap (option_map (λ place. c.args.self.now.first + place)) (sym c.in_err-place.was
    ∙ position_from_yields_List (λ known. known == c.args.character) _ _ c.position.result c.position.ensures.ran
    (YieldsList-from_slice c.args.self.now.characters.now cc) (λ x b q k. search (rules, tests)))

pub returns : goal.returns
returns c =
    ap (option_map (λ place. c.args.self.now.first + place)) (sym c.in_ok-place.was ∙ position_from_yields_List
    (λ known. known == c.args.character) _ _ c.position.result c.position.ensures.ran
    (YieldsList-from_slice c.args.self.now.characters.now cc) (λ x b q k. search (rules, tests)))
