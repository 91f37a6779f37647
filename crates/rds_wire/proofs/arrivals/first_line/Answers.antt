use Rattle.std.proofs.Common.{◌≡◌, ◌==◌, ◌+◌, ◌-◌, ◌∙◌, ◌++◌, ◌∷◌, ℕ, List, add-one, ap, ap₂, arith, drop, length, sym, take}
use Rattle.std.proofs.Math.Seq.{drop-cons}
use Rattle.std.proofs.lemmas.List.{length-drop, take-append-drop, take_all}
use Rattle.std.proofs.lemmas.List.Splits.{slice_split_none}
use Rattle.rds_lines.specs.LogLines.{EndsAt}
use Rattle.rds_wire.specs.Headline.{lines}
use Rattle.rds_wire.proofs.Reached.{lines_joined, no_feed}
use Rattle.rds_wire.proofs.arrivals.first_line.Goals as goal

-- a text up to its first line feed, and after it
cut_at : (text : List ℕ) (n : ℕ) → EndsAt text n → lines text ≡ take n text ∷ lines (drop (n + 1) text)
cut_at text n ends =
    ap lines (sym (take-append-drop n text) ∙ ap (λ l. take n text ++ l)
    (drop-cons text n 0 ends.within ∙ ap₂ (λ b rest. b ∷ rest) ends.feed (ap (λ k. drop k text) (sym (add-one n)))))
    ∙ lines_joined (take n text) (drop (n + 1) text)
    ∙ ap (λ l. l ++ lines (drop (n + 1) text)) (slice_split_none (λ b. b == 10) (take n text) (no_feed _ ends.line))

pub returns-in-Some-clause-lines : goal.returns-in-Some-clause-lines
returns-in-Some-clause-lines c =
    let text = c.args.text.now in
    let n = c.in-Some.end in
    cut_at text n c.in-Some.ensures.some
    ∙ ap (λ l. take n text ∷ lines l)
    (sym (take_all (length text - (n + 1)) (drop (n + 1) text) (omega (arith, length-drop (n + 1) text))))

pub returns-in-None-clause-lines : goal.returns-in-None-clause-lines
returns-in-None-clause-lines c =
    slice_split_none (λ b. b == 10) c.args.text.now (no_feed c.args.text.now c.in-None.ensures.none)
