-- The words of a text that is cut at its first line feed.
use Rattle.std.proofs.Common.{◌≡◌, ◌<◌, ◌∷◌, ◌++◌, [], ℕ, List, Bor, ap, append_assoc, arith, length, map, sym, ◌∙◌}
use Rattle.std.proofs.lemmas.List.{map-append}
use Rattle.std.specs.Prelude.{◌==◌}
use Rattle.std.specs.List.{position_or_len, before_first, after_first}
use Rattle.std.proofs.lemmas.List.Splits.{slice_split_first, slice_split_none}
use Rattle.std.proofs.lemmas.List.Sums.{fails_before_first}
use Rattle.rds_wasm.specs.Page.{words_in}

-- where there is one
pub cut_at_feed : (text : List ℕ) → position_or_len (λ b. b == 10) text < length text
    → words_in text ≡ before_first (λ b. b == 10) text ∷ words_in (after_first (λ b. b == 10) text)
cut_at_feed text within = slice_split_first (λ b. b == 10) text 0 within

-- where there is none
pub not_cut : (text : List ℕ) → position_or_len (λ b. b == 10) text ≡ length text → words_in text ≡ text ∷ []
not_cut text none = slice_split_none (λ b. b == 10) text (λ k e m. fails_before_first (λ b. b == 10) text k e
    (omega (arith, none, m)))

-- one word more, and the last
pub one_more : (words : List (Bor (List ℕ))) (word : Bor (List ℕ)) (rest after text : List ℕ)
    → map (λ w. w.now) words ++ words_in rest ≡ words_in text
    → words_in rest ≡ word.now ∷ words_in after
    → map (λ w. w.now) (words ++ word ∷ []) ++ words_in after ≡ words_in text
one_more words word rest after text had cut =
    ap (λ l. l ++ words_in after) (map-append (λ w. w.now) words (word ∷ [])) ∙ append_assoc (map (λ w. w.now) words)
    (word.now ∷ []) (words_in after)
    ∙ ap (λ l. map (λ w. w.now) words ++ l) (sym cut) ∙ had

pub the_last : (words : List (Bor (List ℕ))) (word : Bor (List ℕ)) (text : List ℕ)
    → map (λ w. w.now) words ++ words_in word.now ≡ words_in text
    → words_in word.now ≡ word.now ∷ [] → map (λ w. w.now) (words ++ word ∷ []) ≡ words_in text
the_last words word text had cut =
    map-append (λ w. w.now) words (word ∷ []) ∙ ap (λ l. map (λ w. w.now) words ++ l) (sym cut) ∙ had
