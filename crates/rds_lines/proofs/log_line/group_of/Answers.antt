use Rattle.std.proofs.Common.{◌≡◌, ℕ, List, [], ◌∷◌, length, slice_index, arith, refl, subst}
use Rattle.rds_block.specs.Words.{AreWordsOf}
use Rattle.rds_lines.specs.declared.log_line.Block.TheVariants.{Word}
use Rattle.rds_lines.proofs.log_line.group_of.Goals as goal

-- a list of four is its four
four_of : (ws : List ℕ) → length ws ≡ 4 → ws ≡ slice_index ws 0 ∷ slice_index ws 1 ∷ slice_index ws 2 ∷ slice_index ws 3
    ∷ []
four_of [] e = absurd (omega arith)
four_of (a ∷ []) e = absurd (omega arith)
four_of (a ∷ b ∷ []) e = absurd (omega arith)
four_of (a ∷ b ∷ c ∷ []) e = absurd (omega arith)
four_of (a ∷ b ∷ c ∷ d ∷ []) e = refl
four_of (a ∷ b ∷ c ∷ d ∷ x ∷ rest) e = absurd (omega arith)

pub returns : goal.returns
returns c =
    let ws = c.in_ok-words.words in (
      c.requires,
      record {
        a = Word (slice_index ws 0);
        b = Word (slice_index ws 1);
        c = Word (slice_index ws 2);
        d = Word (slice_index ws 3);
        first = c.in_ok-words.ensures.first;
        second = c.in_ok-words.ensures.second;
        third = c.in_ok-words.ensures.third;
        fourth = c.in_ok-words.ensures.fourth;
        carried = (
          c.new.result,
          subst (λ (xs : List ℕ). AreWordsOf xs c.new.result)
              (four_of ws c.in_ok-words.ensures.four) c.new.ensures.words,
          refl,
        );
      },
    )
