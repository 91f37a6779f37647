use Rattle.std.proofs.Common.{rules, ◌≡◌, ◌+◌, ◌*◌, ◌^◌, ◌<◌, ◌%◌, ◌∙◌, ℕ, [], ◌∷◌, length, get_or, arith}
use lib.Lanes.{digits_l, number_l}
use Rattle.rds_block.specs.Bits.{group_in}
use Rattle.rds_block.specs.SecondWord.{four}
use Rattle.rds_block.specs.Words.{words_of}
use Rattle.rds_block.proofs.blocks.Blocks.new.Goals as goal

-- the number of four words
abbrev number : ℕ → ℕ → ℕ → ℕ → ℕ
number a b c d = 2 ^ 48 * a + 2 ^ 32 * b + 2 ^ 16 * c + d

-- four lanes of 16 bits, the lowest first, hold their number
joined : (a b c d : ℕ) → a < 65536 → b < 65536 → c < 65536 → d < 65536
    → number_l 256 (digits_l 256 8 (d + 65536 * (c + 65536 * (b + 65536 * (a + 0))))) % 2 ^ 64 ≡ number a b c d
joined a b c d ha hb hc hd = grind (arith)

words : (a b c d : ℕ) → b < 65536 → c < 65536 → d < 65536
    → a ∷ b ∷ c ∷ d ∷ [] ≡ words_of (group_in (number a b c d))
words a b c d hb hc hd = grind (arith)

pub returns : goal.returns
returns c =
    let b = c.args.words in
    let long : length b ≡ 4 = search rules in
    let w0 = get_or b 0 0 in
    let w1 = get_or b 1 0 in
    let w2 = get_or b 2 0 in
    let w3 = get_or b 3 0 in
    let h0 : w0 < 65536 = omega (arith, c.element_fits.fits) in
    let h1 : w1 < 65536 = omega (arith, c.element_fits2.fits) in
    let h2 : w2 < 65536 = omega (arith, c.element_fits3.fits) in
    let h3 : w3 < 65536 = omega (arith, c.element_fits4.fits) in
    rw (joined w0 w1 w2 w3 h0 h1 h2 h3) (record {
      words = record {
        blocks = four b long ∙ words w0 w1 w2 w3 h1 h2 h3;
        number = omega arith;
        pty = omega arith;
        low = omega arith;
      };
    })
