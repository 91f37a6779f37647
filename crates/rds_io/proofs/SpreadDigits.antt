-- Lemmas: the digits of words that are spread out, with a number below 16 in each byte of a lane.
use Rattle.std.proofs.Common.{◌≡◌, ◌+◌, ◌*◌, ◌/◌, ◌%◌, ◌<◌, ◌∙◌, ◌&&◌, Bool, ℕ, ap, arith, bit_and, cond}
use Rattle.std.proofs.Common.{nat_eq, refl, suc, true, zero}
use Rattle.std.proofs.lemmas.Nat.{and_mask}
use lib.Dec.{ltb}
use lib.Lanes.{top}
use Rattle.rds_io.specs.Digits.{upper_digit}

-- the digit of a number, as the code makes it
abbrev pub digit : ℕ → ℕ
digit n = cond (top 7 (cond (ltb 9 n) 255 0)) (((n + 48) % 256 + 7) % 256) ((n + 48) % 256)

-- whether the code's digits are right for each number below this; tried for those below 16
abbrev same_below : ℕ → Bool
same_below zero = true
same_below (suc n) = nat_eq (digit n) (upper_digit n) && same_below n

same_at : (k n : ℕ) → same_below k ≡ true → n < k → digit n ≡ upper_digit n
same_at zero n t h = absurd (omega arith)
same_at (suc k) n t h = grind (arith, same_at k n)

shown : (b n : ℕ) → b ≡ n → n < 16 → digit b ≡ upper_digit n
shown b n e h = ap digit e ∙ same_at 16 n refl h

-- a word spread out in a lane
abbrev pub spread : ℕ → ℕ
spread w =
    (((w / 4096 + bit_and (w / 256) 15 * 256 % 4294967296) % 4294967296 + bit_and (w / 16) 15 * 65536 % 4294967296) %
    4294967296
    + bit_and w 15 * 16777216 % 4294967296) % 4294967296

spread_is : (w : ℕ) → w < 65536 → spread w ≡ w / 4096 + 256 * (w / 256 % 16) + 65536 * (w / 16 % 16)
    + 16777216 * (w % 16)
spread_is w h = rw (and_mask (w / 256) 4, and_mask (w / 16) 4, and_mask w 4) (omega arith)

-- a number whose lowest lane has this word: the digits of its bytes, and the lanes above
pub record Shows (n w above : ℕ) : Type 0 where
  pub first : digit (n % 256) ≡ upper_digit (w / 4096)
  pub second : digit (n / 256 % 256) ≡ upper_digit (w / 256 % 16)
  pub third : digit (n / 256 / 256 % 256) ≡ upper_digit (w / 16 % 16)
  pub fourth : digit (n / 256 / 256 / 256 % 256) ≡ upper_digit (w % 16)
  pub rest : n / 256 / 256 / 256 / 256 ≡ above

bytes : (n a b c d above : ℕ) → a < 16 → b < 16 → c < 16 → d < 16
    → n ≡ a + 256 * b + 65536 * c + 16777216 * d + 4294967296 * above
    → (n % 256 ≡ a) × (n / 256 % 256 ≡ b) × (n / 256 / 256 % 256 ≡ c) × (n / 256 / 256 / 256 % 256 ≡ d)
    × (n / 256 / 256 / 256 / 256 ≡ above)
bytes n a b c d above ha hb hc hd e = (omega arith, omega arith, omega arith, omega arith, omega arith)

-- the spread digits of a word show it
pub shows : (n w above : ℕ) → w < 65536 → n ≡ spread w + 4294967296 * above → Shows n w above
shows n w above h e = search (arith, spread_is, bytes, shown)
