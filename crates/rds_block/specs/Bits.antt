-- A group as one number of 64 bits: its four words, the first one in the highest bits.
use Rattle.std.specs.Prelude.{◌≡◌, ℕ, ◌+◌, ◌*◌, ◌^◌, Bool}
use Rattle.std.proofs.Common.{◌/◌, ◌%◌, ◌<◌, nat_eq, zero, suc, refl, arith}
use Rattle.std.specs.Int.{from_bool}
use Rattle.rds_block.specs.declared.group.Group.{Group}
use Rattle.rds_block.specs.Words.{second_word_of}

-- the number of a group
abbrev pub bits_of : Group → ℕ
bits_of g = 2 ^ 48 * g.pi + 2 ^ 32 * second_word_of g + 2 ^ 16 * g.c + g.d

-- whether bit k of n is 1
abbrev pub bit_at : ℕ → ℕ → Bool
bit_at k n = nat_eq (n / 2 ^ k % 2) 1

-- the group that a number holds
abbrev pub group_in : ℕ → Group
group_in n = record {
  pi = n / 2 ^ 48;
  number = n / 2 ^ 44 % 16;
  version = bit_at 43 n;
  tp = bit_at 42 n;
  pty = n / 2 ^ 37 % 32;
  low = n / 2 ^ 32 % 32;
  c = n / 2 ^ 16 % 65536;
  d = n % 65536;
}

bit_is : (b : ℕ) → b < 2 → from_bool (nat_eq b 1) ≡ b
bit_is zero h = refl
bit_is (suc zero) h = refl
bit_is (suc (suc b)) h = absurd (omega arith)

pub bit_at_is : (k n : ℕ) → from_bool (bit_at k n) ≡ n / 2 ^ k % 2
bit_at_is k n = bit_is (n / 2 ^ k % 2) (omega arith)

-- the group that n holds has the number n
pub bits_again : (n : ℕ) → bits_of (group_in n) ≡ n
bits_again n =
    let version = bit_at_is 43 n in
    let tp = bit_at_is 42 n in
    rw (version, tp) (omega arith)
