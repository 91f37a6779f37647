-- Which bytes are a valid text or name, and why others are not.
use Rattle.std.specs.Prelude.{◌≡◌, ℕ, ◌<◌, ◌≤◌, ◌==◌, ◌||◌, Bool, true, false, List, length, slice_index, nat_le}
use Rattle.rds_assembly.specs.declared.text.TextRefused.{TextRefused}
use Rattle.rds_assembly.specs.declared.text.TextRefused.TheVariants.{TooLong, BadByte}

-- a byte of a text: 0x20 or above, the line feed (0x0A), the end of a headline (0x0B) or the soft hyphen (0x1F) (IEC
-- 62106, RadioText; refusing other control characters is this project's own rule)
abbrev pub is_text_byte : ℕ → Bool
is_text_byte b = nat_le 32 b || (b == 0x0A || (b == 0x0B || b == 0x1F))

-- a byte of a name: 0x20 or above (this project's own rule)
abbrev pub is_name_byte : ℕ → Bool
is_name_byte b = nat_le 32 b

-- at most so many bytes, each allowed
pub record AreBytes (most : ℕ) (is_allowed : ℕ → Bool) (x : List ℕ) : Type 0 where
  pub at_most : length x ≤ most
  pub bytes : (i : ℕ) → i < length x → slice_index x i < 256
  pub allowed : (i : ℕ) → i < length x → is_allowed (slice_index x i) ≡ true

-- a text: at most 64 bytes, each allowed
abbrev pub IsText : List ℕ → Type 0
IsText x = AreBytes 64 is_text_byte x

-- the bytes given for a name: at most eight, each allowed
abbrev pub IsGivenName : List ℕ → Type 0
IsGivenName x = AreBytes 8 is_name_byte x

-- a name: eight bytes, each allowed
abbrev pub IsName : List ℕ → Type 0
IsName x = (length x ≡ 8) × AreBytes 8 is_name_byte x

-- the byte at this place is the first that is not allowed
pub record IsFirstBad (is_allowed : ℕ → Bool) (x : List ℕ) (place : ℕ) : Type 0 where
  pub within : place < length x
  pub bad : is_allowed (slice_index x place) ≡ false
  pub first : (i : ℕ) → i < place → is_allowed (slice_index x i) ≡ true

-- why bytes are refused: there are too many, or else the first byte that is not allowed
abbrev pub IsRefusedFor : ℕ → (ℕ → Bool) → List ℕ → TextRefused → Type 0
IsRefusedFor most is_allowed x TooLong = most < length x
IsRefusedFor most is_allowed x (BadByte place) = (length x ≤ most) × IsFirstBad is_allowed x place
