-- The lines of a log. Each line feed ends a line, and bytes after the last one are a line too. This is the project's
-- own format. A list of lines has the newest line first.
use Rattle.std.specs.Prelude.{◌≡◌, ◌≢◌, ◌⊎◌, ◌==◌, ◌&&◌, ◌++◌, ◌-◌, ◌<◌, [], ◌∷◌, ℕ, Bool, List, All, length, take}
use Rattle.std.specs.Prelude.{slice_index, nat_lt, if◌then◌else◌}
use Rattle.rds_assembly.specs.Whole.{carriage_return}

abbrev pub Line : Type 0
Line = List ℕ

abbrev pub line_feed : ℕ
line_feed = 10

-- a line has no line feed
abbrev pub IsLine : Line → Type 0
IsLine line = All (λ b. b ≢ line_feed) line

-- the first line feed of the bytes is at place n
pub record EndsAt (bytes : List ℕ) (n : ℕ) : Type 0 where
  pub within : n < length bytes
  pub line : IsLine (take n bytes)
  pub feed : slice_index bytes n ≡ line_feed

-- the bytes of complete lines with their line feeds, followed by those of an incomplete line
abbrev pub text_of : List Line → Line → List ℕ
text_of [] begun = begun
text_of (line ∷ before) begun = text_of before line ++ line_feed ∷ begun

-- these are the lines of the text: the complete ones, and the last one if it is not empty
abbrev pub AreLines : List ℕ → List Line → Type 0
AreLines text lines = (closed : List Line) × (begun : Line) × (text ≡ text_of closed begun) × All IsLine closed
    × IsLine begun
    × (((begun ≡ []) × (lines ≡ closed)) ⊎ ((begun ≢ []) × (lines ≡ begun ∷ closed)))

-- whether a carriage return ends the line
abbrev pub ends_with_return : Line → Bool
ends_with_return line = nat_lt 0 (length line) && (slice_index line (length line - 1) == carriage_return)

-- the length of the line without one carriage return at its end
abbrev pub content_length : Line → ℕ
content_length line = if ends_with_return line then length line - 1 else length line
