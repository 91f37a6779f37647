-- The laws of the printed form, as the contracts in `laws` state them.
use Rattle.std.specs.Prelude.{◌≡◌, ◌<◌, ◌≤◌, ◌*◌, ℕ, List, All, length, IsUtf8}
use Rattle.rds_charset.specs.Printed.{printed}
use Rattle.rds_charset.specs.ReadAs.{IsReadAs}

-- a printed text is read as the bytes from which it was printed
abbrev pub PrintedIsReadBack : Type 0
PrintedIsReadBack = (bytes : List ℕ) → All (λ byte. byte < 256) bytes → IsReadAs (printed bytes) bytes

-- a text is read as at most one list of bytes
abbrev pub TextIsReadOneWay : Type 0
TextIsReadOneWay = (text bytes others : List ℕ) → IsReadAs text bytes → IsReadAs text others → bytes ≡ others

-- the printed form has at most four bytes for each byte of the text
abbrev pub PrintedTakesFour : Type 0
PrintedTakesFour = (bytes : List ℕ) → length (printed bytes) ≤ 4 * length bytes

-- the printed form is UTF-8
abbrev pub PrintedIsText : Type 0
PrintedIsText = (bytes : List ℕ) → All (λ byte. byte < 256) bytes → IsUtf8 (printed bytes)
