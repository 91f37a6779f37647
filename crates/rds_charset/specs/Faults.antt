-- Why a text cannot be read: what each fault of `read_text` means for the text.
use Rattle.std.specs.Prelude.{List, ℕ}
use Rattle.rds_charset.specs.declared.reading.TextFault.{TextFault}
use Rattle.rds_charset.specs.declared.reading.TextFault.TheVariants.{BadEscape, NoSuchCharacter, NoRoom}
use Rattle.rds_charset.specs.ReadAs.{HasBadEscape, HasUnknownCharacter}

-- the text cannot be read whole and has this fault
abbrev pub TextStopsBy : List ℕ → TextFault → Type 0
TextStopsBy text (BadEscape place) = HasBadEscape text place
TextStopsBy text (NoSuchCharacter place) = HasUnknownCharacter text place
TextStopsBy text NoRoom = ⊥
