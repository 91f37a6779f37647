-- What a run reads: standard input, or a file (this project's own).
use Rattle.std.specs.Prelude.{ℕ, List, [], ◌∷◌, Option, Some}
use Rattle.rds_program.specs.declared.run_input.RunInput.{RunInput}
use Rattle.rds_program.specs.declared.run_input.RunInput.TheVariants.{Ended, Failed, File, Standard, Unopened}

-- the bytes that are left to read; a file that was not opened has a byte that no read gives, so it never reads as an
-- empty log
abbrev pub bytes_left : {S F : Type 0} → (S → Option (List ℕ)) → (F → Option (List ℕ)) → RunInput S F → Option (List ℕ)
bytes_left standard file (Standard s) = standard s
bytes_left standard file (File f) = file f
bytes_left standard file (Unopened why) = Some (0 ∷ [])
bytes_left standard file Failed = Some (0 ∷ [])
bytes_left standard file Ended = Some []

-- it is a file, which the system opened or not
abbrev pub IsOfFile : {S F : Type 0} → RunInput S F → Type 0
IsOfFile (Standard s) = ⊥
IsOfFile (File f) = Unit {0}
IsOfFile (Unopened why) = Unit {0}
IsOfFile Failed = ⊥
IsOfFile Ended = ⊥
