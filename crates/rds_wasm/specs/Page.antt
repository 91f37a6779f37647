-- What a page passes to the program, and what it gets back.
use Rattle.std.specs.Prelude.{◌≡◌, ◌==◌, ℕ, List, [], Some, length, take, IsUtf8}
use Rattle.std.specs.List.{slice_split}
use Rattle.rds_io.specs.Told.{PutsNothing, Traffic}
use Rattle.rds_program.specs.Run.{RunsFrom, RunsWords}

-- the arguments are the lines of a text
abbrev pub words_in : List ℕ → List (List ℕ)
words_in text = slice_split (λ byte. byte == 10) text

-- these bytes were written to an empty output, and so many writes failed
abbrev pub writing : List ℕ → ℕ → Traffic
writing printed failures =
    record { before = Some []; after = Some printed; failures_before = 0; failures_after = failures }

-- the output of the program over these arguments and this input, and its status: as `run` promises for a reader that
-- never fails
abbrev pub PagePrints : List (List ℕ) → List ℕ → Traffic → ℕ → Type 0
PagePrints words input w status =
    RunsWords words (RunsFrom record { bytes = Some input; failures = 0; ReadFailed = ⊥ } w status) (Unit {0}) w status

-- arguments that are not UTF-8 are refused, and nothing is printed
abbrev pub Refuses : Traffic → ℕ → Type 0
Refuses w status = (status ≡ 2) × PutsNothing w

-- a buffer begins with the printed bytes, or with as many of them as there is room for
pub record Begun (printed output : List ℕ) (number : ℕ) : Type 0 where
  pub number_is : number ≡ length printed
  pub shown : take number output ≡ take (length output) printed

-- the numbers at the end of a run: of printed bytes, of failed writes, of bytes of notes, and the status
pub record Ending : Type 0 where
  pub length : ℕ
  pub failures : ℕ
  pub noted : ℕ
  pub status : ℕ

-- a run in a page that ended so. `lines` are its notes: the contract leaves them open, except after arguments that are
-- not UTF-8
pub record RunsInPage (words input output notes : List ℕ) (ended : Ending) : Type 0 where
  pub printed : List ℕ
  pub begun : Begun printed output ended.length
  pub prints : IsUtf8 words → PagePrints (words_in words) input (writing printed ended.failures) ended.status
  pub no_text : (IsUtf8 words → ⊥) → Refuses (writing printed ended.failures) ended.status
  pub lines : List ℕ
  pub notes_begun : Begun lines notes ended.noted
  pub unnoted : (IsUtf8 words → ⊥) → lines ≡ []
