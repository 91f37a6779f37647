-- A reader and a view of it, as for a borrowed reader: a statement about one is a statement about the other.
use Rattle.std.proofs.Math.Logic.{∥∥₁_map}
use Rattle.std.specs.Prelude.{ℕ, Err, List, Ok, Option, Result}
use Rattle.rds_io.specs.Told.{Failed, Traffic}
use Rattle.rds_io.specs.ReadFailed.{SomeReadFailed}
use Rattle.rds_script.specs.Play.{Plays}
use Rattle.rds_io.specs.declared.fault.LogFault.{LogFault}
use Rattle.rds_io.specs.declared.fault.LogFault.TheVariants.{BadLine, BadRow, Read, Write, TooLong, Memory}
use Rattle.rds_script.specs.declared.play.Playing.{Playing}

-- a read that failed behind the view
pub failed_behind : {A B : Type 0} (view : A → B) (failures : B → ℕ) → SomeReadFailed (λ (a : A). failures (view a))
    → SomeReadFailed failures
failed_behind {A} {B} view failures some =
    ∥∥₁_map some (λ (f : (before : A) × (after : A) × Failed (failures (view before)) (failures (view after))).
    (view f.0, view f.1, f.2))

-- a script that was played, with another statement about its reads
pub plays_by : {P Q : Type 0} → (P → Q)
    → (how : Playing) (most : ℕ) (known : Option (List ℕ)) (w : Traffic)
    (result : Result (Unit {0}) LogFault) → Plays how most record { known = known; Failed = P } w result
    → Plays how most record { known = known; Failed = Q } w result
plays_by says how most known w (Ok done) p = p
plays_by says how most known w (Err (BadLine n)) p = p
plays_by says how most known w (Err (BadRow n)) p = p
plays_by says how most known w (Err Read) (records, wrote, fewer, failed) =
    (records, wrote, fewer, says failed)
plays_by says how most known w (Err Write) p = p
plays_by says how most known w (Err TooLong) p = p
plays_by says how most known w (Err Memory) p = p
