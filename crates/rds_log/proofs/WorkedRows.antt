-- Worked examples of the definitions. Times are in microseconds, and lists have the newest first.
use Rattle.std.proofs.Common.{◌∷◌, ℕ, [], arith, inl, inr}
use Rattle.rds_block.specs.declared.group.Group.{Group}
use Rattle.rds_arrivals.specs.Arrivals.{Arrival}
use Rattle.rds_log.specs.Fill.{HasBreak}
use Rattle.std.proofs.Common.{List, Option}
use Rattle.rds_audit.specs.AuditLaws.{IsSafeLog}
use Rattle.rds_audit.specs.declared.log_start.LogStart.TheVariants.{Complete}
use Rattle.rds_audit.specs.declared.text_form.TextForm.{TextForm}
use Rattle.rds_io.specs.Told.{Traffic}
use Rattle.rds_lines.specs.LogLines.{Line}
use Rattle.std.specs.Io.KnownBytes.{IsAtEnd}
use Rattle.rds_log.specs.Audit.{SlotsAreSafe}
use Rattle.rds_log.specs.Fill.{FillsAll, TimesAre}
use Rattle.rds_log.specs.declared.audit_log.Stop.{Stop}
use Rattle.rds_log.specs.declared.filler.Filling.{Filling}
use Rattle.rds_log.specs.declared.filler.Times.{Times}
use Rattle.rds_log.specs.declared.filler.Times.TheVariants.{Fine}
use Rattle.rds_receiver.specs.Receipts.{heard_of}

abbrev at : Group → ℕ → Arrival Group
at group time = record { entry = group; time = time; told = 0 }

-- the second time is a microsecond earlier than the first
back : (g : Group) → HasBreak (at g 9000000 ∷ at g 8999999 ∷ at g 9000000 ∷ [])
back g = inr (inl (inl (omega arith)))

-- an hour is no break
an_hour : (g : Group) → HasBreak (at g 3600000000 ∷ at g 0 ∷ []) → ⊥
an_hour g has = grind arith

-- an hour and a microsecond is one
more_than_an_hour : (g : Group) → HasBreak (at g 3600000001 ∷ at g 0 ∷ [])
more_than_an_hour g = inl (inr (omega arith))

-- the first group has none before it
first_group : (g : Group) → HasBreak (at g 0 ∷ []) → ⊥
first_group g has = grind arith

-- ---- what the answers say

-- fine times have no break
fine_times : (f : Filling) (lines : List Line) (came : List (Arrival Group)) → TimesAre f lines came Fine → HasBreak came
    → ⊥
fine_times f lines came are = are.2

-- a log was filled only if it was read to its end
filled_to_the_end : (f : Filling) (r w : Traffic) (times : Times) → FillsAll f r w times → IsAtEnd r.after
filled_to_the_end f r w times fills = fills.end

-- that the slots of a complete log are safe says so of what is heard of them
safe_slots : (pi rtplus m k : ℕ) (form : TextForm) (stop : Stop) (slots : List (Option Group))
    → SlotsAreSafe record { pi = pi; rtplus = rtplus; dwell = m; late = k; start = Complete; form = form; stop = stop } slots
    → IsSafeLog form m k (heard_of pi slots)
safe_slots pi rtplus m k form stop slots are = are.safe
