-- What the lines of mixes say of a candidate: a log, the tuning of its receivers, how many slots to look ahead, the
-- lost slots, the words before each line, and a slot.
use Rattle.std.specs.Prelude.{◌+◌, ℕ, List, length}
use Rattle.rds_receiver.specs.Receipts.{tuned}
use Rattle.rds_receiver.specs.Shown.{ShownView}
use Rattle.rds_receiver.specs.ReceiverAt.{ReceiverAt}
use Rattle.rds_receiver.specs.declared.receiver.Receiver.{Receiver}
use Rattle.rds_witness.specs.Firsts.{AreFirsts}
use Rattle.rds_witness.specs.Lines.{AreMixLines}
use Rattle.rds_witness.specs.LossLines.{AreLossLines}
use Rattle.rds_witness.specs.Lost.{got}
use Rattle.rds_witness.specs.Mix.{AreAround, NeverShows, Thing, until}
use Rattle.rds_witness.specs.SomeLines.{AreSomeMixLines}
use Rattle.rds_witness.specs.declared.candidate.Candidate.{Candidate}

-- the views before and after its slot, with its slots lost
abbrev pub AreAroundIt : Candidate → ShownView → ShownView → Type 0
AreAroundIt c before after = AreAround (tuned c.pi c.dwell) c.log.now c.lost.now c.slot before after

-- with nothing lost, no slot up to the last one to look at shows the thing
abbrev pub IsNeverShown : Candidate → Thing → Type 0
IsNeverShown c thing = NeverShows (tuned c.pi c.dwell) c.log.now (until c.ahead c.log.now c.slot) thing

-- it knows in which slot of its log a receiver that loses nothing shows each thing first
abbrev pub KnowsFirsts : Candidate → Type 0
KnowsFirsts c = AreFirsts (tuned c.pi c.dwell) c.log.now (length c.log.now) c.firsts.now

-- the lines of all its mixes
abbrev pub AreItsMixLines : Candidate → List ℕ → Type 0
AreItsMixLines c lines = AreMixLines (tuned c.pi c.dwell) c.ahead c.log.now c.lost.now c.words.now c.slot lines

-- lines of its mixes, with each mix of the first n kinds
abbrev pub AreSomeOfItsMixLines : ℕ → Candidate → List ℕ → Type 0
AreSomeOfItsMixLines n c lines =
    AreSomeMixLines n (tuned c.pi c.dwell) c.ahead c.log.now c.lost.now c.words.now c.slot lines

-- the lines of its mixes of this kind are appended
abbrev pub AddsKindOfIt : ℕ → Candidate → List ℕ → List ℕ → Type 0
AddsKindOfIt n c before after = AreSomeOfItsMixLines n c before → AreSomeOfItsMixLines (n + 1) c after

-- a receiver that loses its slots stands before slot n of its log
abbrev pub StandsBefore : ℕ → Candidate → Receiver → Type 0
StandsBefore n c r = ReceiverAt (tuned c.pi c.dwell) r (got c.lost.now c.log.now n)

-- after the lines of all mixes before its slot, those of its slot are appended
abbrev pub AddsSlotOfIt : Candidate → List ℕ → List ℕ → Type 0
AddsSlotOfIt c before after =
    AreLossLines (tuned c.pi c.dwell) c.ahead c.log.now c.lost.now c.slot before
    → AreLossLines (tuned c.pi c.dwell) c.ahead c.log.now c.lost.now (c.slot + 1) after
