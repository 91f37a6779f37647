-- Written-out rows of the definitions.
use Rattle.std.proofs.Common.{◌≡◌, ◌∷◌, [], None, Some, codes, refl}
use Rattle.rds_witness.specs.Spans.{bursts_in, read}
use Rattle.std.proofs.Common.{Bool, List, Option, arith, true, ℕ}
use Rattle.rds_block.specs.declared.group.Group.{Group}
use Rattle.rds_fields.specs.declared.pair.Which.{Which}
use Rattle.rds_receiver.specs.Receipts.{Tuning}
use Rattle.rds_witness.specs.Lines.{IsAnswer}
use Rattle.rds_witness.specs.Mix.{Thing, Tag}
use Rattle.rds_witness.specs.Search.{IsReplaced, NoMixesIn}

-- spans in ascending order
two_spans : bursts_in (codes "3-7,12") ≡ Some (record { first = 3; last = 7 } ∷ record { first = 12; last = 12 } ∷ [])
unfolding read
two_spans = refl

-- slot 7 is in both, nothing, no last slot, a span without a slot, another byte, and a number of 33 bits
twice : bursts_in (codes "3-7,7") ≡ None
unfolding read
twice = refl

nothing : bursts_in [] ≡ None
unfolding read
nothing = refl

no_last : bursts_in (codes "3-") ≡ None
unfolding read
no_last = refl

backwards : bursts_in (codes "7-3") ≡ None
unfolding read
backwards = refl

other_byte : bursts_in (codes "3 ") ≡ None
unfolding read
other_byte = refl

too_large : bursts_in (codes "4294967296") ≡ None
unfolding read
too_large = refl

-- ---- what a search says

-- before slot 0 no tag was replaced
none_replaced : (t : Tuning) (log : List (Option Group)) (which : Which) (class : ℕ) (piece : List ℕ)
    → IsReplaced t log 0 (Tag which class piece) → ⊥
none_replaced t log which class piece is = omega (arith, is.before)

-- no burst makes a mix before the slot of a witness
witness_is_first : (t : Tuning) (log : List (Option Group)) (written : List ℕ) → IsAnswer t log true written
    → (slot : ℕ) × NoMixesIn t log slot
witness_is_first t log written (burst, slot, place, lines, some, none) = (slot, none)
