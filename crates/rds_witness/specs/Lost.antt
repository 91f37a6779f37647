-- The input of a receiver that loses some bursts of a log, each of which is a range of slots. A log has its oldest slot
-- first, and the input of a receiver the newest first.
use Rattle.std.proofs.Common.{add-one, ap, refl}
use Rattle.std.specs.Prelude.{◌≡◌, ◌<◌, ◌&&◌, ◌+◌, ◌∷◌, [], ℕ, Bool, List, Option, None, length, nat_le, slice_index_or}
use Rattle.std.specs.Prelude.{if◌then◌else◌, suc, zero}
use Rattle.std.specs.List.{list_any}
use Rattle.rds_block.specs.declared.group.Group.{Group}
use Rattle.rds_witness.specs.declared.burst.Burst.{Burst}

-- whether the burst has slot n
abbrev pub has_slot : Burst → ℕ → Bool
has_slot burst n = nat_le burst.first n && nat_le n burst.last

-- whether slot n is lost
abbrev pub is_lost : List Burst → ℕ → Bool
is_lost lost n = list_any (λ (burst : Burst). has_slot burst n) lost

-- the group of slot n
abbrev pub group_left : List Burst → List (Option Group) → ℕ → Option Group
group_left lost log n = if is_lost lost n then None else slice_index_or log n None

-- these are the groups of all slots
pub record IsWhatIsLeft (lost : List Burst) (log got : List (Option Group)) : Type 0 where
  pub long : length got ≡ length log
  pub each : (n : ℕ) → n < length log → slice_index_or got n None ≡ group_left lost log n

-- the input before slot n
unfoldable pub got : List Burst → List (Option Group) → ℕ → List (Option Group)
got lost log zero = []
got lost log (suc n) = group_left lost log n ∷ got lost log n

pub got-none : (lost : List Burst) (log : List (Option Group)) → got lost log 0 ≡ []
unfolding got
got-none lost log = refl

pub got-more : (lost : List Burst) (log : List (Option Group)) (n : ℕ)
    → got lost log (n + 1) ≡ group_left lost log n ∷ got lost log n
unfolding got
got-more lost log n = ap (got lost log) (add-one n)
