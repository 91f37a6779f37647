-- The state of the reigns of a service.
use Rattle.std.specs.Prelude.{◌&&◌, ℕ, Bool, List, Option, Some, None, max, not, replicate, slice_index_or, slice_set}
use Rattle.rds_fields.specs.Tag.{PairFields}
use Rattle.rds_audit.specs.Ages.{Ages}
use Rattle.rds_audit.specs.declared.audited.Measured.{Measured}
use Rattle.rds_audit.specs.Lengths.{Gauge, is_other, measure, pair_end}

-- the content of a reign: the bytes at each address, the set of the lengths that its fragments leave, and the greatest
-- end of its tags
pub record ContentState : Type 0 where
  pub cells : List (Option (List ℕ))
  pub lengths : ℕ
  pub tags_end : ℕ

-- a service: the ages of its reigns, and the content of the current one
pub record ReignsState : Type 0 where
  pub ages : Ages
  pub content : ContentState

-- the content without fragments and tags
abbrev pub no_content : ℕ → ContentState
no_content lengths = record { cells = replicate 16 None; lengths = lengths; tags_end = 0 }

-- the bytes held at an address
abbrev pub cell_at : ℕ → ContentState → Option (List ℕ)
cell_at a c = slice_index_or c.cells a None

-- what a fragment leaves of the lengths
abbrev pub measured_in : Gauge → ℕ → List ℕ → ContentState → Measured
measured_in g address bytes c = measure g c.cells c.lengths address bytes

-- a fragment changes the value: its address was sent with other bytes, and no value has both
abbrev pub changes_in : Gauge → ℕ → List ℕ → ContentState → Bool
changes_in g address bytes c = is_other (cell_at address c) bytes && not (measured_in g address bytes c).fits

-- the content with these bytes at an address, and with these lengths
abbrev pub taken : ℕ → ℕ → List ℕ → ContentState → ContentState
taken lengths address bytes c =
    record { cells = slice_set c.cells address (Some bytes); lengths = lengths; tags_end = c.tags_end }

-- the content with one more pair of tags
abbrev pub tagged : PairFields → ContentState → ContentState
tagged pair c = record { cells = c.cells; lengths = c.lengths; tags_end = max c.tags_end (pair_end pair) }

-- the state after a fragment joined the current reign
abbrev pub joined_state : ℕ → ℕ → List ℕ → ReignsState → ReignsState
joined_state lengths address bytes st =
    record { ages = record st.ages { since_last = 0 }; content = taken lengths address bytes st.content }

-- the state after tags were sent
abbrev pub tagged_state : PairFields → ReignsState → ReignsState
tagged_state pair st = record { ages = record st.ages { since_last = 0 }; content = tagged pair st.content }
