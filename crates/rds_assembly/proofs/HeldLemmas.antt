-- Lemmas: which cells the bytes and their mask hold.
use Rattle.std.proofs.Common.{◌≡◌, ◌≢◌, ℕ, zero, suc, ◌+◌, ◌-◌, ◌*◌, ◌/◌, ◌%◌, ◌<◌, ◌≤◌, List, Bool, true, false, cond}
use Rattle.std.proofs.Common.{nat_eq, length, slice_index, get_or, take, drop, Option, Some, None, refl, sym, ap, ◌∙◌}
use Rattle.std.proofs.Common.{◌⊎◌, inl, inr, arith, lit<, ◌==◌, is_some, nat_cmp}
use Rattle.std.specs.FinMap.{get, empty, contains_key, get-insert, get-empty, same_map, nat_cmp-IsAntisymmetric, insert}
use Rattle.std.specs.Int.{bit_at}
use Rattle.std.specs.Cmp.{unsigned_tied}
use Rattle.std.proofs.lemmas.Cmp.{nat_cmp_total}
use Rattle.std.proofs.lemmas.Nat.Bits.{bit_at-lt, bit_at-zero, same_from_bits_below}
use Rattle.std.proofs.lemmas.Bool.{cases_lt, cases_order}
use Rattle.std.proofs.lemmas.List.{drop-take, get_or-take, length-take-le}
use Rattle.std.proofs.lemmas.Simd.{get_or-chunk}
use Rattle.std.proofs.lemmas.Slice.{take-put_mid_below, drop-put_mid, between-put_mid}
use borrow.Rule.Slice.PartMut.{put_mid}
use Rattle.rds_assembly.specs.Cells.{Cells, HasByte, IsSpelled}
use Rattle.rds_assembly.specs.Body.{segment_of}
use Rattle.rds_assembly.specs.Held.{cells_below, held_cells}

get-put : (m : Cells) (k : ℕ) (v : List ℕ) (q : ℕ) → get (insert m k v) q ≡ cond (nat_eq q k) (Some v) (get m q)
get-put m k v q = get-insert nat_cmp_total m k v q ∙ ap (λ b. cond b (Some v) (get m q)) (unsigned_tied q k)

-- the cell at an address
abbrev pub cell_in : ℕ → List ℕ → ℕ → Option (List ℕ)
cell_in mask bytes a = cond (bit_at mask a == 1) (Some (segment_of bytes a)) None

one_more : (a mask : ℕ) (bytes : List ℕ) (q : ℕ) → q ≢ a
    → get (cells_below (suc a) mask bytes) q ≡ get (cells_below a mask bytes) q
one_more a mask bytes q apart = grind (arith, get-put)

above : (n mask : ℕ) (bytes : List ℕ) (q : ℕ) → n ≤ q → get (cells_below n mask bytes) q ≡ None
above zero mask bytes q h = get-empty nat_cmp q
above (suc a) mask bytes q h = grind (arith, above a mask bytes q (omega arith), one_more)

newest : (a mask : ℕ) (bytes : List ℕ) → get (cells_below (suc a) mask bytes) a ≡ cell_in mask bytes a
newest a mask bytes = grind (arith, get-put, above)

below : (n mask : ℕ) (bytes : List ℕ) (q : ℕ) → q < n → get (cells_below n mask bytes) q ≡ cell_in mask bytes q
below zero mask bytes q h = absurd (omega arith)
below (suc a) mask bytes q h = elim (cases_lt q a) [
  | inl l ↦ one_more a mask bytes q (omega arith) ∙ below a mask bytes q l
  | inr l ↦ (let same : q ≡ a = omega arith in rw same (newest a mask bytes))
]

-- the cell that is held at an address
pub get-held : (mask : ℕ) (bytes : List ℕ) (a : ℕ) → a < 16 → get (held_cells mask bytes) a ≡ cell_in mask bytes a
unfolding held_cells
get-held mask bytes a h = below 16 mask bytes a h

-- nothing is held at an address behind the last one
pub past_all : (mask : ℕ) (bytes : List ℕ) (a : ℕ) → 16 ≤ a → get (held_cells mask bytes) a ≡ None
unfolding held_cells
past_all mask bytes a h = above 16 mask bytes a h

-- a set bit gives the segment at its address
pub get-set : (mask : ℕ) (bytes : List ℕ) (a : ℕ) → a < 16 → bit_at mask a ≡ 1
    → get (held_cells mask bytes) a ≡ Some (segment_of bytes a)
get-set mask bytes a h on = grind (arith, get-held)

-- a bit that is not set gives no segment
pub get-unset : (mask : ℕ) (bytes : List ℕ) (a : ℕ) → a < 16 → bit_at mask a ≡ 0 → get (held_cells mask bytes) a ≡ None
get-unset mask bytes a h off = grind (arith, get-held)

-- a place of a segment that is held has its byte
pub byte_in : (mask : ℕ) (bytes : List ℕ) (i : ℕ) → i < 64 → bit_at mask (i / 4) ≡ 1
    → HasByte (held_cells mask bytes) i (slice_index bytes i)
byte_in mask bytes i h on =
    let place : 4 * (i / 4) + i % 4 ≡ i = omega arith in
    record {
      cell = segment_of bytes (i / 4);
      held = get-set mask bytes (i / 4) (omega arith) on;
      byte = get_or-chunk (4 * (i / 4)) 4 bytes (i % 4) 0 (omega arith) ∙ ap (λ k. get_or bytes k 0) place;
    }

-- all segments below place n are held
abbrev pub AreSetBelow : ℕ → ℕ → Type 0
AreSetBelow mask n = (i : ℕ) → i < n → bit_at mask (i / 4) ≡ 1

-- cells whose bits are set below n spell the first n bytes
pub spelled : (mask : ℕ) (bytes : List ℕ) (n : ℕ) → n ≤ 64 → length bytes ≡ 64 → AreSetBelow mask n
    → IsSpelled (held_cells mask bytes) (take n bytes)
spelled mask bytes n h long on = grind (arith, length-take-le, get_or-take, byte_in)

-- without a bit there is no cell
none_set : (n : ℕ) (bytes : List ℕ) → cells_below n 0 bytes ≡ empty
none_set zero bytes = refl
none_set (suc a) bytes = (let off : (bit_at 0 a == 1) ≡ false = rw (bit_at-zero a) refl in rw off (none_set a bytes))

-- an empty mask holds no cell
pub nothing_held : (bytes : List ℕ) → held_cells 0 bytes ≡ empty
unfolding held_cells
nothing_held bytes = none_set 16 bytes

-- without a cell there is no bit
pub no_bit : (mask : ℕ) (bytes : List ℕ) → mask < 65536 → held_cells mask bytes ≡ empty → mask ≡ 0
no_bit mask bytes fits none = same_from_bits_below 16 mask 0 fits (lit< tt) (λ a h. by a h (bit_at mask a) refl
    ∙ sym (bit_at-zero a))
  where
    by : (a : ℕ) → a < 16 → (b : ℕ) → bit_at mask a ≡ b → bit_at mask a ≡ 0
    by a h zero e = e
    by a h (suc b) e =
        let low = bit_at-lt mask a in
        let held = get-set mask bytes a h (omega arith) in
        let nothing = get-empty {X = List ℕ} nat_cmp a in
        cc

-- a segment is put and its bit set, and the others do not change
pub put_held : (mask after a : ℕ) (bytes written segment : List ℕ) → a < 16 → bit_at after a ≡ 1
    → ((q : ℕ) → q ≢ a → bit_at after q ≡ bit_at mask q)
    → segment_of written a ≡ segment → ((q : ℕ) → q ≢ a → segment_of written q ≡ segment_of bytes q)
    → held_cells after written ≡ insert (held_cells mask bytes) a segment
put_held mask after a bytes written segment h set kept here others =
    same_map nat_cmp_total nat_cmp-IsAntisymmetric _ _ (λ q. by q (nat_eq q a) refl
    ∙ sym (get-put (held_cells mask bytes) a segment q))
  where
    other : (q : ℕ) → q ≢ a → (q < 16) ⊎ (16 ≤ q) → get (held_cells after written) q ≡ get (held_cells mask bytes) q
    other q apart (inl l) = rw (get-held after written q l, get-held mask bytes q l, kept q apart, others q apart)
    other q apart (inr l) = past_all after written q l ∙ sym (past_all mask bytes q l)

    by : (q : ℕ) (b : Bool) → nat_eq q a ≡ b
        → get (held_cells after written) q ≡ cond (nat_eq q a) (Some segment) (get (held_cells mask bytes) q)
    by q true e = search (arith, get-set)
    by q false e = rw e (other q (grind (arith)) (cases_lt q 16))

-- writing four bytes keeps the other segments and puts this one
pub others_stay : (a k : ℕ) (bytes segment : List ℕ) → k ≡ 4 → length segment ≡ 4 → 4 * a + 4 ≤ length bytes → (q : ℕ)
    → q ≢ a →
    segment_of (put_mid (4 * a) k bytes segment) q ≡ segment_of bytes q
others_stay a k bytes segment e long room q apart =
    elim (cases_order q a) [
      | inl same ↦ absurd (apart same)
      | inr u ↦ elim u [
        | inl less ↦ sym (drop-take (4 * q) 4 (put_mid (4 * a) k bytes segment))
            ∙ ap (drop (4 * q)) (take-put_mid_below (4 * a) k bytes segment (4 * q + 4) (omega arith) (omega arith))
            ∙ drop-take (4 * q) 4 bytes
        | inr more ↦ search (arith, drop-put_mid)
      ]
    ]

-- a segment that is put at its address stands there
pub segment_stands : (a k : ℕ) (bytes segment : List ℕ) → k ≡ 4 → length segment ≡ 4 → 4 * a + 4 ≤ length bytes →
    segment_of (put_mid (4 * a) k bytes segment) a ≡ segment
segment_stands a k bytes segment e long room =
    let n : 4 * a + 4 - 4 * a ≡ 4 = omega arith in
    rw n at (between-put_mid (4 * a) k bytes segment (4 * a + 4) (omega arith) (omega arith))

-- a cell is held exactly if its bit is set
pub contains-held : (mask : ℕ) (bytes : List ℕ) (a : ℕ) → a < 16
    → contains_key (held_cells mask bytes) a ≡ (bit_at mask a == 1)
contains-held mask bytes a h = grind (arith, get-held)

pub contained_set : (mask : ℕ) (bytes : List ℕ) (a : ℕ) → a < 16 → contains_key (held_cells mask bytes) a ≡ true
    → bit_at mask a ≡ 1
contained_set mask bytes a h there = grind (arith, contains-held)

-- a byte that is held has the bit of its segment
pub byte_set : (mask : ℕ) (bytes : List ℕ) (i b : ℕ) → i < 64 → HasByte (held_cells mask bytes) i b
    → bit_at mask (i / 4) ≡ 1
byte_set mask bytes i b h byte = contained_set mask bytes (i / 4) (omega arith) (ap is_some byte.held)

-- holding again a segment that is held changes nothing
pub held_again : (mask a : ℕ) (bytes segment : List ℕ) → a < 16 → contains_key (held_cells mask bytes) a ≡ true
    → segment_of bytes a ≡ segment
    → held_cells mask bytes ≡ insert (held_cells mask bytes) a segment
held_again mask a bytes segment h there here = grind (arith, put_held, contained_set)
