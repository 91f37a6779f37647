-- Worked examples of the definitions, calculated by hand.
use Rattle.std.proofs.Common.{◌≡◌, Some, None, codes, refl}
use Rattle.rds_arrivals.specs.Stamps.{stamp_in}
use Rattle.rds_ffi.specs.Times.{time_in}

-- 12 and 37 zeros behind the point: 40 bytes, which end with the text or with a space, and not with another byte
forty : time_in (codes "12.0000000000000000000000000000000000000") ≡ Some (record { time = 12000000; end = 40 })
unfolding stamp_in
forty = refl

forty_and_a_space : time_in (codes "12.0000000000000000000000000000000000000 57")
    ≡ Some (record { time = 12000000; end = 40 })
unfolding stamp_in
forty_and_a_space = refl

forty_and_a_letter : time_in (codes "12.0000000000000000000000000000000000000x") ≡ None
unfolding stamp_in
forty_and_a_letter = refl

forty_one : time_in (codes "12.00000000000000000000000000000000000000") ≡ None
unfolding stamp_in
forty_one = refl

-- 38 spaces before four digits: the number does not end within 40 bytes
cut : time_in (codes "                                      1234") ≡ None
unfolding stamp_in
cut = refl
