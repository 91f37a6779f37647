use Rattle.std.proofs.lemmas.Bool.Decides.{nat_tests}
use Rattle.std.proofs.Common.{◌≡◌, ◌+◌, ◌/◌, ◌∙◌, ℕ, Some, ap, arith, inr, suc, sym}
use Rattle.rds_arrivals.specs.Stamps.{digit_at}
use Rattle.rds_arrivals.proofs.Fractions.{below_a_second, digit_leads, light, more_fraction, next_weight, no_fraction}
use Rattle.rds_arrivals.proofs.Fractions.{none_leads}
use Rattle.rds_arrivals.proofs.stamp.fraction_at.Goals as goal

pub loop-digit-init : goal.loop-digit-init
loop-digit-init c = grind (arith, no_fraction)

pub overflow_mul-time : goal.overflow_mul-time
overflow_mul-time c = grind (arith, light)

pub overflow_add-time : goal.overflow_add-time
overflow_add-time c =
    let (i, at, heavy) = c.loop-digit.invariant.next in
    let small = light i c.in-Some.digit c.in-Some.ensures.small in
    grind (arith, below_a_second)

pub loop-digit-smaller : goal.loop-digit-smaller
loop-digit-smaller c = omega (arith, c.in-Some.ensures.within)

pub loop-digit-preserved : goal.loop-digit-preserved
loop-digit-preserved c =
    let text = c.args.text.now in
    let first = c.args.place + 1 in
    let (i, at, heavy) = c.loop-digit.invariant.next in
    let is : digit_at text c.loop-digit.end ≡ Some c.in-Some.digit = sym c.in-Some.ensures.value in
    let more = more_fraction text first i c.in-Some.digit (rw at at is) in
    let later : first + suc i ≡ c.loop-digit.end + 1 = omega (arith, at) in
    record {
      next = (suc i, sym later, ap (λ (n : ℕ). n / 10) heavy ∙ next_weight i);
      time = cc (c.loop-digit.invariant.time, at, heavy, more, later);
      within = inr (omega (arith, c.in-Some.ensures.within));
      digits = omega (arith, digit_leads text c.loop-digit.end c.in-Some.digit is, c.loop-digit.invariant.digits);
    }

pub returns-clause-value : goal.returns-clause-value
returns-clause-value c =
    let none = none_leads c.args.text.now c.loop-digit.end (sym c.in_default.ensures.value) in
    grind (arith, nat_tests)

pub returns-clause-small : goal.returns-clause-small
returns-clause-small c = grind (arith, below_a_second)

pub returns-clause-end : goal.returns-clause-end
returns-clause-end c = grind arith
