use Rattle.std.proofs.Common.{arith, rules, ◌≡◌, ◌++◌, ◌∷◌, []}
use Rattle.rds_script.proofs.Receptions.{all_read, no_reception, one_more, some_cut, too_many}
use Rattle.rds_script.proofs.row.read_receptions.Goals as goal

pub returns-in_default-next_reception-clause-none : goal.returns-in_default-next_reception-clause-none
returns-in_default-next_reception-clause-none c receptions few are =
    let (digits, rest, cut) = some_cut c.in-Some.after.now in
    no_reception c.args.field.now c.loop-letter.rest.now c.in-Some.after.now digits rest c.loop-letter.receptions.items
    c.in-Some.letter.now c.loop-letter.invariant
    c.in-Some.ensures.cases.0 cut (c.in_default-next_reception.ensures.none digits rest cut) receptions are

pub returns-then-len-eq-MOST_RECEIVERS-clause-none : goal.returns-then-len-eq-MOST_RECEIVERS-clause-none
returns-then-len-eq-MOST_RECEIVERS-clause-none c = grind (arith, too_many)

pub loop-letter-preserved : goal.loop-letter-preserved
loop-letter-preserved c =
    let (digits, cut, byte, has) = c.in-Some-next_reception.ensures.some in
    let pushed : c.push-in-Some.new.self.items ≡ c.loop-letter.receptions.items ++ c.in-Some-next_reception.reception
    ∷ [] = search rules in
    rw pushed (one_more c.args.field.now c.loop-letter.rest.now c.in-Some.after.now digits
    c.in-Some-next_reception.others.now c.loop-letter.receptions.items c.in-Some.letter.now
    c.in-Some-next_reception.reception
    c.loop-letter.invariant c.in-Some.ensures.cases.0 cut byte has)

pub loop-letter-preserved-in-Some-plain_reception : goal.loop-letter-preserved-in-Some-plain_reception
loop-letter-preserved-in-Some-plain_reception c =
    let (cut, byte, has) = c.in-Some-plain_reception.ensures in
    let pushed : c.push.new.self.items ≡ c.loop-letter.receptions.items ++ c.in-Some-plain_reception.reception
    ∷ [] = search rules in
    rw pushed (one_more c.args.field.now c.loop-letter.rest.now c.in-Some.after.now [] c.in-Some.after.now
    c.loop-letter.receptions.items c.in-Some.letter.now c.in-Some-plain_reception.reception
    c.loop-letter.invariant c.in-Some.ensures.cases.0 cut byte has)

pub returns-clause-are : goal.returns-clause-are
returns-clause-are c = grind (arith, all_read)
