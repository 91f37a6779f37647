use Rattle.std.proofs.Common.{◌≡◌, ◌-◌, Err, Ok, arith, false, length, take, true}
use Rattle.std.proofs.KnownBytes.{Keeps-refl}
use Rattle.std.proofs.lemmas.List.{length-take}
use Rattle.rds_lines.specs.Inside.Source.{state_of}
use Rattle.rds_io.specs.declared.fault.LogFault.TheVariants.{TooLong}
use Rattle.rds_lines.proofs.Reading.{line_told, made_in_vain, reads_more, reads_none, reads_up_to}
use Rattle.rds_lines.proofs.source.Source.read.Goals as goal

pub returns-then-self-eq0-clause-reads_on : goal.returns-then-self-eq0-clause-reads_on
returns-then-self-eq0-clause-reads_on g c most start lines stands =
    let now = state_of g.R.Read.remaining g.R.TellingRead.failures g.R.TellingRead.reads c.args.reader.now in (
      reads_up_to c.args.self.now most most start now now lines stands c.requires.inside c.requires.line (Keeps-refl _)
          (omega (arith, c.if-self-eq0.true)),
      stands.reads.calm,
    )

pub returns-in-None-clause-reads : goal.returns-in-None-clause-reads
returns-in-None-clause-reads g c most start lines stands =
    made_in_vain c.args.self.now most start _ (g.R.TellingRead.reads c.read_one.new.self) _
    stands.reads (omega (arith, c.if-self-eq0.false)) c.in-None.ensures.counts (λ e. (cc))

pub returns-in-None-clause-reads_on : goal.returns-in-None-clause-reads_on
returns-in-None-clause-reads_on g c most start lines stands =
    let (failed, keeps) = c.in-None.ensures.one in (
      reads_up_to c.args.self.now most 0 start _ (state_of g.R.Read.remaining g.R.TellingRead.failures
          g.R.TellingRead.reads c.read_one.new.self)
          lines stands c.requires.inside c.requires.line keeps (omega (arith, stands.reads.leaves)),
      rw stands.reads.calm at failed,
    )

pub returns-in-Some-eq0-clause-reads : goal.returns-in-Some-eq0-clause-reads
returns-in-Some-eq0-clause-reads g c most start lines stands =
    made_in_vain c.args.self.now most start _ (g.R.TellingRead.reads c.read_one.new.self) _
    stands.reads (omega (arith, c.if-self-eq0.false)) c.in-Some-eq0.ensures.counts
    (λ e. (let same : Ok false ≡ Err TooLong = e in cc))

pub returns-in-Some-eq0-clause-reads_on : goal.returns-in-Some-eq0-clause-reads_on
returns-in-Some-eq0-clause-reads_on g c most start lines stands =
    let (room, calm, within, gave, end) = c.in-Some-eq0.ensures.one in
    reads_none c.args.self.now _ most start _ _ lines stands c.requires.inside c.requires.line c.keep.ensures.stands
    (omega (arith, c.if-self-eq0.false)) c.in-Some-eq0.ensures.counts calm
    (rw c.in-Some-eq0.field-0-test at gave) (end c.in-Some-eq0.field-0-test (omega (arith, c.read_one.auto.buf)))

pub returns-in-Some-clause-reads : goal.returns-in-Some-clause-reads
returns-in-Some-clause-reads g c most start lines stands =
    made_in_vain c.args.self.now most start _ (g.R.TellingRead.reads c.read_one.new.self) _
    stands.reads (omega (arith, c.if-self-eq0.false)) c.in-Some.ensures.counts
    (λ e. (let same : Ok true ≡ Err TooLong = e in cc))

pub returns-in-Some-clause-reads_on : goal.returns-in-Some-clause-reads_on
returns-in-Some-clause-reads_on g c most start lines stands =
    let (room, calm, within, gave, end) = c.in-Some.ensures.one in
    let size : length (take c.in-Some.count c.read_one.new.buf) ≡ c.in-Some.count = omega
    (arith, within, length-take c.in-Some.count c.read_one.new.buf) in
    let whole : c.in-Some.count - 0 ≡ c.in-Some.count = omega arith in
    reads_more c.args.self.now _ most start _ _ lines stands c.requires.inside c.requires.line c.keep.ensures.stands
    (omega (arith, c.if-self-eq0.false)) c.requires.inside c.in-Some.ensures.counts calm
    (rw whole gave) (rw whole (omega (arith, size, c.in-Some.count-test.1)))
    (rw whole (line_told _ c.line_end-self.result c.line_end-self.ensures.none c.line_end-self.ensures.some))
