use Rattle.std.proofs.Common.{◌≡◌, ◌≢◌, ◌≤◌, None}
use Rattle.rds_lines.specs.Inside.Source.{SourceStandsAt, WhereItReads, budget, state_of}
use Rattle.rds_lines.proofs.source.Source.next.Given as goal

abbrev pub invariant-loop-self : goal.invariant-loop-self
invariant-loop-self g l = record {
  budget : budget l.self ≤ budget l.initial.self;
  same : l.initial.self.line ≢ None → l.self ≡ l.initial.self;
  stands : WhereItReads l.initial.self (state_of g.R.Read.remaining g.R.TellingRead.failures g.R.TellingRead.reads
      l.initial.reader)
      (λ most start lines. SourceStandsAt l.self most start (state_of g.R.Read.remaining g.R.TellingRead.failures
      g.R.TellingRead.reads l.reader) lines);
}

abbrev pub decreases-loop-self : goal.decreases-loop-self
decreases-loop-self g l = l.self.left
