use Rattle.std.proofs.Common.{refl}
use Rattle.rds_lines.proofs.Reading.{gives_either, line_of, line_told}
use Rattle.rds_lines.proofs.source.Source.close.Goals as goal

pub returns-clause-gives : goal.returns-clause-gives
returns-clause-gives c now most start lines stands =
    let less = c.args.self.now.held c.args.count c.requires in
    let same = line_of c.args.self.now.chunk c.args.self.now.at c.args.self.now.count c.args.count less in
    gives_either c.args.self.now _ most c.args.count start now lines c.close.result stands c.requires less
    (λ begun cut line. rw same (c.close.ensures.closes (rw same at line) lines begun cut))
    (λ begun cut. rw same (c.close.ensures.kept lines begun cut)) refl refl refl refl refl
    (line_told _ c.line_end-self.result c.line_end-self.ensures.none c.line_end-self.ensures.some)
    c.args.self.now.room (rw same c.close.ensures.start)
