use Rattle.std.proofs.Common.{refl}
use Rattle.script.proofs.Liner.{line_read}
use Rattle.script.proofs.lines.LinesIterator.next.Goals as goal

pub returns-clause-steps : goal.returns-clause-steps
returns-clause-steps c =
    let self = c.args.self.now in
    record {
      text = refl;
      reads = line_read self.text.now c.first_line-taken.result.0.now self.at self.number c.first_line-taken.result.1 _ self.within c.first_line-taken.ensures refl c.parse.result c.ok_or.result c.ok_or.ensures.value c.parse.ensures;
    }
