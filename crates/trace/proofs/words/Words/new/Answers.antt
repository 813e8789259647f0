use Rattle.trace.proofs.Pieces.{split}
use Rattle.trace.proofs.words.Words.new.Goals as goal

pub returns-clause-pieces : goal.returns-clause-pieces
returns-clause-pieces c = split 32 c.args.line.now
