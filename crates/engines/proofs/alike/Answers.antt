-- `engines::alike` meets its contract. Assumes nothing.
use Rattle.engines.proofs.Differing.{alike_found}
use Rattle.engines.proofs.alike.Goals as goal

pub returns : goal.returns
returns c = rw (c.unwrap_or.ensures, c.first_unlike.ensures, c.min.ensures) (alike_found c.args.a.now c.args.b.now)
