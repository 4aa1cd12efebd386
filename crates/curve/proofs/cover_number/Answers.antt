-- `curve::cover_number` meets its contract: the code's table is the one of `specs/`, by computation. Assumes nothing.
use borrow.Author.Rules.{rules}
use Rattle.curve.specs.CurveNumbers.{cover_number}
use Rattle.curve.proofs.cover_number.Goals as goal

pub returns : goal.returns
unfolding cover_number
returns c = search rules
