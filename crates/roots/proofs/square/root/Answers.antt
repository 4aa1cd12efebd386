-- `roots::square::root` meets its contract. Assumes nothing.
use native.Mathlib.Omega.{arith}
use Rattle.roots.specs.Largest.{most_square}
use Rattle.roots.proofs.Powers.{search_found}
use Rattle.roots.proofs.square.root.Goals as goal

pub returns : goal.returns
returns c = search_found 2 1 _ most_square (omega arith) (omega arith) (omega arith) c.largest.ensures
