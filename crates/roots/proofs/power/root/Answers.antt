-- `roots::power::root` meets its contract. Assumes nothing.
use native.Mathlib.Omega.{arith}
use Rattle.roots.specs.Largest.{most_power}
use Rattle.roots.proofs.Powers.{search_found}
use Rattle.roots.proofs.power.root.Goals as goal

pub returns : goal.returns
returns c = search_found _ _ _ most_power c.requires.least c.requires.past (omega arith) c.largest.ensures
