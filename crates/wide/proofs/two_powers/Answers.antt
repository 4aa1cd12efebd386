-- `wide::two_powers` meets its contract. Assumes nothing.
use Rattle.wide.proofs.Limbs.{without_fits}
use Rattle.wide.proofs.two_powers.Goals as goal

pub one_power-w-requires : goal.one_power-w-requires
one_power-w-requires c = record { first = c.requires.first; fits = without_fits _ _ _ c.requires.second.least c.requires.fits }

pub times_power-requires : goal.times_power-requires
times_power-requires c =
    let p = c.requires in
    let w = c.one_power-w.ensures in
    record { wide = w.wide; factor = p.second; fits = rw w.is p.fits }

pub returns : goal.returns
returns c = rw c.one_power-w.ensures.is at c.times_power.ensures
