-- `wide::three_powers` meets its contract. Assumes nothing.
use Rattle.wide.proofs.Limbs.{without_fits}
use Rattle.wide.proofs.three_powers.Goals as goal

pub two_powers-w-requires : goal.two_powers-w-requires
two_powers-w-requires c = record { first = c.requires.first; second = c.requires.second; fits = without_fits _ _ _ c.requires.third.least c.requires.fits }

pub times_power-requires : goal.times_power-requires
times_power-requires c =
    let p = c.requires in
    let w = c.two_powers-w.ensures in
    record { wide = w.wide; factor = p.third; fits = rw w.is p.fits }

pub returns : goal.returns
returns c = rw c.two_powers-w.ensures.is at c.times_power.ensures
