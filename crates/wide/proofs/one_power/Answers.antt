-- `wide::one_power` meets its contract. Assumes nothing.
use native.Mathlib.Nat.{one-mul}
use Rattle.wide.proofs.one_power.Goals as goal

pub times_power-requires : goal.times_power-requires
times_power-requires c =
    let p = c.requires in
    let w = c.from-w.ensures in
    record { wide = w.wide; factor = p.first; fits = rw (w.is, one-mul) p.fits }

pub returns : goal.returns
returns c = rw (c.from-w.ensures.is, one-mul) at c.times_power.ensures
