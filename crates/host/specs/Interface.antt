-- The number of the interface: 1 the base, 2 since Q-2 (segments of five numbers), 3 since Q-3 (half the step in Tp), 4 since Q-4 (a sheet rule), 5 since Q-5 (curve numbers in tenths).
use Rattle.std.specs.Prelude.{ℕ}

abbrev pub interface : ℕ
interface = 5
