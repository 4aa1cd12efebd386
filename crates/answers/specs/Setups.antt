-- A setup as a host has it: the step, the first row's number and the sheet rule.
use Rattle.std.specs.Prelude.{ℕ}
use Rattle.subarea.specs.declared.Setup.{Setup}

abbrev pub setup_of : ℕ → ℕ → ℕ → Setup
setup_of D first rule = record { step = D; first = first; rule = rule }
