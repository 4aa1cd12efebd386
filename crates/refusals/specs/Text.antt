-- A refusal as a line tells it, byte for byte: its number and its place.
use Rattle.std.specs.Prelude.{ℕ, List, ◌++◌, codes, decimal}
use Rattle.refusals.specs.declared.Rule.{Rule}
use Rattle.refusals.specs.declared.Refusal.{Refusal}
use Rattle.refusals.specs.Refusals.{number_of}

abbrev pub refusal_text : Refusal Rule → List ℕ
refusal_text x = codes "number " ++ (decimal (number_of x.rule) ++ (codes ", place " ++ decimal x.place))
