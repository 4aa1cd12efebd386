-- What the desk's program says of two answers (Q-6; docs/DESK.md, 'Its lines').
use Rattle.std.specs.Prelude.{Bool, true, false}
use Rattle.desk.specs.declared.verdicts.Said.{Said}
use Rattle.desk.specs.declared.verdicts.Said.TheVariants.{Same, BothRefuse, Row, Refusals}

-- one of the two lines that say `same`
abbrev pub says_same : Said → Bool
says_same (Same rows greatest) = true
says_same (BothRefuse refusal) = true
says_same (Row row) = false
says_same (Refusals fast slow) = false
