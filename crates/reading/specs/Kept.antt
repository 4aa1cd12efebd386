-- What the contracts cite: when a study that is lent stays as it was. Assumes nothing.
use Rattle.std.specs.Prelude.{◌≡◌, ⊤}
use Rattle.reading.specs.declared.faults.FileError.{FileError}
use Rattle.reading.specs.declared.faults.FileError.TheVariants.{Unopened, Unread, TooLong, Fault}
use Rattle.reading.specs.declared.study.Study.{Study}

-- after an error: only a fault of the text changes the study that was lent
abbrev pub KeptUnlessFault : FileError → Study → Study → Type 0
KeptUnlessFault Unopened old new = new ≡ old
KeptUnlessFault Unread old new = new ≡ old
KeptUnlessFault TooLong old new = new ≡ old
KeptUnlessFault (Fault f) old new = ⊤
