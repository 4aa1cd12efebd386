-- `desk::compared` says `same` of every study, since both engines are lent zeros.
use Rattle.engines.proofs.EnginesAgree.{always_same}
use Rattle.desk.proofs.compared.Goals as goal

pub returns : goal.returns
returns c = rw (c.of.ensures, c.compare-verdict.ensures.value, always_same)
