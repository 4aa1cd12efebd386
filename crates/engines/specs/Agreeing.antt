-- What it is for both engines to agree (Q-6).
use Rattle.std.specs.Prelude.{◌≡◌}
use Rattle.checks.specs.Site.{Site, Rows}
use Rattle.inflow.specs.Inflow.{inflow_refusal, inflow_after}
use Rattle.textbook.specs.Textbook.{textbook_refusal, textbook_after}

-- on one site and one list of rows: the same answer, and the same inflow list afterwards
pub record EnginesAgree (x : Site) (l : Rows) : Type 0 where
  pub answers : textbook_refusal x l ≡ inflow_refusal x l
  pub rows : textbook_after x l ≡ inflow_after x l
