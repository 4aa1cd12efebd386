-- `textbook::add_records` meets its contract. Assumes nothing.
use mathlib.Core.Path.{◌≡◌}
use lib.ListN.{length}
use Rattle.laws.specs.Listed.{rows_from}
use Rattle.textbook.proofs.Rows.{textbook_to}
use Rattle.textbook.proofs.add_records.Given as goal

abbrev pub invariant-loop-own : goal.invariant-loop-own
invariant-loop-own l = l.rows ≡ rows_from (textbook_to l.setup l.rain l.subareas l.own-index) 1 (length l.initial.rows)
