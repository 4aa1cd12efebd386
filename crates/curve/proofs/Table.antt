-- Every number of the cover table is from 30 to 98: one test, computed over the whole table, gives the rule at each place. Assumes nothing.
use mathlib.Core.Path.{◌≡◌, refl}
use mathlib.Core.Bool.{Bool}
use mathlib.Core.List.{[]}
use Prim.Native.Nat.{ℕ, ◌+◌, ◌-◌, ◌*◌, ◌/◌, ◌%◌}
use native.Mathlib.Omega.{arith}
use lib.ListN.{get_or}
use Rattle.laws.specs.Scan.{scan}
use Rattle.laws.specs.Within.{within}
use Rattle.laws.proofs.Tests.{kept}
use Rattle.laws.proofs.Scans.{scan_all}
use Rattle.curve.specs.CurveNumbers.{cover_table, cover_number}
use Rattle.curve.specs.Needs.{CoverOk, NumberOk}

-- place i of the table, four to a row
abbrev good : ℕ → Bool
good i = within 30 (get_or (get_or cover_table (i / 4) []) (i % 4) 0) 98

all_good : scan good 88 0 ≡ 88
unfolding scan cover_table
all_good = refl

-- each number of the table is a curve number
pub cover_ok : (cover soil : ℕ) → CoverOk cover soil → NumberOk (cover_number cover soil)
unfolding cover_number
cover_ok cover soil ok =
    let i = 4 * (cover - 1) + (soil - 1) in
    let row : i / 4 ≡ cover - 1 = omega arith in
    let group : i % 4 ≡ soil - 1 = omega arith in
    let r = kept 30 (get_or (get_or cover_table (cover - 1) []) (soil - 1) 0) 98 (rw (row, group) at (scan_all good 88 0 all_good i (omega arith) (omega arith))) in
    record { least = r.low; most = r.high }
