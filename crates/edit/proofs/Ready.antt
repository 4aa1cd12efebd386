-- What the checks of an edit up to 13 leave. Assumes nothing.
use mathlib.Core.Path.{◌≡◌}
use mathlib.Core.List.{List, ◌++◌}
use Prim.Native.Nat.{ℕ}
use lib.ListN.{length}
use Rattle.checks.specs.Site.{Site, Rows}
use Rattle.subarea.specs.Records.{half_of, width}
use Rattle.refusals.specs.Refusals.{none, first_refusal}
use Rattle.checks.specs.Order.{list_lines, pond_lines}
use Rattle.refusals.proofs.Orders.{all_pass, both_pass}
use Rattle.checks.proofs.Ready.{half_ok, list_ok, pond_fits}
use Rattle.alter.specs.Altering.{altered, edit_check_lines}
use Rattle.alter.proofs.OnlyFresh.{fresh_ok}
use Rattle.alter.proofs.Ready.{place_lines, place_ready}
use Rattle.edit.specs.Needs.{EditOk}

pub edit_ok : (x : Site) (l : Rows) (k : ℕ) (r : List ℕ) → length r ≡ width → first_refusal (edit_check_lines x l k r) ≡ none → EditOk x l k r
edit_ok x l k r w e =
    let stands = list_lines x.setup x.subareas in
    let alters = list_lines x.setup (altered x.subareas k r) in
    let ponds = pond_lines (half_of x.setup) x.pond in
    let one = both_pass (place_lines x l k) (stands ++ (alters ++ ponds)) (all_pass (edit_check_lines x l k r) e) in
    let two = both_pass stands (alters ++ ponds) one.1 in
    let three = both_pass alters ponds two.1 in
    let ready = place_ready x l k r w one.0 in
    let run = ready.0 in
    let fresh = fresh_ok x.subareas k r ready.1 x.setup run.step three.0 in
    record {
      work = record { basin = record { run = run; list = list_ok x.setup x.subareas run.records run.step two.0 }; pond = pond_fits (half_of x.setup) x.pond (half_ok x.setup.step run.step) three.1 };
      place = ready.1;
      fresh = fresh.0;
      area = fresh.1;
    }
