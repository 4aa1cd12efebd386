-- `guarded::ponds::step` leaves a good state: the dry run of a list of one reaches it.
use Prim.Native.Nat.{ℕ, zero, suc, ◌≤◌, ◌<◌}
use mathlib.Core.List.{List, [], ◌∷◌}
use lib.ListN.{get_or}
use native.Mathlib.Omega.{arith}
use Rattle.pond.specs.Needs.{PondOk, StateOk}
use Rattle.pond.specs.declared.State.{State}
use Rattle.rows.specs.Routing.{passed}
use Rattle.rows.specs.Needs.{dry_of, InflowOk}
use Rattle.rows.proofs.Reached.{reach_ok}
use Rattle.guarded.proofs.ponds.step.Goals as goal

one_small : (v : ℕ) → v ≤ 1000000000000000 → InflowOk (v ∷ [])
one_small v l = record { small = go }
  where
    go : (i : ℕ) → i < 1 → get_or (v ∷ []) i 0 ≤ 1000000000000000
    go zero m = l
    go (suc i) m = absurd (omega arith)

last_ok : {h : ℕ} {p : List ℕ} (st : State) (vs : List ℕ) → PondOk h p → StateOk h p st → StateOk h p (dry_of h p st vs).last
unfolding dry_of
last_ok {h} {p} st vs ok so = reach_ok ok st (passed h p st vs) vs so (omega arith)

pub dry_run-requires : goal.dry_run-requires
dry_run-requires c = (one_small _ c.requires, omega arith)

pub returns : goal.returns
returns c =
    let v = c.args.level.now in
    rw c.dry_run.ensures (last_ok v.state _ v.pond.sound v.sound)
