-- `travel::manning::channel_time` meets its contract. Assumes nothing.
use lib.Dec.{lit≤}
use native.Mathlib.Omega.{arith}
use Rattle.laws.proofs.Num.{mul_fits}
use Rattle.roots.proofs.Powers.{root_ok}
use Rattle.travel.specs.TravelTime.{channel}
use Rattle.travel.proofs.Roots.{in_room, span_factor, channel_top, channel_bottom, channel_past, channel_fits}
use Rattle.travel.proofs.manning.channel_time.Goals as goal

pub overflow_mul-n : goal.overflow_mul-n
overflow_mul-n c = mul_fits 999 4000 c.requires.n_most c.requires.length_most tt

pub two_powers-top-requires : goal.two_powers-top-requires
two_powers-top-requires c =
    let p = c.requires in
    record { first = span_factor p.n_least p.n_most p.length_least p.length_most; second = omega arith; fits = in_room _ (channel_top p) tt }

pub three_powers-bottom-requires : goal.three_powers-bottom-requires
three_powers-bottom-requires c =
    let p = c.requires in
    record { first = omega arith; second = omega arith; third = omega arith; fits = in_room _ (channel_bottom p) tt }

pub root-requires : goal.root-requires
root-requires c =
    let p = c.requires in
    root_ok _ c.two_powers-top.ensures c.three_powers-bottom.ensures (lit≤ tt) (channel_past p) (channel_fits p)

pub returns : goal.returns
unfolding channel
returns c =
    let t = c.two_powers-top.ensures in
    let b = c.three_powers-bottom.ensures in
    rw (t.is, b.is) at c.root.ensures
