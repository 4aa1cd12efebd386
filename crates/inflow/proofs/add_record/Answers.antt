-- `inflow::add_record` meets its contract. Assumes nothing.
use native.Mathlib.Omega.{arith}
use Rattle.inflow.proofs.Inflows.{numbers_ok}
use Rattle.inflow.proofs.add_record.Goals as goal

pub add_parts-requires : goal.add_parts-requires
add_parts-requires c =
    let room = c.requires.1.1.1 in
    (rw c.numbers.ensures (numbers_ok c.args.setup c.args.own.now c.requires.0 c.requires.1.0), (c.requires.1.1.0, (room, omega (arith, room.most))))
