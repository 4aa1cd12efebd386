-- `pond::held_good` meets its contract. Assumes nothing.
use Rattle.laws.proofs.Num.{mul_fits}
use Rattle.pond.proofs.Table.held_good.Goals as goal

pub overflow_mul-result : goal.overflow_mul-result
overflow_mul-result c =
    mul_fits 1800 10000000 c.requires.0.most (rw c.discharge_of.ensures (c.args.self.now.sound.discharges c.args.i c.requires.1)) tt

pub returns : goal.returns
returns c = rw (c.storage_of.ensures, c.discharge_of.ensures)
