-- `wide::times_turns` meets its contract: after k turns there are k factors. Assumes nothing.
use Prim.Native.Nat.{◌*◌, ◌^◌}
use Rattle.wide.specs.Limbs.{value, Holds}
use Rattle.wide.proofs.times_turns.Given as goal

abbrev pub invariant-loop : goal.invariant-loop
invariant-loop l = Holds l.w (value l.initial.w * l.factor ^ l.counter)
