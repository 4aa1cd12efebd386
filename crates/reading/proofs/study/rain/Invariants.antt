-- `reading::study::rain` has as many as it has read.
use Rattle.std.proofs.Common.{◌≡◌}
use Rattle.arrayvec.specs.ArrayVec.{array_vec_len}
use Rattle.reading.proofs.study.rain.Given as goal

abbrev pub invariant-loop-k : goal.invariant-loop-k
invariant-loop-k l = array_vec_len l.rain ≡ l.k
