-- Each promise of this crate allows one later content of the rows. Of the two lists that are worked in it says only how long they are. Assumes nothing.
use mathlib.Core.Path.{refl}
use mathlib.Core.List.{List}
use Prim.Native.Nat.{ℕ}
use Rattle.laws.proofs.OneAnswer.{OneAnswerAnd, same}
use Rattle.parts.proofs.add_block.Kinds as add-block-kinds
use Rattle.parts.proofs.add_block.Reads as add-block-reads
use Rattle.parts.proofs.add_parts.Kinds as add-parts-kinds
use Rattle.parts.proofs.add_parts.Reads as add-parts-reads
use Rattle.parts.proofs.add_from.Kinds as add-from-kinds
use Rattle.parts.proofs.add_from.Reads as add-from-reads
use Rattle.parts.proofs.add_all.Kinds as add-all-kinds
use Rattle.parts.proofs.add_all.Reads as add-all-reads

pub add_block_one : OneAnswerAnd add-block-kinds.ps add-block-kinds.r {L = List ℕ} (λ κs s. s.1.1.1.1.0.now) add-block-reads.Post
add_block_one κs a x y s t p q = (refl, same p q)

pub add_parts_one : OneAnswerAnd add-parts-kinds.ps add-parts-kinds.r {L = List ℕ} (λ κs s. s.1.1.1.1.0.now) add-parts-reads.Post
add_parts_one κs a x y s t p q = (refl, same p q)

pub add_from_one : OneAnswerAnd add-from-kinds.ps add-from-kinds.r {L = List ℕ} (λ κs s. s.1.1.1.1.0.now) add-from-reads.Post
add_from_one κs a x y s t p q = (refl, same p.0 q.0)

pub add_all_one : OneAnswerAnd add-all-kinds.ps add-all-kinds.r {L = List ℕ} (λ κs s. s.1.1.1.0.now) add-all-reads.Post
add_all_one κs a x y s t p q = (refl, same p.0 q.0)
