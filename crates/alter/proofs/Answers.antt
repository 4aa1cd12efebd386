-- Each promise of this crate allows one answer, and one later content of what it is lent. Assumes nothing.
use mathlib.Core.Path.{refl}
use mathlib.Core.List.{List}
use Prim.Native.Nat.{ℕ}
use Rattle.laws.proofs.OneAnswer.{OneAnswer, OneAnswerAnd, same}
use Rattle.alter.proofs.order.edit_checks.Kinds as edit-checks-kinds
use Rattle.alter.proofs.order.edit_checks.Reads as edit-checks-reads
use Rattle.alter.proofs.swap_block.Kinds as swap-block-kinds
use Rattle.alter.proofs.swap_block.Reads as swap-block-reads
use Rattle.alter.proofs.swap_rows.Kinds as swap-rows-kinds
use Rattle.alter.proofs.swap_rows.Reads as swap-rows-reads
use Rattle.alter.proofs.first_swapped.Kinds as first-swapped-kinds
use Rattle.alter.proofs.first_swapped.Reads as first-swapped-reads
use Rattle.alter.proofs.first_changed.Kinds as first-changed-kinds
use Rattle.alter.proofs.first_changed.Reads as first-changed-reads
use Rattle.alter.proofs.altered_classes.Kinds as altered-classes-kinds
use Rattle.alter.proofs.altered_classes.Reads as altered-classes-reads

pub edit_checks_one : OneAnswer edit-checks-kinds.ps edit-checks-kinds.r edit-checks-reads.Post
edit_checks_one κs a x y s t p q = same p q

pub swap_block_one : OneAnswerAnd swap-block-kinds.ps swap-block-kinds.r {L = List ℕ} (λ κs s. s.1.1.1.1.1.1.0.now) swap-block-reads.Post
swap_block_one κs a x y s t p q = (refl, same p q)

pub swap_rows_one : OneAnswerAnd swap-rows-kinds.ps swap-rows-kinds.r {L = List ℕ} (λ κs s. s.1.1.1.1.1.0.now) swap-rows-reads.Post
swap_rows_one κs a x y s t p q = (refl, same p q)

pub first_swapped_one : OneAnswer first-swapped-kinds.ps first-swapped-kinds.r first-swapped-reads.Post
first_swapped_one κs a x y s t p q = same p q

pub first_changed_one : OneAnswer first-changed-kinds.ps first-changed-kinds.r first-changed-reads.Post
first_changed_one κs a x y s t p q = same p q

pub altered_classes_one : OneAnswer altered-classes-kinds.ps altered-classes-kinds.r altered-classes-reads.Post
altered_classes_one κs a x y s t p q = same p q
