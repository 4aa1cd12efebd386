-- Each promise of this crate allows one answer, and one later content of what it is lent. Of the two lists that `fill_rows` works in it says only how long they are. Assumes nothing.
use mathlib.Core.Path.{refl}
use mathlib.Core.List.{List}
use Prim.Native.Nat.{ℕ}
use Rattle.laws.proofs.OneAnswer.{OneAnswer, OneAnswerAnd, same}
use Rattle.listing.proofs.list_peaks.Kinds as list-peaks-kinds
use Rattle.listing.proofs.list_peaks.Reads as list-peaks-reads
use Rattle.listing.proofs.fill_rows.Kinds as fill-rows-kinds
use Rattle.listing.proofs.fill_rows.Reads as fill-rows-reads
use Rattle.listing.proofs.over.over_row.Kinds as over-row-kinds
use Rattle.listing.proofs.over.over_row.Reads as over-row-reads

pub list_peaks_one : OneAnswerAnd list-peaks-kinds.ps list-peaks-kinds.r {L = List ℕ × List ℕ} (λ κs s. (s.1.1.0.now.peaks, s.1.1.0.now.totals)) list-peaks-reads.Post
list_peaks_one κs a x y s t p q = (refl, λ i. (same p.0 q.0 i, same p.1 q.1 i))

pub fill_rows_one : OneAnswerAnd fill-rows-kinds.ps fill-rows-kinds.r {L = List ℕ} (λ κs s. s.1.1.1.1.0.now) fill-rows-reads.Post
fill_rows_one κs a x y s t p q = (refl, same p.0 q.0)

pub over_row_one : OneAnswer over-row-kinds.ps over-row-kinds.r over-row-reads.Post
over_row_one κs a x y s t p q = same p.0 q.0
