-- Each promise of this crate allows one answer. Assumes nothing.
use mathlib.Core.List.{List}
use Prim.Native.Nat.{ℕ}
use Rattle.laws.proofs.OneAnswer.{OneAnswer, OneReading, same}
use Rattle.subarea.proofs.records.Kinds as records-kinds
use Rattle.subarea.proofs.records.Reads as records-reads
use Rattle.subarea.proofs.patches_pass.Kinds as patches-pass-kinds
use Rattle.subarea.proofs.patches_pass.Reads as patches-pass-reads
use Rattle.subarea.proofs.segments_pass.Kinds as segments-pass-kinds
use Rattle.subarea.proofs.segments_pass.Reads as segments-pass-reads
use Rattle.subarea.proofs.ground.Kinds as ground-kinds
use Rattle.subarea.proofs.ground.Reads as ground-reads
use Rattle.subarea.proofs.classes.Kinds as classes-kinds
use Rattle.subarea.proofs.classes.Reads as classes-reads
use Rattle.subarea.proofs.time.Kinds as time-kinds
use Rattle.subarea.proofs.time.Reads as time-reads
use Rattle.subarea.proofs.peak.Kinds as peak-kinds
use Rattle.subarea.proofs.peak.Reads as peak-reads

pub records_one : OneReading records-kinds.ps records-kinds.r {L = List (List ℕ)} (λ κs v. v.now) records-reads.Post
records_one κs a x y s t p q = same p q

pub patches_pass_one : OneAnswer patches-pass-kinds.ps patches-pass-kinds.r patches-pass-reads.Post
patches_pass_one κs a x y s t p q = same p q

pub segments_pass_one : OneAnswer segments-pass-kinds.ps segments-pass-kinds.r segments-pass-reads.Post
segments_pass_one κs a x y s t p q = same p q

pub ground_one : OneAnswer ground-kinds.ps ground-kinds.r ground-reads.Post
ground_one κs a x y s t p q = same p q

pub classes_one : OneAnswer classes-kinds.ps classes-kinds.r classes-reads.Post
classes_one κs a x y s t p q = same p q

pub time_one : OneAnswer time-kinds.ps time-kinds.r time-reads.Post
time_one κs a x y s t p q = same p q

pub peak_one : OneAnswer peak-kinds.ps peak-kinds.r peak-reads.Post
peak_one κs a x y s t p q = same p q
